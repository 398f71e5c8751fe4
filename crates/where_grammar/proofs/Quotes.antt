-- Texts in quotes, byte by byte.
use Rattle.std.proofs.Common.{◌≡◌, ℕ, Bool, true, false, List, [], ◌∷◌, ◌++◌, refl, sym, ap, subst, ◌∙◌, inl, inr, eqb, eqb-true, eq-eqb}
use Rattle.std.specs.Prelude.{Option, Some, None}
use Rattle.std.specs.Option.{option_map}
use Rattle.where_grammar.specs.Tokens.{doubled, with_byte, unquoted}
use Rattle.lexing.specs.Blanks.{StopsAt}
use Rattle.lexing.proofs.Cases.{chosen, mapped}

-- ---- one step

unquoted-other : (q b : ℕ) (bs : List ℕ) → eqb b q ≡ false → unquoted q (b ∷ bs) ≡ with_byte b (unquoted q bs)
unquoted-other q b [] e = rw e refl
unquoted-other q b (c ∷ bs) e = rw e refl

unquoted-twice : (q b c : ℕ) (bs : List ℕ) → eqb b q ≡ true → eqb c q ≡ true → unquoted q (b ∷ c ∷ bs) ≡ with_byte q (unquoted q bs)
unquoted-twice q b c bs e f = rw (e, f) refl

unquoted-end : (q b : ℕ) (bs : List ℕ) → eqb b q ≡ true → StopsAt (λ c. eqb c q) bs → unquoted q (b ∷ bs) ≡ Some ([], bs)
unquoted-end q b [] e stops = rw e refl
unquoted-end q b (c ∷ bs) e stops = rw (e, stops) refl

-- a front put before the text that is found
abbrev pub put : List ℕ → Option (List ℕ × List ℕ) → Option (List ℕ × List ℕ)
put front = option_map (λ f. (front ++ f.0, f.1))

-- ---- what a text in quotes tells of the bytes

-- up to the quote that ends it
abbrev pub IsCut : ℕ → List ℕ → List ℕ × List ℕ → Type 0
IsCut q text found = (text ≡ doubled q found.0 ++ (q ∷ found.1)) × StopsAt (λ c. eqb c q) found.1

quote_twice : (q : ℕ) (word : List ℕ) → doubled q (q ∷ word) ≡ q ∷ q ∷ doubled q word
quote_twice q word = let same : eqb q q ≡ true = eq-eqb q q refl in rw same refl

byte_once : (q b : ℕ) (word : List ℕ) → eqb b q ≡ false → doubled q (b ∷ word) ≡ b ∷ doubled q word
byte_once q b word e = rw e refl

cut_twice : (q b c : ℕ) (bs : List ℕ) (found : List ℕ × List ℕ) → eqb b q ≡ true → eqb c q ≡ true → IsCut q bs found → IsCut q (b ∷ c ∷ bs) (q ∷ found.0, found.1)
cut_twice q b c bs found e f is =
    let first : b ≡ q = eqb-true b q e in
    let second : c ≡ q = eqb-true c q f in
    (ap (λ x. x ∷ c ∷ bs) first ∙ (ap (λ x. q ∷ x ∷ bs) second ∙ (ap (λ xs. q ∷ q ∷ xs) is.0 ∙ ap (λ xs. xs ++ (q ∷ found.1)) (sym (quote_twice q found.0)))), is.1)

cut_once : (q b : ℕ) (bs : List ℕ) (found : List ℕ × List ℕ) → eqb b q ≡ false → IsCut q bs found → IsCut q (b ∷ bs) (b ∷ found.0, found.1)
cut_once q b bs found e is = (ap (λ xs. b ∷ xs) is.0 ∙ ap (λ xs. xs ++ (q ∷ found.1)) (sym (byte_once q b found.0 e)), is.1)

cut_end : (q b : ℕ) (bs : List ℕ) → eqb b q ≡ true → StopsAt (λ c. eqb c q) bs → IsCut q (b ∷ bs) ([], bs)
cut_end q b bs e stops = (ap (λ x. x ∷ bs) (eqb-true b q e), stops)

pub unquoted_cuts : (q : ℕ) (text : List ℕ) (found : List ℕ × List ℕ) → unquoted q text ≡ Some found → IsCut q text found
unquoted_cuts q [] found e = absurd cc
unquoted_cuts q (b ∷ []) found e =
    elim (chosen (eqb b q) (Some ([], [])) None (Some found) e) [
      | inl h ↦ (let same : ([], []) ≡ found = cc in subst (IsCut q (b ∷ [])) same (cut_end q b [] h.0 tt))
      | inr h ↦ absurd cc
    ]
unquoted_cuts q (b ∷ c ∷ bs) found e =
    let quoted = with_byte q (unquoted q bs) in
    let others = with_byte b (unquoted q (c ∷ bs)) in
    elim (chosen (eqb b q) _ others (Some found) e) [
      | inl h ↦ elim (chosen (eqb c q) quoted (Some ([], c ∷ bs)) (Some found) h.1) [
        | inl g ↦ (
            let m = mapped (λ f. (q ∷ f.0, f.1)) (unquoted q bs) found g.1 in
            subst (IsCut q (b ∷ c ∷ bs)) m.1.1 (cut_twice q b c bs m.0 h.0 g.0 (unquoted_cuts q bs m.0 m.1.0)))
        | inr g ↦ (let same : ([], c ∷ bs) ≡ found = cc in subst (IsCut q (b ∷ c ∷ bs)) same (cut_end q b (c ∷ bs) h.0 g.0))
      ]
      | inr h ↦ (
          let m = mapped (λ f. (b ∷ f.0, f.1)) (unquoted q (c ∷ bs)) found h.1 in
          subst (IsCut q (b ∷ c ∷ bs)) m.1.1 (cut_once q b (c ∷ bs) m.0 h.0 (unquoted_cuts q (c ∷ bs) m.0 m.1.0)))
    ]

-- ---- and the other way

again_by : (q b : ℕ) (word rest : List ℕ) (same : Bool) → eqb b q ≡ same → unquoted q (doubled q word ++ (q ∷ rest)) ≡ Some (word, rest) → unquoted q (doubled q (b ∷ word) ++ (q ∷ rest)) ≡ Some (b ∷ word, rest)
again_by q b word rest true e again =
    let quote : q ≡ b = sym (eqb-true b q e) in
    let is : eqb q q ≡ true = eq-eqb q q refl in
    subst (λ x. unquoted q (doubled q (x ∷ word) ++ (q ∷ rest)) ≡ Some (x ∷ word, rest)) quote
    (ap (λ xs. unquoted q (xs ++ (q ∷ rest))) (quote_twice q word) ∙ (unquoted-twice q q q (doubled q word ++ (q ∷ rest)) is is ∙ ap (with_byte q) again))
again_by q b word rest false e again =
    ap (λ xs. unquoted q (xs ++ (q ∷ rest))) (byte_once q b word e) ∙ (unquoted-other q b (doubled q word ++ (q ∷ rest)) e ∙ ap (with_byte b) again)

pub unquoted_again : (q : ℕ) (word rest : List ℕ) → StopsAt (λ c. eqb c q) rest → unquoted q (doubled q word ++ (q ∷ rest)) ≡ Some (word, rest)
unquoted_again q [] rest stops = unquoted-end q q rest (eq-eqb q q refl) stops
unquoted_again q (b ∷ word) rest stops = again_by q b word rest (eqb b q) refl (unquoted_again q word rest stops)
