-- A token has at least one byte.
use Rattle.std.proofs.Common.{◌≡◌, ℕ, ◌<◌, Bool, true, false, cond, List, [], ◌∷◌, length, take, drop, refl, ap, arith, eqb, inl, inr}
use Rattle.std.specs.Prelude.{Option, Some, None, Result, Ok, Err}
use Rattle.std.specs.List.{prefix_len}
use Rattle.std.specs.Char.{is_ascii_digit}
use Rattle.std.specs.Str.{str_to_ascii_lowercase}
use Rattle.std.proofs.lemmas.List.Sums.{prefix_len-le-length}
use Rattle.std.proofs.lemmas.Bool.Decides.{nat_tests}
use Rattle.where_grammar.specs.declared.token.Sign.{Sign}
use Rattle.where_grammar.specs.declared.token.Token.{Token}
use Rattle.where_grammar.specs.declared.token.Token.TheVariants as t
use Rattle.where_grammar.specs.declared.token.Placed.{Placed}
use Rattle.where_grammar.specs.declared.clause.QueryKind.{QueryKind}
use Rattle.where_grammar.specs.Tokens.{is_quote, unquoted, with_byte, text_at, begins_word, in_word, double_sign, single_sign, single_before, longest, word_at, number_at, sign_at, token_at, excess, limited, within_limits, placed_at, reader}
use Rattle.lexing.specs.Digits.{natural_at, signed}
use Rattle.lexing.proofs.Cases.{chosen, mapped}
use Rattle.lexing.proofs.DigitLemmas.{natural_at-shorter}
use Rattle.lexing.proofs.Runs.{dropped_less}

number_at_shorter : (is_negative : Bool) (text : List ℕ) (found : Token × List ℕ) → number_at is_negative text ≡ Some found → length found.1 < length text
unfolding number_at
number_at_shorter is_negative text found e =
    let h = mapped (λ f. (t.Number (signed is_negative f.0), f.1)) (natural_at text) found e in
    let less = natural_at-shorter text h.0 h.1.0 in
    let same : length h.0.1 ≡ length found.1 = ap (λ f. length f.1) h.1.1 in
    omega arith

starts_word : (b : ℕ) (bs : List ℕ) → begins_word b ≡ true → eqb (prefix_len in_word (b ∷ bs)) 0 ≡ false
starts_word b bs e = rw e (grind (arith, nat_tests))

word_at_shorter : (b : ℕ) (bs : List ℕ) (found : Token × List ℕ) → begins_word b ≡ true → Some (word_at (b ∷ bs)) ≡ Some found → length found.1 < length (b ∷ bs)
unfolding word_at
word_at_shorter b bs found begins e =
    let n = prefix_len in_word (b ∷ bs) in
    let same : (t.Word (str_to_ascii_lowercase (take n (b ∷ bs))), drop n (b ∷ bs)) ≡ found = cc in
    dropped_less n (b ∷ bs) found.1 (starts_word b bs begins) (prefix_len-le-length in_word (b ∷ bs)) (ap (λ f. f.1) same)

single_shorter : (b : ℕ) (bs : List ℕ) (found : Token × List ℕ) → single_before b bs ≡ Some found → length found.1 < length (b ∷ bs)
single_shorter b bs found e =
    let h = mapped (λ s. (t.Sign s, bs)) (single_sign b) found e in
    let same : length bs ≡ length found.1 = ap (λ f. length f.1) h.1.1 in
    omega arith

longest_shorter : (two : Option Sign) (a b : ℕ) (rest : List ℕ) (found : Token × List ℕ) → longest two rest (single_before a (b ∷ rest)) ≡ Some found → length found.1 < length (a ∷ b ∷ rest)
longest_shorter None a b rest found e = single_shorter a (b ∷ rest) found e
longest_shorter (Some s) a b rest found e =
    let same : (t.Sign s, rest) ≡ found = cc in
    let len : length rest ≡ length found.1 = ap (λ f. length f.1) same in
    omega arith

sign_at_shorter : (text : List ℕ) (found : Token × List ℕ) → sign_at text ≡ Some found → length found.1 < length text
unfolding sign_at
sign_at_shorter [] found e = cc
sign_at_shorter (a ∷ []) found e = single_shorter a [] found e
sign_at_shorter (a ∷ b ∷ rest) found e = longest_shorter (double_sign a b) a b rest found e

with_byte_shorter : (b : ℕ) (o : Option (List ℕ × List ℕ)) (n : ℕ) (found : List ℕ × List ℕ) → ((f : List ℕ × List ℕ) → o ≡ Some f → length f.1 < n) → with_byte b o ≡ Some found → length found.1 < n
with_byte_shorter b o n found shorter e =
    let h = mapped (λ f. (b ∷ f.0, f.1)) o found e in
    let same : length h.0.1 ≡ length found.1 = ap (λ f. length f.1) h.1.1 in
    let less = shorter h.0 h.1.0 in
    omega arith

unquoted_shorter : (quote : ℕ) (text : List ℕ) (found : List ℕ × List ℕ) → unquoted quote text ≡ Some found → length found.1 < length text
unquoted_shorter q [] found e = cc
unquoted_shorter q (b ∷ []) found e =
    elim (chosen (eqb b q) (Some ([], [])) None (Some found) e) [
      | inl h ↦ (let same : ◌≡◌ {A = List ℕ × List ℕ} ([], []) found = cc in let len : 0 ≡ length found.1 = ap (λ f. length f.1) same in omega arith)
      | inr h ↦ absurd cc
    ]
unquoted_shorter q (b ∷ c ∷ bs) found e =
    let quoted = with_byte q (unquoted q bs) in
    let others = with_byte b (unquoted q (c ∷ bs)) in
    elim (chosen (eqb b q) _ others (Some found) e) [
      | inl h ↦ elim (chosen (eqb c q) quoted (Some ([], c ∷ bs)) (Some found) h.1) [
        | inl g ↦ (let less = with_byte_shorter q (unquoted q bs) (length bs) found (unquoted_shorter q bs) g.1 in omega arith)
        | inr g ↦ (let same : ◌≡◌ {A = List ℕ × List ℕ} ([], c ∷ bs) found = cc in let len : length (c ∷ bs) ≡ length found.1 = ap (λ f. length f.1) same in omega arith)
      ]
      | inr h ↦ (let less = with_byte_shorter b (unquoted q (c ∷ bs)) (length (c ∷ bs)) found (unquoted_shorter q (c ∷ bs)) h.1 in omega arith)
    ]

text_at_shorter : (quote : ℕ) (text : List ℕ) (found : Token × List ℕ) → text_at quote text ≡ Some found → length found.1 < length text
unfolding text_at
text_at_shorter quote text found e =
    let h = mapped (λ f. (t.Text f.0, f.1)) (unquoted quote text) found e in
    let same : length h.0.1 ≡ length found.1 = ap (λ f. length f.1) h.1.1 in
    let shorter = unquoted_shorter quote text h.0 h.1.0 in
    omega arith

token_at_shorter : (text : List ℕ) (found : Token × List ℕ) → token_at text ≡ Some found → length found.1 < length text
unfolding token_at
token_at_shorter [] found e = cc
token_at_shorter (b ∷ bs) found e =
    let text : Option (Token × List ℕ) = text_at b bs in
    let sign : Option (Token × List ℕ) = cond (is_quote b) text (sign_at (b ∷ bs)) in
    let word : Option (Token × List ℕ) = Some (word_at (b ∷ bs)) in
    let digits : Option (Token × List ℕ) = number_at false (b ∷ bs) in
    let plus : Option (Token × List ℕ) = number_at false bs in
    let others = cond (is_ascii_digit b) digits (cond (begins_word b) word sign) in
    elim (chosen (eqb b 45) (number_at true bs) (cond (eqb b 43) plus others) (Some found) e) [
      | inl h ↦ (let s = number_at_shorter true bs found h.1 in omega arith)
      | inr h ↦ elim (chosen (eqb b 43) plus others (Some found) h.1) [
        | inl g ↦ (let s = number_at_shorter false bs found g.1 in omega arith)
        | inr g ↦ elim (chosen (is_ascii_digit b) digits (cond (begins_word b) word sign) (Some found) g.1) [
          | inl f ↦ number_at_shorter false (b ∷ bs) found f.1
          | inr f ↦ elim (chosen (begins_word b) word sign (Some found) f.1) [
            | inl k ↦ word_at_shorter b bs found k.0 k.1
            | inr k ↦ elim (chosen (is_quote b) text (sign_at (b ∷ bs)) (Some found) k.1) [
              | inl l ↦ (let s = text_at_shorter b bs found l.1 in omega arith)
              | inr l ↦ sign_at_shorter (b ∷ bs) found l.1
            ]
          ]
        ]
      ]
    ]

limited_shorter : (text : List ℕ) (f : Token × List ℕ) (o : Option QueryKind) (found : Token × List ℕ) → length f.1 < length text → limited f o ≡ Ok found → length found.1 < length text
limited_shorter text f None found less e =
    let same : f ≡ found = cc in
    let len : length f.1 ≡ length found.1 = ap (λ x. length x.1) same in
    omega arith
limited_shorter text f (Some k) found less e = absurd cc

within_shorter : (text : List ℕ) (o : Option (Token × List ℕ)) (found : Token × List ℕ) → token_at text ≡ o → within_limits o ≡ Ok found → length found.1 < length text
within_shorter text None found is e = absurd cc
within_shorter text (Some f) found is e = limited_shorter text f (excess f.0) found (token_at_shorter text f is) e

placed_shorter : (at : ℕ) (text : List ℕ) (r : Result (Token × List ℕ) QueryKind) (found : Placed × List ℕ) → ((f : Token × List ℕ) → r ≡ Ok f → length f.1 < length text) → placed_at at r ≡ Ok found → length found.1 < length text
placed_shorter at text (Ok f) found shorter e =
    let same : (record { at = at; token = f.0 }, f.1) ≡ found = cc in
    let len : length f.1 ≡ length found.1 = ap (λ x. length x.1) same in
    let less = shorter f refl in
    omega arith
placed_shorter at text (Err k) found shorter e = absurd cc

pub reader-shorter : (at : ℕ) (text : List ℕ) (found : Placed × List ℕ) → reader at text ≡ Ok found → length found.1 < length text
reader-shorter at text found e = placed_shorter at text (within_limits (token_at text)) found (λ f is. within_shorter text (token_at text) f refl is) e
