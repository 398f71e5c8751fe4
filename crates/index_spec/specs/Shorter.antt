-- A token has at least one byte.
use Rattle.std.proofs.Common.{◌≡◌, ℕ, ◌<◌, Bool, true, false, cond, List, [], ◌∷◌, length, take, drop, refl, ap, ◌∙◌, arith, eqb, inl, inr}
use Rattle.std.specs.Prelude.{Option, Some, None, Ok}
use Rattle.std.specs.Option.{option_map}
use Rattle.std.specs.List.{prefix_len}
use Rattle.std.specs.Char.{is_ascii_digit}
use Rattle.std.proofs.lemmas.List.Sums.{prefix_len-le-length}
use Rattle.std.proofs.lemmas.Bool.Decides.{nat_tests}
use Rattle.index_spec.specs.declared.token.Token.{Token}
use Rattle.index_spec.specs.declared.token.Token.TheVariants as t
use Rattle.index_spec.specs.Words.{word_of}
use Rattle.index_spec.specs.Tokens.{is_letter, in_word, sign_of, magnitude, word_at, number_at, token_at, told, reader}
use Rattle.lexing.specs.Digits.{natural_at, signed}
use Rattle.lexing.proofs.Cases.{chosen, mapped}
use Rattle.lexing.proofs.DigitLemmas.{natural_at-shorter}
use Rattle.lexing.proofs.Runs.{dropped_less}

number_at_shorter : (is_negative : Bool) (text : List ℕ) (found : Token × List ℕ) → number_at is_negative text ≡ Some found → length found.1 < length text
unfolding number_at
number_at_shorter is_negative text found e =
    let h = mapped (λ f. (t.Number (signed is_negative (magnitude f.0)), f.1)) (natural_at text) found e in
    let less = natural_at-shorter text h.0 h.1.0 in
    let same : length h.0.1 ≡ length found.1 = ap (λ f. length f.1) h.1.1 in
    omega arith

letter_in_word : (b : ℕ) (bs : List ℕ) → is_letter b ≡ true → eqb (prefix_len in_word (b ∷ bs)) 0 ≡ false
letter_in_word b bs e = rw e (grind (arith, nat_tests))

word_at_shorter : (b : ℕ) (bs : List ℕ) (found : Token × List ℕ) → is_letter b ≡ true → word_at (b ∷ bs) ≡ Some found → length found.1 < length (b ∷ bs)
unfolding word_at
word_at_shorter b bs found letter e =
    let n = prefix_len in_word (b ∷ bs) in
    let h = mapped (λ w. (t.Word w, drop n (b ∷ bs))) (word_of (take n (b ∷ bs))) found e in
    dropped_less n (b ∷ bs) found.1 (letter_in_word b bs letter) (prefix_len-le-length in_word (b ∷ bs)) (ap (λ f. f.1) h.1.1)

sign_shorter : (b : ℕ) (bs : List ℕ) (found : Token × List ℕ) → option_map (λ sign. (sign, bs)) (sign_of b) ≡ Some found → length found.1 < length (b ∷ bs)
sign_shorter b bs found e =
    let h = mapped (λ sign. (sign, bs)) (sign_of b) found e in
    let same : length bs ≡ length found.1 = ap (λ f. length f.1) h.1.1 in
    omega arith

token_at_shorter : (text : List ℕ) (found : Token × List ℕ) → token_at text ≡ Some found → length found.1 < length text
unfolding token_at
token_at_shorter [] found e = cc
token_at_shorter (b ∷ bs) found e =
    let sign : Option (Token × List ℕ) = option_map (λ sign. (sign, bs)) (sign_of b) in
    let number : Option (Token × List ℕ) = number_at false (b ∷ bs) in
    let word : Option (Token × List ℕ) = word_at (b ∷ bs) in
    elim (chosen (eqb b 45) (number_at true bs) (cond (is_letter b) word (cond (is_ascii_digit b) number sign)) (Some found) e) [
      | inl h ↦ (let s = number_at_shorter true bs found h.1 in omega arith)
      | inr h ↦ elim (chosen (is_letter b) word (cond (is_ascii_digit b) number sign) (Some found) h.1) [
        | inl g ↦ word_at_shorter b bs found g.0 g.1
        | inr g ↦ elim (chosen (is_ascii_digit b) number sign (Some found) g.1) [
          | inl f ↦ number_at_shorter false (b ∷ bs) found f.1
          | inr f ↦ sign_shorter b bs found f.1
        ]
      ]
    ]

told_shorter : (text : List ℕ) (o : Option (Token × List ℕ)) (found : Token × List ℕ) → token_at text ≡ o → told o ≡ Ok found → length found.1 < length text
told_shorter text None found is e = absurd cc
told_shorter text (Some f) found is e =
    let same : f ≡ found = cc in
    token_at_shorter text found (is ∙ ap Some same)

pub reader-shorter : (at : ℕ) (text : List ℕ) (found : Token × List ℕ) → reader at text ≡ Ok found → length found.1 < length text
reader-shorter at text found e = told_shorter text (token_at text) found refl e
