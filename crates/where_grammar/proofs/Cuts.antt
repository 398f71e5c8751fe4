-- What the token that is read at the front tells of the text.
use Rattle.std.proofs.Common.{◌≡◌, ℕ, suc, ◌+◌, Bool, true, false, cond, List, [], ◌∷◌, ◌++◌, take, drop, refl, sym, ap, subst, ◌∙◌, inl, inr, eqb, eqb-true, append_assoc, arith}
use Rattle.std.specs.Prelude.{Option, Some, None, is_some}
use Rattle.std.specs.List.{prefix_len, list_all}
use Rattle.std.specs.Char.{is_ascii_digit}
use Rattle.std.specs.Str.{str_to_ascii_lowercase}
use Rattle.std.proofs.lemmas.List.{take-append-drop}
use Rattle.std.proofs.lemmas.Bool.Decides.{nat_tests}
use Rattle.fb_types.specs.Field.{whole_of}
use Rattle.where_grammar.specs.declared.token.Sign.{Sign}
use Rattle.where_grammar.specs.declared.token.Token.{Token}
use Rattle.where_grammar.specs.declared.token.Token.TheVariants as t
use Rattle.lexing.specs.Blanks.{StopsAt}
use Rattle.lexing.specs.Digits.{natural_at, natural_of, signed}
use Rattle.lexing.proofs.DigitLemmas.{natural_at-cut, natural_of-some}
use Rattle.where_grammar.specs.Tokens.{is_quote, doubled, IsQuoted, IsInFront, unquoted, text_at, is_word, goes_on, begins_word, in_word, double_sign, single_sign, single_before, longest, word_at, number_at, sign_at, token_at}
use Rattle.where_grammar.proofs.Quotes.{unquoted_cuts}
use Rattle.lexing.proofs.Cases.{chosen, mapped}
use Rattle.std.proofs.lemmas.Bool.{and_parts}
use Rattle.lexing.proofs.Runs.{front_passes, rest_stops}

abbrev CutsAt : List ℕ → Token × List ℕ → Type 0
CutsAt text found = IsInFront text found.0 found.1

-- ---- numbers

pub whole_of-minus : (ds : List ℕ) (n : ℕ) → natural_of ds ≡ Some n → whole_of (45 ∷ ds) ≡ Some (signed true n)
whole_of-minus ds n is = rw is refl

pub whole_of-plus : (ds : List ℕ) (n : ℕ) → natural_of ds ≡ Some n → whole_of (43 ∷ ds) ≡ Some (signed false n)
whole_of-plus ds n is = rw is refl

pub no_minus : (d : ℕ) → is_ascii_digit d ≡ true → eqb d 45 ≡ false
no_minus d e = grind (arith, nat_tests)

pub no_plus : (d : ℕ) → is_ascii_digit d ≡ true → eqb d 43 ≡ false
no_plus d e = grind (arith, nat_tests)

pub whole_of-plain : (ds : List ℕ) (n : ℕ) → natural_of ds ≡ Some n → whole_of ds ≡ Some (signed false n)
whole_of-plain [] n is = absurd cc
whole_of-plain (d ∷ ds) n is =
    let digit = (and_parts (is_ascii_digit d) (list_all is_ascii_digit ds) (natural_of-some (d ∷ ds) n is).all).0 in
    rw (no_minus d digit, no_plus d digit, is) refl

abbrev Begins : List ℕ → Bool → Type 0
Begins front is_negative = (ds : List ℕ) (n : ℕ) → natural_of ds ≡ Some n → whole_of (front ++ ds) ≡ Some (signed is_negative n)

number_cuts : (front : List ℕ) (is_negative : Bool) (text : List ℕ) (found : Token × List ℕ) → Begins front is_negative → number_at is_negative text ≡ Some found → CutsAt (front ++ text) found
unfolding number_at
number_cuts front is_negative text found begins e =
    let h = mapped (λ f. (t.Number (signed is_negative f.0), f.1)) (natural_at text) found e in
    let at = natural_at-cut text h.0 h.1.0 in
    let cut : front ++ text ≡ (front ++ at.digits) ++ h.0.1 = ap (λ x. front ++ x) at.cut ∙ sym (append_assoc front at.digits h.0.1) in
    subst (CutsAt (front ++ text)) h.1.1 (record { form = front ++ at.digits; cut = cut; written = begins at.digits h.0.0 at.natural; ends = at.ends })

sign_number_cuts : (b byte : ℕ) (bs : List ℕ) (is_negative : Bool) (found : Token × List ℕ) → Begins (byte ∷ []) is_negative → eqb b byte ≡ true → number_at is_negative bs ≡ Some found → CutsAt (b ∷ bs) found
sign_number_cuts b byte bs is_negative found begins same e =
    let byte_is : byte ≡ b = sym (eqb-true b byte same) in
    subst (λ m. CutsAt (m ∷ bs) found) byte_is (number_cuts (byte ∷ []) is_negative bs found begins e)

-- ---- words

pub begins_in_word : (b : ℕ) → begins_word b ≡ true → in_word b ≡ true
begins_in_word b e = rw e refl

front_is_word : (b : ℕ) (bs : List ℕ) → begins_word b ≡ true → is_word (take (prefix_len in_word (b ∷ bs)) (b ∷ bs)) ≡ true
front_is_word b bs begins =
    let n : 1 + prefix_len in_word bs ≡ suc (prefix_len in_word bs) = omega arith in
    rw (begins_in_word b begins, n, begins, front_passes in_word bs) refl

word_cuts : (b : ℕ) (bs : List ℕ) (found : Token × List ℕ) → begins_word b ≡ true → Some (word_at (b ∷ bs)) ≡ Some found → CutsAt (b ∷ bs) found
unfolding word_at
word_cuts b bs found begins e =
    let n = prefix_len in_word (b ∷ bs) in
    let form = take n (b ∷ bs) in
    let same : (t.Word (str_to_ascii_lowercase form), drop n (b ∷ bs)) ≡ found = cc in
    subst (CutsAt (b ∷ bs)) same (record { form = form; cut = sym (take-append-drop n (b ∷ bs)); written = (front_is_word b bs begins, refl); ends = rest_stops in_word (b ∷ bs) })

-- ---- signs

single_cuts : (b : ℕ) (rest : List ℕ) (found : Token × List ℕ) → StopsAt (λ c. is_some (double_sign b c)) rest → single_before b rest ≡ Some found → CutsAt (b ∷ rest) found
single_cuts b rest found stops e =
    let h = mapped (λ s. (t.Sign s, rest)) (single_sign b) found e in
    subst (CutsAt (b ∷ rest)) h.1.1 (record { form = b ∷ []; cut = refl; written = h.1.0; ends = stops })

-- no sign has three bytes
double_ends : (a b : ℕ) (s : Sign) (rest : List ℕ) → StopsAt (goes_on (a ∷ b ∷ []) (t.Sign s)) rest
double_ends a b s [] = tt
double_ends a b s (c ∷ rest) = refl

longest_cuts : (a b : ℕ) (rest : List ℕ) (two : Option Sign) (found : Token × List ℕ) → double_sign a b ≡ two → longest two rest (single_before a (b ∷ rest)) ≡ Some found → CutsAt (a ∷ b ∷ rest) found
longest_cuts a b rest None found is e = single_cuts a (b ∷ rest) found (rw is refl) e
longest_cuts a b rest (Some s) found is e =
    let same : (t.Sign s, rest) ≡ found = cc in
    subst (CutsAt (a ∷ b ∷ rest)) same (record { form = a ∷ b ∷ []; cut = refl; written = is; ends = double_ends a b s rest })

sign_cuts : (text : List ℕ) (found : Token × List ℕ) → sign_at text ≡ Some found → CutsAt text found
unfolding sign_at
sign_cuts [] found e = absurd cc
sign_cuts (a ∷ []) found e = single_cuts a [] found tt e
sign_cuts (a ∷ b ∷ rest) found e = longest_cuts a b rest (double_sign a b) found refl e

-- ---- texts

text_cuts : (quote : ℕ) (text : List ℕ) (found : Token × List ℕ) → is_quote quote ≡ true → text_at quote text ≡ Some found → CutsAt (quote ∷ text) found
unfolding text_at
text_cuts quote text found is e =
    let h = mapped (λ f. (t.Text f.0, f.1)) (unquoted quote text) found e in
    let word = h.0.0 in
    let rest = h.0.1 in
    let told = unquoted_cuts quote text h.0 h.1.0 in
    let form = quote ∷ (doubled quote word ++ quote ∷ []) in
    let cut : quote ∷ text ≡ form ++ rest = ap (λ xs. quote ∷ xs) (told.0 ∙ sym (append_assoc (doubled quote word) (quote ∷ []) rest)) in
    let written : IsQuoted form word = record { quote = quote; is_one = is; cut = refl } in
    subst (CutsAt (quote ∷ text)) h.1.1 (record { form = form; cut = cut; written = written; ends = told.1 })

-- ---- every token

pub token_cuts : (text : List ℕ) (found : Token × List ℕ) → token_at text ≡ Some found → CutsAt text found
unfolding token_at
token_cuts [] found e = absurd cc
token_cuts (b ∷ bs) found e =
    let text : Option (Token × List ℕ) = text_at b bs in
    let sign : Option (Token × List ℕ) = cond (is_quote b) text (sign_at (b ∷ bs)) in
    let word : Option (Token × List ℕ) = Some (word_at (b ∷ bs)) in
    let digits : Option (Token × List ℕ) = number_at false (b ∷ bs) in
    let plus : Option (Token × List ℕ) = number_at false bs in
    let others = cond (is_ascii_digit b) digits (cond (begins_word b) word sign) in
    elim (chosen (eqb b 45) (number_at true bs) (cond (eqb b 43) plus others) (Some found) e) [
      | inl h ↦ sign_number_cuts b 45 bs true found whole_of-minus h.0 h.1
      | inr h ↦ elim (chosen (eqb b 43) plus others (Some found) h.1) [
        | inl g ↦ sign_number_cuts b 43 bs false found whole_of-plus g.0 g.1
        | inr g ↦ elim (chosen (is_ascii_digit b) digits (cond (begins_word b) word sign) (Some found) g.1) [
          | inl f ↦ number_cuts [] false (b ∷ bs) found whole_of-plain f.1
          | inr f ↦ elim (chosen (begins_word b) word sign (Some found) f.1) [
            | inl k ↦ word_cuts b bs found k.0 k.1
            | inr k ↦ elim (chosen (is_quote b) text (sign_at (b ∷ bs)) (Some found) k.1) [
              | inl l ↦ text_cuts b bs found l.0 l.1
              | inr l ↦ sign_cuts (b ∷ bs) found l.1
            ]
          ]
        ]
      ]
    ]
