-- The tokens that the function gives are those that the text spells.
use Rattle.std.proofs.Common.{◌≡◌, ℕ, Bool, true, false, cond, List, [], ◌∷◌, ◌++◌, length, take, drop, refl, sym, ap, subst, ◌∙◌, inl, inr, eqb, eqb-true, append_assoc}
use Rattle.std.specs.Prelude.{Option, Some, None, Result, Ok, Err}
use Rattle.std.specs.Option.{option_map}
use Rattle.std.specs.List.{prefix_len, find}
use Rattle.std.specs.Str.{bytes_eq}
use Rattle.std.specs.Char.{is_ascii_digit}
use Rattle.std.proofs.lemmas.List.{take-append-drop}
use Rattle.std.proofs.lemmas.Slice.Eq.{bytes_eq-Decides}
use Rattle.index_spec.specs.declared.word.Word.{Word}
use Rattle.index_spec.specs.declared.word.TheConstants.{WORDS}
use Rattle.index_spec.specs.declared.token.Token.{Token}
use Rattle.index_spec.specs.declared.token.Token.TheVariants as t
use Rattle.index_spec.specs.Words.{spelling, word_of}
use Rattle.lexing.specs.Tokens as lexing
use Rattle.lexing.proofs.Laws.{IsSound, tokens_from-spelled}
use Rattle.index_spec.specs.declared.token.NoToken.{NoToken}
use Rattle.index_spec.specs.Shorter.{reader-shorter}
use Rattle.index_spec.specs.Tokens.{is_letter, in_word, sign_of, minus, magnitude, word_at, number_at, token_at, told, reader, all_or_none, tokens_of, IsNumeral, IsWritten, EndsAt, IsInFront, IsToken, Spells}
use Rattle.lexing.specs.Digits.{natural_at, signed}
use Rattle.lexing.proofs.Cases.{chosen, mapped}
use Rattle.lexing.proofs.DigitLemmas.{natural_at-cut}
use Rattle.lexing.proofs.Runs.{rest_stops}

find_passes : {X : Type 0} (p : X → Bool) (xs : List X) (x : X) → find p xs ≡ Some x → p x ≡ true
find_passes p [] x e = cc
find_passes p (y ∷ ys) x e =
    elim (chosen (p y) (Some y) (find p ys) (Some x) e) [
      | inl h ↦ (let same : y ≡ x = cc in subst (λ z. p z ≡ true) same h.0)
      | inr h ↦ find_passes p ys x h.1
    ]

word_of_spelled : (form : List ℕ) (w : Word) → word_of form ≡ Some w → form ≡ spelling w
unfolding word_of
word_of_spelled form w e = sym ((bytes_eq-Decides (spelling w) form).0 (find_passes (λ v. bytes_eq (spelling v) form) WORDS w e))

abbrev CutsAt : List ℕ → Token × List ℕ → Type 0
CutsAt text found = IsInFront text found.0 found.1

word_cuts : (text : List ℕ) (found : Token × List ℕ) → word_at text ≡ Some found → CutsAt text found
unfolding word_at
word_cuts text found e =
    let n = prefix_len in_word text in
    let h = mapped (λ w. (t.Word w, drop n text)) (word_of (take n text)) found e in
    subst (CutsAt text) h.1.1 (record { form = take n text; cut = sym (take-append-drop n text); written = word_of_spelled (take n text) h.0 h.1.0; ends = rest_stops in_word text })

number_cuts : (is_negative : Bool) (text : List ℕ) (found : Token × List ℕ) → number_at is_negative text ≡ Some found → CutsAt (minus is_negative ++ text) found
unfolding number_at
number_cuts is_negative text found e =
    let h = mapped (λ f. (t.Number (signed is_negative (magnitude f.0)), f.1)) (natural_at text) found e in
    let at = natural_at-cut text h.0 h.1.0 in
    let numeral : IsNumeral (minus is_negative ++ at.digits) (signed is_negative (magnitude h.0.0)) =
    record { is_negative = is_negative; digits = at.digits; number = h.0.0; written = refl; natural = at.natural; value = refl } in
    let cut : minus is_negative ++ text ≡ (minus is_negative ++ at.digits) ++ h.0.1 = ap (λ x. minus is_negative ++ x) at.cut ∙ sym (append_assoc (minus is_negative) at.digits h.0.1) in
    subst (CutsAt (minus is_negative ++ text)) h.1.1 (record { form = minus is_negative ++ at.digits; cut = cut; written = numeral; ends = at.ends })

abbrev IsSign : ℕ → Token → Type 0
IsSign b token = IsWritten (b ∷ []) token × ((rest : List ℕ) → EndsAt token rest)

sign_here : (b n : ℕ) (sign token : Token) → IsSign n sign → eqb b n ≡ true → Some sign ≡ Some token → IsSign b token
sign_here b n sign token is same e =
    let byte : n ≡ b = sym (eqb-true b n same) in
    let told : sign ≡ token = cc in
    subst (IsSign b) told (subst (λ m. IsSign m sign) byte is)

sign_step : (b n : ℕ) (sign : Token) (others : Option Token) (token : Token) → cond (eqb b n) (Some sign) others ≡ Some token → IsSign n sign → (others ≡ Some token → IsSign b token) → IsSign b token
sign_step b n sign others token e is more =
    elim (chosen (eqb b n) (Some sign) others (Some token) e) [
      | inl h ↦ sign_here b n sign token is h.0 h.1
      | inr h ↦ more h.1
    ]

no_sign : (b : ℕ) (token : Token) → ◌≡◌ {A = Option Token} None (Some token) → IsSign b token
no_sign b token e = cc

sign_is : (b : ℕ) (token : Token) → sign_of b ≡ Some token → IsSign b token
sign_is b token e =
    sign_step b 60 t.Less _ token e (refl, λ _. tt) (λ e1.
    sign_step b 47 t.Slash _ token e1 (refl, λ _. tt) (λ e2.
    sign_step b 62 t.Greater _ token e2 (refl, λ _. tt) (λ e3.
    sign_step b 61 t.Equals _ token e3 (refl, λ _. tt) (λ e4.
    sign_step b 40 t.Open _ token e4 (refl, λ _. tt) (λ e5.
    sign_step b 41 t.Close _ token e5 (refl, λ _. tt) (λ e6.
    sign_step b 44 t.Comma _ token e6 (refl, λ _. tt) (no_sign b token)))))))

sign_cuts : (b : ℕ) (bs : List ℕ) (found : Token × List ℕ) → option_map (λ sign. (sign, bs)) (sign_of b) ≡ Some found → CutsAt (b ∷ bs) found
sign_cuts b bs found e =
    let h = mapped (λ sign. (sign, bs)) (sign_of b) found e in
    let is = sign_is b h.0 h.1.0 in
    subst (CutsAt (b ∷ bs)) h.1.1 (record { form = b ∷ []; cut = refl; written = is.0; ends = is.1 bs })

minus_cuts : (b : ℕ) (bs : List ℕ) (found : Token × List ℕ) → eqb b 45 ≡ true → number_at true bs ≡ Some found → CutsAt (b ∷ bs) found
minus_cuts b bs found dash e =
    let byte : 45 ≡ b = sym (eqb-true b 45 dash) in
    subst (λ m. CutsAt (m ∷ bs) found) byte (number_cuts true bs found e)

token_cuts : (text : List ℕ) (found : Token × List ℕ) → token_at text ≡ Some found → CutsAt text found
unfolding token_at
token_cuts [] found e = cc
token_cuts (b ∷ bs) found e =
    let sign : Option (Token × List ℕ) = option_map (λ sign. (sign, bs)) (sign_of b) in
    let number : Option (Token × List ℕ) = number_at false (b ∷ bs) in
    let word : Option (Token × List ℕ) = word_at (b ∷ bs) in
    elim (chosen (eqb b 45) (number_at true bs) (cond (is_letter b) word (cond (is_ascii_digit b) number sign)) (Some found) e) [
      | inl h ↦ minus_cuts b bs found h.0 h.1
      | inr h ↦ elim (chosen (is_letter b) word (cond (is_ascii_digit b) number sign) (Some found) h.1) [
        | inl g ↦ word_cuts (b ∷ bs) found g.1
        | inr g ↦ elim (chosen (is_ascii_digit b) number sign (Some found) g.1) [
          | inl f ↦ number_cuts false (b ∷ bs) found f.1
          | inr f ↦ sign_cuts b bs found f.1
        ]
      ]
    ]

-- ---- the whole text

told_found : (o : Option (Token × List ℕ)) (found : Token × List ℕ) → told o ≡ Ok found → o ≡ Some found
told_found None found e = absurd cc
told_found (Some f) found e = let same : f ≡ found = cc in ap Some same

pub reader_sound : IsSound reader IsToken
reader_sound at text found e = token_cuts text found (told_found (token_at text) found e)

all_found : (r : Result (List Token) NoToken) (ts : List Token) → all_or_none r ≡ Some ts → r ≡ Ok ts
all_found (Ok found) ts e = let same : found ≡ ts = cc in ap Ok same
all_found (Err fault) ts e = absurd cc

pub tokens_of-spelled : (text : List ℕ) (ts : List Token) → tokens_of text ≡ Some ts → Spells text ts
unfolding tokens_of
tokens_of-spelled text ts e = tokens_from-spelled reader IsToken reader-shorter reader_sound (length text) text ts (all_found (lexing.tokens_of reader text) ts e)
