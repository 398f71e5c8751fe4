-- That a field says what its grammar says.
use Rattle.std.proofs.Common.{◌≡◌, ◌≤◌, ◌-◌, ◌∙◌, ℕ, ℤ, Bool, true, false, not, eqb, cond, List, [], ◌∷◌, ◌++◌, length, length-append, Option, Some, None, refl, ap, sym, subst, arith, int_le, ◌&&◌}
use Rattle.std.specs.Char.{is_ascii_digit}
use Rattle.std.specs.List.{list_all, prefix_len}
use Rattle.std.specs.Option.{option_map}
use Rattle.std.specs.Str.Parse.{digits_value}
use Rattle.std.proofs.lemmas.Bool.{eqb-true}
use Rattle.std.proofs.lemmas.List.{drop_all, take_all}
use Rattle.std.proofs.lemmas.List.Folds.{length-prefix_len}
use Rattle.std.proofs.lemmas.Bool.Decides.{nat_tests}
use Rattle.std.proofs.lemmas.Int.{ints}
use Rattle.lexing.specs.Digits.{natural_of, signed}
use Rattle.lexing.proofs.Cases.{mapped}
use Rattle.lexing.proofs.DigitLemmas.{natural_of-some}
use Rattle.lexing.proofs.Runs.{append_all}
use Rattle.fb_types.specs.Field.{blanks_before, field_answer, is_blank, number_answer, text_answer, trimmed, whole_of, without_leading_blanks, without_trailing_blanks}
use Rattle.fb_types.specs.SchemaText.{IsPadded}
use Rattle.fb_types.specs.Types.{ends_of}
use Rattle.fb_types.specs.declared.types.ColType.{ColType}
use Rattle.fb_types.specs.declared.fields.FieldAnswer.{FieldAnswer}
use Rattle.fb_types.specs.declared.fields.FieldAnswer.TheVariants.{Null, Value, NotWhole, OutOfRange}
use Rattle.fb_types.proofs.BlankFacts.{padded_trimmed, trimmed_is}
use Rattle.fb_types.proofs.FieldFacts.{text_answer-some}
use Rattle.fb_types.proofs.NameFacts.{both_left, both_right}
use Rattle.csv_load.specs.FieldGrammar.{FieldSays, IsBlankField, IsSign, IsWithin, SpellsNumber, absent, blank, minus, neither, outside, plus, within}

digit_is_no_blank : (d : ℕ) → is_ascii_digit d ≡ true → not (is_blank d) ≡ true
digit_is_no_blank d h = grind (arith, nat_tests)

digits_no_blank : (ds : List ℕ) → list_all is_ascii_digit ds ≡ true → list_all (λ b. not (is_blank b)) ds ≡ true
digits_no_blank [] h = refl
digits_no_blank (d ∷ ds) h =
    let first = digit_is_no_blank d (both_left (is_ascii_digit d) _ h) in
    let others = digits_no_blank ds (both_right (is_ascii_digit d) _ h) in
    rw (first, others) refl

sign_no_blank : (sign : List ℕ) (is_negative : Bool) → IsSign sign is_negative → list_all (λ b. not (is_blank b)) sign ≡ true
sign_no_blank sign is_negative absent = refl
sign_no_blank sign is_negative plus = refl
sign_no_blank sign is_negative minus = refl

-- ---- a number that is spelled is read

natural_of-digits : (ds : List ℕ) → 1 ≤ length ds → list_all is_ascii_digit ds ≡ true → natural_of ds ≡ Some (digits_value 10 ds)
natural_of-digits [] some all = absurd (omega arith)
natural_of-digits (d ∷ ds) some all = rw all refl

no_minus : (d : ℕ) → is_ascii_digit d ≡ true → eqb d 45 ≡ false
no_minus d h = grind (arith, nat_tests)

no_plus : (d : ℕ) → is_ascii_digit d ≡ true → eqb d 43 ≡ false
no_plus d h = grind (arith, nat_tests)

whole_of-digits : (ds : List ℕ) → 1 ≤ length ds → list_all is_ascii_digit ds ≡ true → whole_of ds ≡ Some (signed false (digits_value 10 ds))
whole_of-digits [] some all = absurd (omega arith)
whole_of-digits (d ∷ ds) some all =
    let first = both_left (is_ascii_digit d) (list_all is_ascii_digit ds) all in
    rw (no_minus d first, no_plus d first, natural_of-digits (d ∷ ds) some all) refl

whole_of-signed : (sign ds : List ℕ) (is_negative : Bool) → IsSign sign is_negative → 1 ≤ length ds → list_all is_ascii_digit ds ≡ true
    → whole_of (sign ++ ds) ≡ Some (signed is_negative (digits_value 10 ds))
whole_of-signed sign ds is_negative absent some all = whole_of-digits ds some all
whole_of-signed sign ds is_negative plus some all = rw (natural_of-digits ds some all) refl
whole_of-signed sign ds is_negative minus some all = rw (natural_of-digits ds some all) refl

trimmed_number : (field : List ℕ) (number : ℤ) (s : SpellsNumber field number) → trimmed field ≡ s.sign ++ s.digits
trimmed_number field number s =
    let solid = append_all (λ b. not (is_blank b)) s.sign s.digits (sign_no_blank s.sign s.is_negative s.signs) (digits_no_blank s.digits s.decimal) in
    trimmed_is field (s.sign ++ s.digits) s.padded solid (omega (arith, length-append s.sign s.digits, s.some))

number_read : (field : List ℕ) (number : ℤ) → SpellsNumber field number → whole_of (trimmed field) ≡ Some number
number_read field number s =
    ap whole_of (trimmed_number field number s)
    ∙ whole_of-signed s.sign s.digits s.is_negative s.signs s.some s.decimal
    ∙ ap Some (sym s.value)

number_text : (field : List ℕ) (number : ℤ) → SpellsNumber field number → 1 ≤ length (trimmed field)
number_text field number s =
    omega (arith, ap length (trimmed_number field number s), length-append s.sign s.digits, s.some)

-- ---- a number that is read is spelled

number_from : (field sign ds : List ℕ) (is_negative : Bool) (number : ℤ) → IsPadded field (sign ++ ds) → IsSign sign is_negative
    → option_map (signed is_negative) (natural_of ds) ≡ Some number → SpellsNumber field number
number_from field sign ds is_negative number padded signs e =
    let h = mapped (signed is_negative) (natural_of ds) number e in
    let digits = natural_of-some ds h.0 h.1.0 in
    record {
      sign = sign;
      digits = ds;
      is_negative = is_negative;
      padded = padded;
      signs = signs;
      some = digits.some;
      decimal = digits.all;
      value = sym h.1.1 ∙ ap (signed is_negative) (sym digits.value);
    }

number_spelled : (field text : List ℕ) (number : ℤ) → IsPadded field text → whole_of text ≡ Some number → SpellsNumber field number
number_spelled field [] number padded e = absurd cc
number_spelled field (b ∷ bs) number padded e = by (eqb b 45) (eqb b 43) refl refl
  where
    by : (is_minus is_plus : Bool) → eqb b 45 ≡ is_minus → eqb b 43 ≡ is_plus → SpellsNumber field number
    by true is_plus m p =
        let front : IsPadded field ((45 ∷ []) ++ bs) = subst (λ d. IsPadded field (d ∷ bs)) (eqb-true b 45 m) padded in
        let read : option_map (signed true) (natural_of bs) ≡ Some number = rw m at e in
        number_from field (45 ∷ []) bs true number front minus read
    by false true m p =
        let front : IsPadded field ((43 ∷ []) ++ bs) = subst (λ d. IsPadded field (d ∷ bs)) (eqb-true b 43 p) padded in
        let read : option_map (signed false) (natural_of bs) ≡ Some number = rw (m, p) at e in
        number_from field (43 ∷ []) bs false number front plus read
    by false false m p =
        let read : option_map (signed false) (natural_of (b ∷ bs)) ≡ Some number = rw (m, p) at e in
        number_from field [] (b ∷ bs) false number padded absent read

-- ---- blank fields

prefix_whole : (p : ℕ → Bool) (xs : List ℕ) → list_all p xs ≡ true → prefix_len p xs ≡ length xs
prefix_whole p [] all = refl
prefix_whole p (x ∷ xs) all =
    let first = both_left (p x) (list_all p xs) all in
    let others = prefix_whole p xs (both_right (p x) (list_all p xs) all) in
    rw first (omega (arith, others))

blank_trimmed : (field : List ℕ) → IsBlankField field → trimmed field ≡ []
blank_trimmed field all =
    let long : blanks_before field ≡ length field = length-prefix_len is_blank field ∙ prefix_whole is_blank field all in
    let gone : without_leading_blanks field ≡ [] = drop_all (blanks_before field) field (omega (arith, long)) in
    ap without_trailing_blanks gone ∙ take_all (length (without_leading_blanks []) - 0) [] (omega arith)

trimmed_blank : (field : List ℕ) → trimmed field ≡ [] → IsBlankField field
trimmed_blank field e =
    let p = padded_trimmed field in
    let cut : field ≡ p.front ++ p.back = p.cut ∙ ap (λ t. p.front ++ (t ++ p.back)) e in
    ap (list_all is_blank) cut ∙ append_all is_blank p.front p.back p.blank_front p.blank_back

-- ---- the law

within_true : (number : ℤ) (ends : ℤ × ℤ) → (int_le ends.0 number && int_le number ends.1) ≡ true → IsWithin number ends
within_true number ends h =
    let low = both_left (int_le ends.0 number) (int_le number ends.1) h in
    let high = both_right (int_le ends.0 number) (int_le number ends.1) h in
    (grind (arith, ints), grind (arith, ints))

within_false : (number : ℤ) (ends : ℤ × ℤ) → IsWithin number ends → (int_le ends.0 number && int_le number ends.1) ≡ true
within_false number ends h =
    let low : int_le ends.0 number ≡ true = grind (arith, ints, h.0) in
    let high : int_le number ends.1 ≡ true = grind (arith, ints, h.1) in
    rw (low, high) refl

-- the answer of a field that isn't blank
number_field : (field : List ℕ) (ty : ColType) (ends : ℤ × ℤ) → ends_of ty ≡ Some ends → 1 ≤ length (trimmed field)
    → field_answer field ty ≡ number_answer (whole_of (trimmed field)) (Some ends)
number_field field ty ends e some =
    text_answer-some (trimmed field) (ends_of ty) (omega arith) ∙ ap (number_answer (whole_of (trimmed field))) e

says_number : (field : List ℕ) (ty : ColType) (ends : ℤ × ℤ) (found : Option ℤ) → ends_of ty ≡ Some ends → 1 ≤ length (trimmed field)
    → whole_of (trimmed field) ≡ found → FieldSays field ends (field_answer field ty)
says_number field ty ends None e some w =
    let is : field_answer field ty ≡ NotWhole = number_field field ty ends e some ∙ ap (λ o. number_answer o (Some ends)) w in
    subst (FieldSays field ends) (sym is) (neither
    (λ all. let none = ap length (blank_trimmed field all) in absurd (omega arith))
    (λ number s. let read = number_read field number s in absurd cc))
says_number field ty ends (Some number) e some w = by (int_le ends.0 number && int_le number ends.1) refl
  where
    spelled : SpellsNumber field number
    spelled = number_spelled field (trimmed field) number (padded_trimmed field) w

    is : field_answer field ty ≡ number_answer (Some number) (Some ends)
    is = number_field field ty ends e some ∙ ap (λ o. number_answer o (Some ends)) w

    by : (test : Bool) → (int_le ends.0 number && int_le number ends.1) ≡ test → FieldSays field ends (field_answer field ty)
    by true t =
        let value : field_answer field ty ≡ Value number = is ∙ ap (λ b. cond b (Value number) OutOfRange) t in
        subst (FieldSays field ends) (sym value) (within number spelled (within_true number ends t))
    by false t =
        let value : field_answer field ty ≡ OutOfRange = is ∙ ap (λ b. cond b (Value number) OutOfRange) t in
        subst (FieldSays field ends) (sym value) (outside number spelled (λ h. let so = within_false number ends h in absurd cc))

pub field_says : (field : List ℕ) (ty : ColType) (ends : ℤ × ℤ) → ends_of ty ≡ Some ends → FieldSays field ends (field_answer field ty)
field_says field ty ends e = by (trimmed field) refl
  where
    by : (text : List ℕ) → trimmed field ≡ text → FieldSays field ends (field_answer field ty)
    by [] t =
        let is : field_answer field ty ≡ Null = ap (λ text. text_answer text (ends_of ty)) t in
        subst (FieldSays field ends) (sym is) (blank (trimmed_blank field t))
    by (b ∷ bs) t = says_number field ty ends (whole_of (trimmed field)) e (omega (arith, ap length t)) refl

-- a number that is spelled is answered by its ends
number_answered : (field : List ℕ) (ty : ColType) (ends : ℤ × ℤ) (number : ℤ) → ends_of ty ≡ Some ends → SpellsNumber field number
    → field_answer field ty ≡ number_answer (Some number) (Some ends)
number_answered field ty ends number e s =
    number_field field ty ends e (number_text field number s) ∙ ap (λ o. number_answer o (Some ends)) (number_read field number s)

not_within : (number : ℤ) (ends : ℤ × ℤ) → (IsWithin number ends → ⊥) → (int_le ends.0 number && int_le number ends.1) ≡ false
not_within number ends h = by (int_le ends.0 number && int_le number ends.1) refl
  where
    by : (test : Bool) → (int_le ends.0 number && int_le number ends.1) ≡ test → (int_le ends.0 number && int_le number ends.1) ≡ false
    by true t = absurd (h (within_true number ends t))
    by false t = t

neither_answered : (field : List ℕ) (ty : ColType) (ends : ℤ × ℤ) → ends_of ty ≡ Some ends → (IsBlankField field → ⊥)
    → ((number : ℤ) → SpellsNumber field number → ⊥) → field_answer field ty ≡ NotWhole
neither_answered field ty ends e full none = by (trimmed field) (whole_of (trimmed field)) refl refl
  where
    by : (text : List ℕ) (found : Option ℤ) → trimmed field ≡ text → whole_of (trimmed field) ≡ found → field_answer field ty ≡ NotWhole
    by [] found t w = absurd (full (trimmed_blank field t))
    by (b ∷ bs) None t w = number_field field ty ends e (omega (arith, ap length t)) ∙ ap (λ o. number_answer o (Some ends)) w
    by (b ∷ bs) (Some number) t w = absurd (none number (number_spelled field (trimmed field) number (padded_trimmed field) w))

pub only_says : (field : List ℕ) (ty : ColType) (ends : ℤ × ℤ) (answer : FieldAnswer) → ends_of ty ≡ Some ends → FieldSays field ends answer
    → field_answer field ty ≡ answer
only_says field ty ends Null e (blank all) = ap (λ text. text_answer text (ends_of ty)) (blank_trimmed field all)
only_says field ty ends (Value n) e (within number s h) =
    number_answered field ty ends number e s ∙ ap (λ b. cond b (Value number) OutOfRange) (within_false number ends h)
only_says field ty ends OutOfRange e (outside number s h) =
    number_answered field ty ends number e s ∙ ap (λ b. cond b (Value number) OutOfRange) (not_within number ends h)
only_says field ty ends NotWhole e (neither full none) = neither_answered field ty ends e full none
