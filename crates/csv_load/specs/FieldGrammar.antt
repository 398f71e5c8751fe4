-- What the field of a whole column says, in the words of its grammar.
use Rattle.std.specs.Prelude.{◌≡◌, ◌≤ℤ◌, ◌≤◌, ℕ, ℤ, Bool, true, false, List, [], ◌∷◌, ◌++◌, length}
use Rattle.std.specs.Char.{is_ascii_digit}
use Rattle.std.specs.List.{list_all}
use Rattle.std.specs.Str.Parse.{digits_value}
use Rattle.lexing.specs.Digits.{signed}
use Rattle.fb_types.specs.Field.{is_blank}
use Rattle.fb_types.specs.SchemaText.{IsPadded}
use Rattle.fb_types.specs.declared.fields.FieldAnswer.{FieldAnswer}
use Rattle.fb_types.specs.declared.fields.FieldAnswer.TheVariants.{Null, Value, NotWhole, OutOfRange}

-- nothing but spaces and tabs
abbrev pub IsBlankField : List ℕ → Type 0
IsBlankField field = list_all is_blank field ≡ true

-- no sign, a `+` (43) or a `-` (45), and whether it is a minus
pub data IsSign : List ℕ → Bool → Type 0 where
  absent : IsSign [] false
  plus : IsSign (43 ∷ []) false
  minus : IsSign (45 ∷ []) true

-- the field is one or more digits behind at most one sign, with blanks round them, and writes this number
pub record SpellsNumber (field : List ℕ) (number : ℤ) : Type 0 where
  pub sign : List ℕ
  pub digits : List ℕ
  pub is_negative : Bool
  pub padded : IsPadded field (sign ++ digits)
  pub signs : IsSign sign is_negative
  pub some : 1 ≤ length digits
  pub decimal : list_all is_ascii_digit digits ≡ true
  pub value : number ≡ signed is_negative (digits_value 10 digits)

abbrev pub IsWithin : ℤ → ℤ × ℤ → Type 0
IsWithin number ends = (ends.0 ≤ℤ number) × (number ≤ℤ ends.1)

-- a blank field is null; a number is a value between the ends of the type, and out of range elsewhere; all else is no
-- whole number
pub data FieldSays (field : List ℕ) (ends : ℤ × ℤ) : FieldAnswer → Type 0 where
  blank : IsBlankField field → FieldSays field ends Null
  within : (number : ℤ) → SpellsNumber field number → IsWithin number ends → FieldSays field ends (Value number)
  outside : (number : ℤ) → SpellsNumber field number → (IsWithin number ends → ⊥) → FieldSays field ends OutOfRange
  neither : (IsBlankField field → ⊥) → ((number : ℤ) → SpellsNumber field number → ⊥) → FieldSays field ends NotWhole
