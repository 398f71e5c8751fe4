-- What the field of a whole column says.
use Rattle.std.specs.Prelude.{ℕ, Bool, ◌&&◌, ◌||◌, ◌==◌, true, false, ℤ, pos, int_le, Option, Some, None, List, [], ◌∷◌, length, take, drop, ◌-◌, ◌^◌, min, negsuc, reverse, if◌then◌else◌}
use Rattle.std.specs.List.{take_while}
use Rattle.std.specs.Option.{option_map}
pub use Rattle.lexing.specs.Digits.{natural_of}
use Rattle.lexing.specs.Digits.{signed}
use Rattle.fb_types.specs.declared.types.ColType.{ColType}
use Rattle.fb_types.specs.declared.fields.FieldAnswer.{FieldAnswer}
use Rattle.fb_types.specs.declared.fields.FieldAnswer.TheVariants.{Null, Value, NotWhole, OutOfRange}
use Rattle.fb_types.specs.Types.{ends_of}

-- a space or a tab; between tokens line ends are blanks, too (`is_blank` of `lexing`)
abbrev pub is_blank : ℕ → Bool
is_blank b = b == 32 || b == 9

-- how many blanks stand at the front
abbrev pub blanks_before : List ℕ → ℕ
blanks_before bytes = length (take_while is_blank bytes)

abbrev pub without_leading_blanks : List ℕ → List ℕ
without_leading_blanks bytes = drop (blanks_before bytes) bytes

abbrev pub without_trailing_blanks : List ℕ → List ℕ
without_trailing_blanks bytes = take (length bytes - blanks_before (reverse bytes)) bytes

-- the bytes without the blanks at both ends
abbrev pub trimmed : List ℕ → List ℕ
trimmed bytes = without_trailing_blanks (without_leading_blanks bytes)

-- the number that digits write, or digits after one `+` (43) or `-` (45)
abbrev pub whole_of : List ℕ → Option ℤ
whole_of [] = None
whole_of (b ∷ bs) =
    if b == 45 then option_map (signed true) (natural_of bs)
    else option_map (signed false) (natural_of (if b == 43 then bs else b ∷ bs))

-- a number beyond 2 ^ 64 in size, cut to that: no type's ends let either in
abbrev pub capped : ℤ → ℤ
capped (pos n) = pos (min n (2 ^ 64))
capped (negsuc n) = negsuc (min n (2 ^ 64 - 1))

-- a number is a value where it keeps to the ends
abbrev pub number_answer : Option ℤ → Option (ℤ × ℤ) → FieldAnswer
number_answer None ends = NotWhole
number_answer (Some number) None = OutOfRange
number_answer (Some number) (Some ends) =
    if int_le ends.0 number && int_le number ends.1 then Value number else OutOfRange

abbrev pub text_answer : List ℕ → Option (ℤ × ℤ) → FieldAnswer
text_answer [] ends = Null
text_answer (b ∷ bs) ends = number_answer (whole_of (b ∷ bs)) ends

-- what a field says at a whole type: null where it is blank,
-- that it is no whole number, that the number is beyond the ends, or the number
abbrev pub field_answer : List ℕ → ColType → FieldAnswer
field_answer field ty = text_answer (trimmed field) (ends_of ty)
