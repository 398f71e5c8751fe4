-- The ten types of a column: how wide a value is in a file, its least and greatest value, its word.
use Rattle.std.specs.Prelude.{ℕ, ◌-◌, ◌^◌, ℤ, pos, neg_ℤ, Option, Some, None, List}
use lib.Chars.{codes}
use Rattle.fb_types.specs.declared.types.ColType.{ColType}
use Rattle.fb_types.specs.declared.types.ColType.TheVariants.{Byte, UByte, Short, UShort, Int, UInt, Long, ULong, Category, Text}

-- bytes of one value in a values file; a category's value is its code, and a text has no fixed width
abbrev pub width_of : ColType → Option ℕ
width_of Byte = Some 1
width_of UByte = Some 1
width_of Short = Some 2
width_of UShort = Some 2
width_of Int = Some 4
width_of UInt = Some 4
width_of Long = Some 8
width_of ULong = Some 8
width_of Category = Some 4
width_of Text = None

-- the least and the greatest number that so many bits hold, with a sign in two's complement and without one
abbrev pub signed_ends : ℕ → ℤ × ℤ
signed_ends bits = (neg_ℤ (pos (2 ^ (bits - 1))), pos (2 ^ (bits - 1) - 1))

abbrev pub unsigned_ends : ℕ → ℤ × ℤ
unsigned_ends bits = (pos 0, pos (2 ^ bits - 1))

-- the least and the greatest value of a whole type; a category and a text are no numbers
abbrev pub ends_of : ColType → Option (ℤ × ℤ)
ends_of Byte = Some (signed_ends 8)
ends_of UByte = Some (unsigned_ends 8)
ends_of Short = Some (signed_ends 16)
ends_of UShort = Some (unsigned_ends 16)
ends_of Int = Some (signed_ends 32)
ends_of UInt = Some (unsigned_ends 32)
ends_of Long = Some (signed_ends 64)
ends_of ULong = Some (unsigned_ends 64)
ends_of Category = None
ends_of Text = None

-- the word that names the type in a schema text
unfoldable pub type_name : ColType → List ℕ
type_name Byte = codes "byte"
type_name UByte = codes "ubyte"
type_name Short = codes "short"
type_name UShort = codes "ushort"
type_name Int = codes "int"
type_name UInt = codes "uint"
type_name Long = codes "long"
type_name ULong = codes "ulong"
type_name Category = codes "category"
type_name Text = codes "text"
