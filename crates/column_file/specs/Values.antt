-- The bytes of a values file, and the numbers that bytes spell.
use Rattle.std.specs.Prelude.{ℕ, ℤ, pos, ◌≤ℤ◌, List, [], unwrap_or, map}
use Rattle.std.specs.List.{flat_map}
use Rattle.std.specs.Simd.{first_chunks}
use Rattle.std.specs.Int.{Width, w8, w16, w32, w64, cast_signed, cast_unsigned, to_le_bytes, from_le_bytes}
use Rattle.fb_types.specs.declared.types.ColType.{ColType}
use Rattle.fb_types.specs.declared.types.ColType.TheVariants.{Byte, UByte, Short, UShort, Int, UInt, Long, ULong, Category, Text}
use Rattle.fb_types.specs.Types.{width_of, ends_of, unsigned_ends}

-- the least and the greatest number of a values file: for a category those of its codes
abbrev pub stored_ends : ColType → ℤ × ℤ
stored_ends ty = unwrap_or (ends_of ty) (unsigned_ends 32)

abbrev pub ValueFits : ℤ → ColType → Type 0
ValueFits number ty = ((stored_ends ty).0 ≤ℤ number) × (number ≤ℤ (stored_ends ty).1)

-- a number in the type's width, in two's complement, the lowest byte first; a text column has no numbers
unfoldable pub number_bytes : ColType → ℤ → List ℕ
number_bytes Byte number = to_le_bytes w8 (cast_unsigned w8 number)
number_bytes UByte number = to_le_bytes w8 (cast_unsigned w8 number)
number_bytes Short number = to_le_bytes w16 (cast_unsigned w16 number)
number_bytes UShort number = to_le_bytes w16 (cast_unsigned w16 number)
number_bytes Int number = to_le_bytes w32 (cast_unsigned w32 number)
number_bytes UInt number = to_le_bytes w32 (cast_unsigned w32 number)
number_bytes Long number = to_le_bytes w64 (cast_unsigned w64 number)
number_bytes ULong number = to_le_bytes w64 (cast_unsigned w64 number)
number_bytes Category number = to_le_bytes w32 (cast_unsigned w32 number)
number_bytes Text number = []

-- one number after another
unfoldable pub values_bytes : ColType → List ℤ → List ℕ
values_bytes ty numbers = flat_map (number_bytes ty) numbers

-- the bytes that a number takes; none in a text column
abbrev pub width_in : ColType → ℕ
width_in ty = unwrap_or (width_of ty) 0

abbrev pub signed_at : Width → List ℕ → ℤ
signed_at w bytes = cast_signed w (from_le_bytes w bytes)

abbrev pub unsigned_at : Width → List ℕ → ℤ
unsigned_at w bytes = pos (from_le_bytes w bytes)

-- the number that bytes of the type's width spell
unfoldable pub number_of : ColType → List ℕ → ℤ
number_of Byte bytes = signed_at w8 bytes
number_of UByte bytes = unsigned_at w8 bytes
number_of Short bytes = signed_at w16 bytes
number_of UShort bytes = unsigned_at w16 bytes
number_of Int bytes = signed_at w32 bytes
number_of UInt bytes = unsigned_at w32 bytes
number_of Long bytes = signed_at w64 bytes
number_of ULong bytes = unsigned_at w64 bytes
number_of Category bytes = unsigned_at w32 bytes
number_of Text bytes = pos 0

-- the numbers that the first `count` pieces of the type's width spell
unfoldable pub numbers_of : ColType → ℕ → List ℕ → List ℤ
numbers_of ty count bytes = map (number_of ty) (first_chunks (width_in ty) count bytes)
