-- Which reads of a part's files are of bitmaps, of files without values, and of the values of which rows.
use Rattle.std.specs.Prelude.{ℕ, ◌+◌, ◌*◌, ◌&&◌, Bool, false, List, [], ◌∷◌, ◌++◌, Option, Some, None, nat_le, nat_lt, slice_index}
use Rattle.std.specs.Str.{bytes_eq}
use Rattle.std.specs.List.{list_all, list_any, range_with_len}
use Rattle.fb_outside.specs.Reads.{Look}
use Rattle.fb_types.specs.declared.cells.Cell.{Cell}
use Rattle.fb_types.specs.declared.types.ColType.{ColType}
use Rattle.fb_types.specs.declared.types.ColType.TheVariants.{Byte, UByte, Short, UShort, Int, UInt, Long, ULong, Category, Text}
use Rattle.fb_types.specs.Types.{width_of}
use Rattle.index_spec.specs.declared.spec.Spec.{Spec}
use Rattle.part_meta.specs.FileNames.{file_name, index_name, values_name}
use Rattle.part_meta.specs.declared.names.FileKind.{FileKind}
use Rattle.part_meta.specs.declared.names.FileKind.TheVariants as file
use Rattle.text_column.specs.Texts.{starts_of}
use Rattle.world.specs.Cells.{texts_of}
use Rattle.part_meaning.specs.Columns.{PartColumn}
use Rattle.part_meaning.specs.Bitmaps.{index_places}

-- ---- bitmaps

abbrev pub is_past_head : Option Spec → PartColumn → ℕ → Bool
is_past_head None column end = false
is_past_head (Some spec) column end = nat_lt (slice_index (index_places spec column) 0) end

-- the read is of the column's index file, and ends past the place where its first bitmap begins
unfoldable pub is_bitmap_of : List ℕ → ℕ → PartColumn → Look → Bool
is_bitmap_of dir number column look =
    bytes_eq look.name (index_name dir number column.name) && is_past_head column.spec column (look.offset + look.room)

-- ---- files without values

-- beside its values and its mask a category has the file of its words, and a text column that of its starts
abbrev pub kinds_by_type : ColType → List FileKind
kinds_by_type Byte = []
kinds_by_type UByte = []
kinds_by_type Short = []
kinds_by_type UShort = []
kinds_by_type Int = []
kinds_by_type UInt = []
kinds_by_type Long = []
kinds_by_type ULong = []
kinds_by_type Category = file.Words ∷ []
kinds_by_type Text = file.Starts ∷ []

abbrev pub kinds_by_spec : Option Spec → List FileKind
kinds_by_spec None = []
kinds_by_spec (Some spec) = file.Index ∷ []

-- the kinds of the column's files that have none of its values
abbrev pub free_kinds : PartColumn → List FileKind
free_kinds column = file.Mask ∷ kinds_by_type column.ty ++ kinds_by_spec column.spec

-- the read is of one of these files
unfoldable pub is_free_of : List ℕ → ℕ → PartColumn → Look → Bool
is_free_of dir number column look =
    list_any (λ kind. bytes_eq look.name (file_name dir number (Some column.name) kind)) (free_kinds column)

-- ---- values

-- where the bytes of a row begin, and where they end: of as many bytes as the type has, or between two starts
abbrev pub row_bytes : Option ℕ → List Cell → ℕ → ℕ × ℕ
row_bytes (Some width) cells row = (row * width, row * width + width)
row_bytes None cells row = (slice_index (starts_of (texts_of cells)) row, slice_index (starts_of (texts_of cells)) (row + 1))

abbrev pub is_between : ℕ × ℕ → ℕ → Bool
is_between ends place = nat_le ends.0 place && nat_lt place ends.1

-- the byte is one of the row's
abbrev pub is_byte_of : PartColumn → ℕ → ℕ → Bool
is_byte_of column byte row = is_between (row_bytes (width_of column.ty) column.cells row) byte

-- the read is of the file of the column's values, and each of its bytes is of one of these rows
unfoldable pub is_of_rows : List ℕ → ℕ → PartColumn → List ℕ → Look → Bool
is_of_rows dir number column rows look =
    bytes_eq look.name (values_name dir number column.name)
    && list_all (λ byte. list_any (is_byte_of column byte) rows) (range_with_len look.offset look.room)
