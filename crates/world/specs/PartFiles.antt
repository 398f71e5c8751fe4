-- The files of a part: what they are called, and their bytes.
use Rattle.std.specs.Prelude.{ℕ, ◌+◌, List, [], ◌∷◌, ◌++◌, length, map, Option, Some, None, option_map}
use Rattle.std.specs.FinMap.{get}
use Rattle.fb_outside.specs.Puts.{File}
use Rattle.fb_types.specs.declared.cells.Cell.{Cell}
use Rattle.fb_types.specs.declared.schemas.Column.{Column}
use Rattle.fb_types.specs.declared.types.ColType.{ColType}
use Rattle.fb_types.specs.declared.types.ColType.TheVariants.{Byte, UByte, Short, UShort, Int, UInt, Long, ULong, Category, Text}
use Rattle.wah_words.specs.Bytes.{spelling}
use Rattle.column_file.specs.Values.{values_bytes}
use Rattle.text_column.specs.DictionaryFile.{dictionary_bytes}
use Rattle.text_column.specs.Texts.{starts_bytes, starts_of, text_file}
use Rattle.part_meta.specs.declared.names.FileKind.{FileKind}
use Rattle.part_meta.specs.declared.names.FileKind.TheVariants as file
use Rattle.part_meta.specs.declared.part.PartMeta.{PartMeta}
use Rattle.part_meta.specs.FileNames.{file_name, part_name}
use Rattle.part_meta.specs.PartText.{part_text}
use Rattle.world.specs.World.{Partition}
use Rattle.world.specs.Cells.{code_of, column_cells, dictionary_of, is_present, number_of, texts_of}
use Rattle.world.specs.IndexFiles.{column_index}

-- ---- the files of a column, in the order in which they are written

abbrev pub whole_files : ColType → List Cell → List (FileKind × List ℕ)
whole_files ty cells = (file.Values, values_bytes ty (map number_of cells)) ∷ (file.Mask, spelling (map is_present cells)) ∷ []

abbrev pub category_files : List Cell → List (FileKind × List ℕ)
category_files cells =
    (file.Values, values_bytes Category (map (code_of (dictionary_of cells)) cells))
    ∷ (file.Mask, spelling (map is_present cells))
    ∷ (file.Words, dictionary_bytes (dictionary_of cells)) ∷ []

abbrev pub text_files : List Cell → List (FileKind × List ℕ)
text_files cells =
    (file.Values, text_file (texts_of cells))
    ∷ (file.Mask, spelling (map is_present cells))
    ∷ (file.Starts, starts_bytes (starts_of (texts_of cells))) ∷ []

abbrev pub files_by_type : ColType → List Cell → List (FileKind × List ℕ)
files_by_type Byte cells = whole_files Byte cells
files_by_type UByte cells = whole_files UByte cells
files_by_type Short cells = whole_files Short cells
files_by_type UShort cells = whole_files UShort cells
files_by_type Int cells = whole_files Int cells
files_by_type UInt cells = whole_files UInt cells
files_by_type Long cells = whole_files Long cells
files_by_type ULong cells = whole_files ULong cells
files_by_type Category cells = category_files cells
files_by_type Text cells = text_files cells

-- the same under their names
unfoldable pub column_files : List ℕ → ℕ → Column → List Cell → List File
column_files dir number column cells =
    map (λ f. record { name = file_name dir number (Some column.name) f.0; bytes = f.1 }) (files_by_type column.ty cells)

-- ---- the files of a part: those of its columns in order, and then its text

abbrev pub part_data : List Column → Partition → PartMeta
part_data schema part = record { number = part.number; rows = length part.records; schema = schema }

-- the files of the columns from the one at a place on
abbrev pub columns_files : List ℕ → Partition → ℕ → List Column → List File
columns_files dir part col [] = []
columns_files dir part col (column ∷ columns) =
    column_files dir part.number column (column_cells col part.records) ++ columns_files dir part (col + 1) columns

unfoldable pub part_files : List ℕ → List Column → Partition → List File
part_files dir schema part =
    columns_files dir part 0 schema
    ++ record { name = part_name dir part.number; bytes = part_text (part_data schema part) } ∷ []

-- ---- the indexes of a part

-- the bytes of a column's index, the column having that place in the schema; None where the part has no specification of it
abbrev pub index_in : Partition → ℕ → Column → Option (List ℕ)
index_in part col column = option_map (λ spec. column_index spec column.ty (column_cells col part.records)) (get part.specs col)
