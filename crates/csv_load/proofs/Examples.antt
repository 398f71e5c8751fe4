-- The definition, computed by hand on short texts.
use Rattle.std.proofs.Common.{◌≡◌, ◌∷◌, [], Ok, Err, List, pos, refl}
use lib.Chars.{codes}
use Rattle.csv.proofs.OnLiterals.{csv_on_literals}
use Rattle.fb_types.specs.declared.cells.Cell.TheVariants as cell
use Rattle.fb_types.specs.declared.schemas.Column.{Column}
use Rattle.fb_types.specs.declared.types.ColType.TheVariants as ty
use Rattle.csv_load.specs.Loaded.{all_or_first, field_cell, field_cells, loaded, record_cells}
use Rattle.csv_load.specs.declared.fields.RecordKind.TheVariants.{FieldCount, NotWhole, OutOfRange}

-- one column `a` of a type
abbrev int_column : List Column
int_column = record { name = codes "a"; ty = ty.Int } ∷ []

abbrev byte_column : List Column
byte_column = record { name = codes "a"; ty = ty.Byte } ∷ []

abbrev word_column : List Column
word_column = record { name = codes "a"; ty = ty.Category } ∷ []

-- a record for each line
three_records : loaded (codes "1\n2\n3\n") int_column 0
    ≡ Ok ((cell.Whole (pos 1) ∷ []) ∷ (cell.Whole (pos 2) ∷ []) ∷ (cell.Whole (pos 3) ∷ []) ∷ [])
unfolding csv_on_literals loaded all_or_first record_cells field_cells field_cell
three_records = refl

-- a blank field is a null
blank_field : loaded (codes "1\n\"\"\n") int_column 0 ≡ Ok ((cell.Whole (pos 1) ∷ []) ∷ (cell.Null ∷ []) ∷ [])
unfolding csv_on_literals loaded all_or_first record_cells field_cells field_cell
blank_field = refl

-- a word is no number
no_number : loaded (codes "1\nx\n") int_column 0 ≡ Err (record { number = 2; field = 1; kind = NotWhole })
unfolding csv_on_literals loaded all_or_first record_cells field_cells field_cell
no_number = refl

-- the second record has a field too many
second_too_long : loaded (codes "1\n1,2\n") int_column 0 ≡ Err (record { number = 2; field = 2; kind = FieldCount })
unfolding csv_on_literals loaded all_or_first record_cells field_cells field_cell
second_too_long = refl

-- the header that is skipped counts
after_a_header : loaded (codes "a,b\n1\n128\n") byte_column 1 ≡ Err (record { number = 3; field = 1; kind = OutOfRange })
unfolding csv_on_literals loaded all_or_first record_cells field_cells field_cell
after_a_header = refl

-- a word, and a null
words : loaded (codes "x\n\"\"\n") word_column 0 ≡ Ok ((cell.Word (codes "x") ∷ []) ∷ (cell.Null ∷ []) ∷ [])
unfolding csv_on_literals loaded all_or_first record_cells field_cells field_cell
words = refl
