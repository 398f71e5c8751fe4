-- Where the files of a part's column are.
use Rattle.std.specs.Prelude.{◌≡◌, ℕ, List, Some, slice_index_or}
use Rattle.fb_outside.specs.Reads.{Look}
use Rattle.fb_types.specs.declared.schemas.Column.{Column}
use Rattle.part_meta.specs.FileNames.{file_name, index_name, mask_name, values_name}
use Rattle.part_meta.specs.declared.names.FileKind.{FileKind}
use Rattle.part_meta.specs.declared.names.FileKind.TheVariants as file
use Rattle.part_meta.specs.declared.part.PartMeta.{PartMeta}
use Rattle.where_plan.specs.Plans.{place_in}
use Rattle.where_plan.specs.declared.plan.PlanAtom.{PlanAtom}
use Rattle.part_meaning.specs.Columns.{no_column}

-- a part, whose files are under the path of its dataset
pub record PartAt : Type 0 where
  pub dir : List ℕ
  pub meta : PartMeta

-- the path, the part's number and rows, the column and its place in the schema
pub record Placed : Type 0 where
  pub dir : List ℕ
  pub number : ℕ
  pub rows : ℕ
  pub col : ℕ
  pub column : Column

-- the column at a place of the part's schema
abbrev pub placed_at : List ℕ → PartMeta → ℕ → Placed
placed_at dir meta col = record {
  dir = dir;
  number = meta.number;
  rows = meta.rows;
  col = col;
  column = slice_index_or meta.schema col no_column;
}

-- the column of a condition
abbrev pub placed_of : List ℕ → PartMeta → PlanAtom → Placed
placed_of dir meta condition = placed_at dir meta (place_in condition)

-- ---- the names of its files

abbrev pub values_file : Placed → List ℕ
values_file p = values_name p.dir p.number p.column.name

abbrev pub mask_file : Placed → List ℕ
mask_file p = mask_name p.dir p.number p.column.name

abbrev pub words_file : Placed → List ℕ
words_file p = file_name p.dir p.number (Some p.column.name) file.Words

abbrev pub starts_file : Placed → List ℕ
starts_file p = file_name p.dir p.number (Some p.column.name) file.Starts

abbrev pub index_file : Placed → List ℕ
index_file p = index_name p.dir p.number p.column.name

-- the read is of one of them
pub record IsColumnLook (p : Placed) (look : Look) : Type 0 where
  pub kind : FileKind
  pub of_it : look.name ≡ file_name p.dir p.number (Some p.column.name) kind
