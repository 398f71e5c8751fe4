-- What a load adds to a dataset: its files, the dataset after it, and why it is refused.
use Rattle.std.specs.Prelude.{◌≡◌, ◌+◌, ℕ, suc, Bool, ◌&&◌, List, [], ◌∷◌, ◌++◌, length, map, Option, Some, None, option_map, nat_lt, bytes_eq, if◌then◌else◌}
use Rattle.std.specs.List.{flat_map, range_with_len}
use Rattle.fb_outside.specs.Puts.{File}
use Rattle.fb_types.specs.declared.cells.Cell.{Cell}
use Rattle.fb_types.specs.declared.schemas.Column.{Column}
use Rattle.fb_types.specs.Types.{type_name}
use Rattle.part_meta.specs.declared.catalog.Catalog.{Catalog}
use Rattle.part_meta.specs.CatalogText.{catalog_text}
use Rattle.part_meta.specs.FileNames.{catalog_name}
use Rattle.world.specs.PartFiles.{part_data, part_files}
use Rattle.world.specs.Effects.{new_parts, part_count}
use Rattle.dataset.specs.declared.content.Dataset.{Dataset}
use Rattle.dataset.specs.declared.fault.AppendFault.{AppendFault}
use Rattle.dataset.specs.declared.fault.AppendFault.TheVariants as fault

-- ---- why a load is refused

pub data Refusal : Type 0 where
  SchemaDiffers : (column : ℕ) → Refusal
  TooManyParts : (number : ℕ) → Refusal
  TooManyNumbers : (number : ℕ) → Refusal

abbrev pub is_same_column : Column → Column → Bool
is_same_column a b = bytes_eq a.name b.name && bytes_eq (type_name a.ty) (type_name b.ty)

-- the number, from 1, of the first column whose name or type differs, or that one side lacks
abbrev pub first_difference : List Column → List Column → Option ℕ
first_difference [] [] = None
first_difference [] (other ∷ others) = Some 1
first_difference (column ∷ columns) [] = Some 1
first_difference (column ∷ columns) (other ∷ others) =
    if is_same_column column other then option_map suc (first_difference columns others) else Some 1

abbrev pub most_parts : ℕ
most_parts = 1024

-- part numbers are below this, so it is also the most that the next part's number can be
abbrev pub most_numbers : ℕ
most_numbers = 4096

-- of so many parts and such a next number after the load
abbrev pub too_many : (parts next : ℕ) → Option Refusal
too_many parts next =
    if nat_lt most_parts parts then Some (TooManyParts parts)
    else (if nat_lt most_numbers next then Some (TooManyNumbers next) else None)

abbrev pub refusal_by : Option ℕ → Option Refusal → Option Refusal
refusal_by (Some column) other = Some (SchemaDiffers column)
refusal_by None other = other

-- why so many rows of these columns aren't loaded into the dataset of this catalog, with so many in a part
unfoldable pub refusal : Catalog → List Column → (per_part rows : ℕ) → Option Refusal
refusal catalog schema per_part rows =
    refusal_by (first_difference catalog.schema schema)
    (too_many (length catalog.parts + part_count per_part rows) (catalog.next + part_count per_part rows))

-- what the call answers for it
abbrev pub fault_of : Refusal → AppendFault
fault_of (SchemaDiffers column) = fault.SchemaDiffers column
fault_of (TooManyParts number) = fault.TooManyParts number most_parts
fault_of (TooManyNumbers number) = fault.TooManyNumbers number most_numbers

-- A fault of the call is the refusal, where there is one; a failure of the store only where there is none.
abbrev pub Refuses : Option Refusal → AppendFault → Type 0
Refuses given (fault.SchemaDiffers column) = given ≡ Some (SchemaDiffers column)
Refuses given (fault.TooManyParts number limit) = (given ≡ Some (TooManyParts number)) × (limit ≡ most_parts)
Refuses given (fault.TooManyNumbers number limit) = (given ≡ Some (TooManyNumbers number)) × (limit ≡ most_numbers)
Refuses given fault.Store = given ≡ None
Refuses given fault.OutOfMemory = Unit {0}

-- ---- what it writes

-- the catalog after so many new parts
abbrev pub grown_catalog : Catalog → ℕ → Catalog
grown_catalog catalog count = record {
  schema = catalog.schema;
  next = catalog.next + count;
  parts = catalog.parts ++ range_with_len catalog.next count;
}

-- the files of the new parts, part by part, and then the catalog
unfoldable pub append_files : List ℕ → Catalog → (per_part : ℕ) → List (List Cell) → List File
append_files dir catalog per_part records =
    flat_map (part_files dir catalog.schema) (new_parts catalog.next per_part records)
    ++ record { name = catalog_name dir; bytes = catalog_text (grown_catalog catalog (part_count per_part (length records))) } ∷ []

-- the dataset with the new parts
abbrev pub appended : Dataset → (per_part : ℕ) → List (List Cell) → Dataset
appended dataset per_part records = record {
  dir = dataset.dir;
  schema = dataset.schema;
  next = dataset.next + part_count per_part (length records);
  parts = dataset.parts ++ map (part_data dataset.schema) (new_parts dataset.next per_part records);
}
