-- How the columns of a dataset's parts are indexed, by their files; and the first index that is damaged.
use Rattle.std.specs.Prelude.{◌≡◌, ⊤, ℕ, List, map, take, Option, Some, None, IfSome, IsSome, Result, Ok, Err, is_some, slice_get, if◌then◌else◌}
use Rattle.std.specs.List.{AllByRecursion}
use Rattle.fb_outside.specs.Files.{Files}
use Rattle.fb_types.specs.declared.schemas.Column.{Column}
use Rattle.fb_types.specs.Types.{width_of}
use Rattle.index_spec.specs.declared.spec.Spec.{Spec}
use Rattle.index_file.specs.Opening.{Head}
use Rattle.index_file.specs.declared.fault.IndexFault.{IndexFault}
use Rattle.part_meta.specs.declared.part.PartMeta.{PartMeta}
use Rattle.dataset.specs.Damage.{Damage}
use Rattle.dataset.specs.PartIndexes.{IsIndexDamage, IsOfIndex, index_at}
use Rattle.dataset.specs.declared.content.Dataset.{Dataset}

-- a column and the specification of its index; None where it has no index
pub record Indexed : Type 0 where
  pub column : Column
  pub spec : Option Spec

-- what the file of an index says of its specification
abbrev pub spec_said : Result (Option Head) IndexFault → Result (Option Spec) IndexFault
spec_said (Ok None) = Ok None
spec_said (Ok (Some head)) = Ok (Some head.spec)
spec_said (Err fault) = Err fault

-- How the column is indexed in the part, by its files, or the first fault. Of a text no file is asked for.
abbrev pub spec_at : Files → Dataset → PartMeta → Column → Result (Option Spec) IndexFault
spec_at files dataset part column =
    if is_some (width_of column.ty) then spec_said (index_at files dataset part column) else Ok None

-- these columns are indexed so in the part
pub record AreIndexes (files : Option Files) (dataset : Dataset) (part : PartMeta) (columns : List Column) (indexed : List Indexed) : Type 0 where
  pub are : map (λ i. i.column) indexed ≡ columns
  pub said : IfSome files (λ m. AllByRecursion (λ i. spec_at m dataset part i.column ≡ Ok i.spec) indexed)

-- ---- the first that is damaged

-- none of these columns has a damaged index in the part
abbrev pub AreSound : Option Files → Dataset → List Column → PartMeta → Type 0
AreSound files dataset columns part = (indexed : List Indexed) × AreIndexes files dataset part columns indexed

-- The column's index in the part is damaged so. Its file is told of any store.
pub record IsDamaged (files : Option Files) (dataset : Dataset) (part : PartMeta) (column : Column) (found : Damage) : Type 0 where
  pub width : IsSome (width_of column.ty)
  pub of : IsOfIndex dataset part column found
  pub is : IfSome files (λ m. IsIndexDamage m dataset part column found)

-- one of the part's, the first in the order of the schema
pub record IsFirstOfPart (files : Option Files) (dataset : Dataset) (part : PartMeta) (found : Damage) : Type 0 where
  pub column : Column
  pub col : ℕ
  pub in_schema : slice_get dataset.schema col ≡ Some column
  pub before : AreSound files dataset (take col dataset.schema) part
  pub damaged : IsDamaged files dataset part column found

-- the first of the dataset's, in the order of its parts
pub record IsFirstDamaged (files : Option Files) (dataset : Dataset) (found : Damage) : Type 0 where
  pub part : PartMeta
  pub place : ℕ
  pub listed : slice_get dataset.parts place ≡ Some part
  pub before : AllByRecursion (AreSound files dataset dataset.schema) (take place dataset.parts)
  pub first : IsFirstOfPart files dataset part found
