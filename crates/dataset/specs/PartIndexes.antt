-- Opening the indexes of the columns of a part.
use Rattle.std.specs.Prelude.{◌≡◌, ⊤, ℕ, List, Option, Some, None, Result, Ok, Err}
use Rattle.fb_outside.specs.Files.{Files, file_at}
use Rattle.fb_types.specs.declared.schemas.Column.{Column}
use Rattle.index_file.specs.Opening.{Head, index_in, opened_index}
use Rattle.index_file.specs.declared.fault.IndexFault.{IndexFault}
use Rattle.index_file.specs.declared.fault.IndexFault.TheVariants as index
use Rattle.index_file.specs.declared.head.IndexHead.{IndexHead}
use Rattle.part_meta.specs.declared.part.PartMeta.{PartMeta}
use Rattle.part_meta.specs.FileNames.{index_name}
use Rattle.dataset.specs.Damage.{Damage, damage}
use Rattle.dataset.specs.PartColumns.{damage_or}
use Rattle.dataset.specs.declared.content.Dataset.{Dataset}
use Rattle.dataset.specs.declared.fault.DamageKind.TheVariants.{Index}
use Rattle.dataset.specs.declared.fault.PartFault.{PartFault}
use Rattle.dataset.specs.declared.fault.PartFault.TheVariants.{Damaged, Store, OutOfMemory}

-- ---- faults of an index as faults of its part

-- what the fault of an index says of its file: two numbers where the fault has them
abbrev pub index_damage : List ℕ → IndexFault → Option Damage
index_damage file (index.Rows want have) = Some (record { file = file; kind = Index; want = want; have = have })
index_damage file (index.Count want have) = Some (record { file = file; kind = Index; want = want; have = have })
index_damage file index.Short = Some (damage file Index)
index_damage file index.Magic = Some (damage file Index)
index_damage file (index.Version version) = Some (damage file Index)
index_damage file index.Spec = Some (damage file Index)
index_damage file (index.Order k) = Some (damage file Index)
index_damage file (index.Offsets k) = Some (damage file Index)
index_damage file (index.Bitmap k fault) = Some (damage file Index)
index_damage file (index.BitmapTrailing k) = Some (damage file Index)
index_damage file (index.BitmapLength k) = Some (damage file Index)
index_damage file index.Store = None
index_damage file index.OutOfMemory = None

-- what stopped a call that found no damage
abbrev pub stop_of : IndexFault → PartFault
stop_of index.Store = Store
stop_of fault = OutOfMemory

-- what a fault of an index in this file is answered by
abbrev pub index_part_fault : List ℕ → IndexFault → PartFault
index_part_fault file fault = damage_or (index_damage file fault) (stop_of fault)

-- ---- the index of a part's column

abbrev pub index_file : Dataset → PartMeta → Column → List ℕ
index_file dataset part column = index_name dataset.dir part.number column.name

-- what the head of its file says, None where there is no such file; or the first fault
abbrev pub index_at : Files → Dataset → PartMeta → Column → Result (Option Head) IndexFault
index_at files dataset part column = index_in part.rows (file_at files (index_file dataset part column))

-- what was opened is this index of the part
pub record IsOpenedIndex (dataset : Dataset) (part : PartMeta) (column : Column) (opened : IndexHead) : Type 0 where
  pub file : opened.name ≡ index_file dataset part column
  pub rows : opened.rows ≡ part.rows

-- the index of the part's column is damaged so
pub record IsIndexDamage (files : Files) (dataset : Dataset) (part : PartMeta) (column : Column) (found : Damage) : Type 0 where
  pub fault : IndexFault
  pub is : index_at files dataset part column ≡ Err fault
  pub told : index_damage (index_file dataset part column) fault ≡ Some found

-- The file has the head that was opened, or is damaged as was answered.
abbrev pub OpensIndex : Files → Dataset → PartMeta → Column → Result (Option IndexHead) PartFault → Type 0
OpensIndex files dataset part column (Ok opened) = index_at files dataset part column ≡ opened_index (Ok opened)
OpensIndex files dataset part column (Err (Damaged file kind want have)) =
    IsIndexDamage files dataset part column (record { file = file; kind = kind; want = want; have = have })
OpensIndex files dataset part column (Err Store) = ⊤
OpensIndex files dataset part column (Err OutOfMemory) = ⊤

-- the damage is one of the column's index file
pub record IsOfIndex (dataset : Dataset) (part : PartMeta) (column : Column) (found : Damage) : Type 0 where
  pub file : found.file ≡ index_file dataset part column
  pub kind : found.kind ≡ Index
