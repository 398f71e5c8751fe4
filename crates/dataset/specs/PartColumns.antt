-- Opening the columns of a part.
use Rattle.std.specs.Prelude.{◌≡◌, ◌⊎◌, ⊤, ℕ, Bool, List, Option, Some, None, Result, Ok, Err, length}
use Rattle.fb_outside.specs.Files.{Files, file_at}
use Rattle.fb_types.specs.declared.schemas.Column.{Column}
use Rattle.column_file.specs.declared.column.ColumnRef.{ColumnRef}
use Rattle.column_file.specs.declared.fault.ColFault.{ColFault}
use Rattle.column_file.specs.declared.fault.ColFault.TheVariants as column
use Rattle.text_column.specs.DictionaryFile.{dictionary_bytes}
use Rattle.text_column.specs.Words.{IsDictionary}
use Rattle.text_column.specs.declared.fault.DicFault.{DicFault}
use Rattle.text_column.specs.declared.fault.DicFault.TheVariants as dictionary
use Rattle.part_meta.specs.declared.part.PartMeta.{PartMeta}
use Rattle.part_meta.specs.FileNames.{mask_name, values_name}
use Rattle.dataset.specs.Damage.{Damage, column_damage, dictionary_damage, rows_at, words_at, words_name}
use Rattle.dataset.specs.declared.content.Dataset.{Dataset}
use Rattle.dataset.specs.declared.fault.PartFault.{PartFault}
use Rattle.dataset.specs.declared.fault.PartFault.TheVariants.{Damaged, Store, OutOfMemory}

-- ---- faults of a column as faults of its part

-- a damage, or what stopped the call where there is none
abbrev pub damage_or : Option Damage → PartFault → PartFault
damage_or (Some found) stop = Damaged found.file found.kind found.want found.have
damage_or None stop = stop

-- what stopped a call that found no damage
abbrev pub stop_of : ColFault → PartFault
stop_of column.Store = Store
stop_of fault = OutOfMemory

-- what a fault of a column with these files is answered by
abbrev pub part_fault : (values mask : List ℕ) → ColFault → PartFault
part_fault values mask fault = damage_or (column_damage values mask fault) (stop_of fault)

-- what stopped the reading of a dictionary in which no damage was found
abbrev pub stop_of_words : DicFault → PartFault
stop_of_words dictionary.Store = Store
stop_of_words fault = OutOfMemory

-- what a fault of a dictionary in this file is answered by
abbrev pub words_fault : (words : List ℕ) → DicFault → PartFault
words_fault words fault = damage_or (dictionary_damage words fault) (stop_of_words fault)

-- ---- the files of a part's column

abbrev pub values_file : Dataset → PartMeta → Column → List ℕ
values_file dataset part column = values_name dataset.dir part.number column.name

abbrev pub mask_file : Dataset → PartMeta → Column → List ℕ
mask_file dataset part column = mask_name dataset.dir part.number column.name

abbrev pub words_file : Dataset → PartMeta → Column → List ℕ
words_file dataset part column = words_name dataset.dir part.number column.name

-- the dictionary of a column in the part has these words
pub record HasWords (files : Files) (dir : List ℕ) (number : ℕ) (column : Column) (words : List (List ℕ)) : Type 0 where
  pub dictionary : IsDictionary words
  pub there : file_at files (words_name dir number column.name) ≡ Some (dictionary_bytes words)

-- which rows have a value, by these files, or what is wrong with them
abbrev pub column_at : Files → Dataset → PartMeta → Column → Result (List Bool) ColFault
column_at files dataset part column = rows_at files dataset.dir part column

-- what was opened is this column of the part
pub record IsOpened (dataset : Dataset) (part : PartMeta) (column : Column) (opened : ColumnRef) : Type 0 where
  pub file : opened.name ≡ values_file dataset part column
  pub typed : opened.ty ≡ column.ty
  pub rows : opened.rows ≡ part.rows
  pub each_row : length opened.mask ≡ part.rows

-- The files are those of such a column, with the mask that was opened, or are damaged as was answered.
abbrev pub OpensColumn : Files → Dataset → PartMeta → Column → Result ColumnRef PartFault → Type 0
OpensColumn files dataset part column (Ok opened) = column_at files dataset part column ≡ Ok opened.mask
OpensColumn files dataset part column (Err (Damaged file kind want have)) =
    (fault : ColFault) × (column_at files dataset part column ≡ Err fault)
    × (column_damage (values_file dataset part column) (mask_file dataset part column) fault
    ≡ Some (record { file = file; kind = kind; want = want; have = have }))
OpensColumn files dataset part column (Err Store) = ⊤
OpensColumn files dataset part column (Err OutOfMemory) = ⊤

-- The file is that of the words that were opened, or is damaged as was answered.
abbrev pub OpensDictionary : Files → Dataset → PartMeta → Column → Result (List (List ℕ)) PartFault → Type 0
OpensDictionary files dataset part column (Ok words) = words_at files dataset.dir part column ≡ Ok words
OpensDictionary files dataset part column (Err (Damaged file kind want have)) =
    (fault : DicFault) × (words_at files dataset.dir part column ≡ Err fault)
    × (dictionary_damage (words_file dataset part column) fault ≡ Some (record { file = file; kind = kind; want = want; have = have }))
OpensDictionary files dataset part column (Err Store) = ⊤
OpensDictionary files dataset part column (Err OutOfMemory) = ⊤

-- a damage that is answered meets P
abbrev pub IfDamaged : PartFault → (Damage → Type 0) → Type 0
IfDamaged (Damaged file kind want have) P = P (record { file = file; kind = kind; want = want; have = have })
IfDamaged Store P = ⊤
IfDamaged OutOfMemory P = ⊤

-- the damaged file is the column's values file or its mask file
abbrev pub IsOfColumn : Dataset → PartMeta → Column → Damage → Type 0
IsOfColumn dataset part column found = (found.file ≡ values_file dataset part column) ⊎ (found.file ≡ mask_file dataset part column)
