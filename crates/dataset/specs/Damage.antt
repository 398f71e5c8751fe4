-- Which files are damaged, and how.
use Rattle.std.specs.Prelude.{◌≡◌, ◌≢◌, ⊤, ℕ, Bool, List, Option, Some, None, Result, Ok, Err, IsSome, take, slice_get}
use Rattle.std.specs.List.{All}
use Rattle.fb_outside.specs.Files.{Files, file_at}
use Rattle.fb_outside.specs.declared.outside.Trouble.{Trouble}
use Rattle.fb_outside.specs.declared.outside.Trouble.TheVariants as trouble
use Rattle.fb_types.specs.declared.schemas.Column.{Column}
use Rattle.fb_types.specs.declared.types.ColType.TheVariants.{Category}
use Rattle.fb_types.specs.Types.{width_of}
use Rattle.column_file.specs.Opening.{column_in}
use Rattle.column_file.specs.Values.{width_in}
use Rattle.column_file.specs.declared.fault.ColFault.{ColFault}
use Rattle.column_file.specs.declared.fault.ColFault.TheVariants as column
use Rattle.text_column.specs.OpenedDictionary.{dictionary_of}
use Rattle.text_column.specs.declared.fault.DicFault.{DicFault}
use Rattle.text_column.specs.declared.fault.DicFault.TheVariants as dictionary
use Rattle.part_meta.specs.declared.catalog.Catalog.{Catalog}
use Rattle.part_meta.specs.declared.names.FileKind.TheVariants as file
use Rattle.part_meta.specs.declared.part.PartMeta.{PartMeta}
use Rattle.part_meta.specs.CatalogText.{IsCatalog, catalog_text}
use Rattle.part_meta.specs.FileNames.{catalog_name, file_name, mask_name, part_name, values_name}
use Rattle.part_meta.specs.PartText.{IsPart, part_text}
use Rattle.dataset.specs.Opened.{HasCatalog, HasPart, IsTextName}
use Rattle.dataset.specs.declared.content.Dataset.{Dataset}
use Rattle.dataset.specs.declared.fault.DamageKind.{DamageKind}
use Rattle.dataset.specs.declared.fault.DamageKind.TheVariants.{Missing, Text, Length, Mask, Words}
use Rattle.dataset.specs.declared.fault.OpenFault.{OpenFault}
use Rattle.dataset.specs.declared.fault.OpenFault.TheVariants.{NoDataset, Damaged, Store, OutOfMemory}

-- a file, what is wrong with it, and two numbers: what had to be and what is there, 0 where the kind has none
pub record Damage : Type 0 where
  pub file : List ℕ
  pub kind : DamageKind
  pub want : ℕ
  pub have : ℕ

abbrev pub damage : List ℕ → DamageKind → Damage
damage file kind = record { file = file; kind = kind; want = 0; have = 0 }

-- ---- the catalog and the texts of parts

-- the part of that number, of so many rows
abbrev pub part_with : Catalog → ℕ → ℕ → PartMeta
part_with catalog number rows = record { number = number; rows = rows; schema = catalog.schema }

-- the bytes are the text of this part, which has that number and the catalog's columns
pub record IsPartText (catalog : Catalog) (number : ℕ) (part : PartMeta) (bytes : List ℕ) : Type 0 where
  pub valid : IsPart part
  pub numbered : part.number ≡ number
  pub columns : part.schema ≡ catalog.schema
  pub text : bytes ≡ part_text part

-- the bytes are the text of no such part
abbrev pub IsNoText : Catalog → ℕ → List ℕ → Type 0
IsNoText catalog number bytes =
    (rows : ℕ) → IsPart (part_with catalog number rows) → part_text (part_with catalog number rows) ≢ bytes

-- some text of a part of this number stands there
abbrev pub IsGood : Files → List ℕ → Catalog → ℕ → Type 0
IsGood files dir catalog number = (rows : ℕ) × HasPart files dir (part_with catalog number rows)

-- the catalog lists the part, and the texts of those before it are good
pub record IsNext (files : Files) (dir : List ℕ) (catalog : Catalog) (number : ℕ) : Type 0 where
  pub place : ℕ
  pub listed : slice_get catalog.parts place ≡ Some number
  pub before : All (IsGood files dir catalog) (take place catalog.parts)

-- The first of the catalog and the listed parts' texts that isn't right: the catalog's file is no catalog's text,
-- a text that the catalog lists is absent, or it is no text of that part with the catalog's columns.
pub data IsFirstDamaged (files : Files) (dir : List ℕ) (found : Damage) : Type 0 where
  NoCatalogText : (bytes : List ℕ) → file_at files (catalog_name dir) ≡ Some bytes
      → ((catalog : Catalog) → IsCatalog catalog → catalog_text catalog ≢ bytes)
      → found ≡ damage (catalog_name dir) Text → IsFirstDamaged files dir found
  NoPart : (catalog : Catalog) (number : ℕ) → HasCatalog files dir catalog → IsNext files dir catalog number
      → file_at files (part_name dir number) ≡ None
      → found ≡ damage (part_name dir number) Missing → IsFirstDamaged files dir found
  NoPartText : (catalog : Catalog) (number : ℕ) (bytes : List ℕ) → HasCatalog files dir catalog
      → IsNext files dir catalog number → file_at files (part_name dir number) ≡ Some bytes
      → IsNoText catalog number bytes → found ≡ damage (part_name dir number) Text → IsFirstDamaged files dir found

-- why no dataset was opened, over files that are told
abbrev pub Unopened : Files → List ℕ → OpenFault → Type 0
Unopened files dir NoDataset = file_at files (catalog_name dir) ≡ None
Unopened files dir (Damaged file kind want have) =
    IsFirstDamaged files dir (record { file = file; kind = kind; want = want; have = have })
Unopened files dir Store = ⊤
Unopened files dir OutOfMemory = ⊤

-- what a trouble with the store is answered by
abbrev pub fault_of_trouble : Trouble → OpenFault
fault_of_trouble trouble.Failed = Store
fault_of_trouble trouble.OutOfMemory = OutOfMemory

-- such a damage as an answer
abbrev pub damaged : List ℕ → DamageKind → OpenFault
damaged file kind = Damaged file kind 0 0

-- a damaged file that opening names is the catalog or a part's text
abbrev pub NamesText : List ℕ → OpenFault → Type 0
NamesText dir NoDataset = ⊤
NamesText dir (Damaged file kind want have) = IsTextName dir file
NamesText dir Store = ⊤
NamesText dir OutOfMemory = ⊤

-- ---- the files of a column

-- what the fault of a column says of its values file and of its mask file
abbrev pub column_damage : (values mask : List ℕ) → ColFault → Option Damage
column_damage values mask column.Missing = Some (damage values Missing)
column_damage values mask (column.WrongLength want have) = Some (record { file = values; kind = Length; want = want; have = have })
column_damage values mask column.MaskMissing = Some (damage mask Missing)
column_damage values mask (column.Mask fault) = Some (damage mask Mask)
column_damage values mask column.MaskTrailing = Some (damage mask Mask)
column_damage values mask (column.MaskLength want have) = Some (record { file = mask; kind = Mask; want = want; have = have })
column_damage values mask column.Store = None
column_damage values mask column.OutOfMemory = None

-- what the fault of a dictionary says of its file
abbrev pub dictionary_damage : (words : List ℕ) → DicFault → Option Damage
dictionary_damage words dictionary.Missing = Some (damage words Missing)
dictionary_damage words dictionary.Store = None
dictionary_damage words dictionary.OutOfMemory = None
dictionary_damage words fault = Some (damage words Words)

-- a category's words
abbrev pub words_name : List ℕ → ℕ → List ℕ → List ℕ
words_name dir part name = file_name dir part (Some name) file.Words

-- which rows of a part have a value by the column's values and mask, or the first fault of these files
abbrev pub rows_at : Files → List ℕ → PartMeta → Column → Result (List Bool) ColFault
rows_at files dir part column =
    column_in (width_in column.ty) part.rows (file_at files (values_name dir part.number column.name))
    (file_at files (mask_name dir part.number column.name))

-- the words in a category's dictionary, or its first fault
abbrev pub words_at : Files → List ℕ → PartMeta → Column → Result (List (List ℕ)) DicFault
words_at files dir part column = dictionary_of (file_at files (words_name dir part.number column.name))

-- The first damage among the files of a column of a width: its values and its mask aren't those of a column of the part's rows, or
-- these are, and a category's dictionary is none.
pub data IsDamagedAt (files : Files) (dir : List ℕ) (part : PartMeta) (column : Column) (found : Damage) : Type 0 where
  NoColumn : (fault : ColFault) → rows_at files dir part column ≡ Err fault
      → column_damage (values_name dir part.number column.name) (mask_name dir part.number column.name) fault ≡ Some found
      → IsDamagedAt files dir part column found
  NoDictionary : (mask : List Bool) (fault : DicFault) → rows_at files dir part column ≡ Ok mask → column.ty ≡ Category
      → words_at files dir part column ≡ Err fault
      → dictionary_damage (words_name dir part.number column.name) fault ≡ Some found → IsDamagedAt files dir part column found

-- A part of an opened dataset has a column of this name and of a width, one of whose files is damaged.
pub record IsColumnDamaged (files : Files) (dataset : Dataset) (name : List ℕ) (found : Damage) : Type 0 where
  pub part : PartMeta
  pub place : ℕ
  pub listed : slice_get dataset.parts place ≡ Some part
  pub column : Column
  pub col : ℕ
  pub in_schema : slice_get dataset.schema col ≡ Some column
  pub named : column.name ≡ name
  pub width : IsSome (width_of column.ty)
  pub first : IsDamagedAt files dataset.dir part column found
