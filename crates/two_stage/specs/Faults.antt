-- What a fault says of the files of a condition's column.
use Rattle.std.specs.Prelude.{◌≡◌, ◌⊎◌, ◌+◌, ◌<◌, ⊤, ℕ, List, length, Option, Some, IfSome, Ok, Err, slice_index}
use Rattle.fb_outside.specs.Files.{Files, bytes_at, file_at}
use Rattle.column_file.specs.Opening.{column_in, mask_in}
use Rattle.column_file.specs.Values.{width_in}
use Rattle.column_file.specs.declared.fault.ColFault.{ColFault}
use Rattle.column_file.specs.declared.fault.ColFault.TheVariants as column
use Rattle.index_file.specs.Fetching.{bitmap_in}
use Rattle.index_file.specs.Opening.{Head, index_in}
use Rattle.index_file.specs.Places.{room_at}
use Rattle.index_file.specs.declared.fault.IndexFault.{IndexFault}
use Rattle.index_file.specs.declared.fault.IndexFault.TheVariants as index
use Rattle.text_column.specs.OpenedDictionary.{dictionary_of}
use Rattle.text_column.specs.OpenedTexts.{text_in}
use Rattle.text_column.specs.declared.fault.DicFault.{DicFault}
use Rattle.text_column.specs.declared.fault.DicFault.TheVariants as words
use Rattle.text_column.specs.declared.fault.TextFault.{TextFault}
use Rattle.text_column.specs.declared.fault.TextFault.TheVariants as text
use Rattle.bin_answers.specs.declared.fault.BinsFault.{BinsFault}
use Rattle.bin_answers.specs.declared.fault.BinsFault.TheVariants as bins
use Rattle.candidates.specs.declared.fault.FindFault.{FindFault}
use Rattle.candidates.specs.declared.fault.FindFault.TheVariants as find
use Rattle.part_meta.specs.declared.part.PartMeta.{PartMeta}
use Rattle.where_plan.specs.declared.plan.PlanAtom.{PlanAtom}
use Rattle.two_stage.specs.Placed.{Placed, index_file, mask_file, placed_of, starts_file, values_file, words_file}
use Rattle.two_stage.specs.declared.fault.EvalFault.{EvalFault}
use Rattle.two_stage.specs.declared.fault.EvalFault.TheVariants.{Col, Index, Words, Text, OutOfMemory}

-- the store failed
abbrev pub IsOfStore : EvalFault → Type 0
IsOfStore (Col col column.Store) = ⊤
IsOfStore (Index col index.Store) = ⊤
IsOfStore (Words col words.Store) = ⊤
IsOfStore (Text col text.Store) = ⊤
IsOfStore why = ⊥

-- memory ran out
abbrev pub IsOfMemory : EvalFault → Type 0
IsOfMemory OutOfMemory = ⊤
IsOfMemory why = ⊥

-- the store failed, or memory ran out
abbrev pub IsOutside : EvalFault → Type 0
IsOutside fault = IsOfStore fault ⊎ IsOfMemory fault

-- ---- what a lower fault is answered by: want of memory by itself

abbrev pub column_fault : ℕ → ColFault → EvalFault
column_fault col column.OutOfMemory = OutOfMemory
column_fault col why = Col col why

abbrev pub index_fault : ℕ → IndexFault → EvalFault
index_fault col index.OutOfMemory = OutOfMemory
index_fault col why = Index col why

abbrev pub words_fault : ℕ → DicFault → EvalFault
words_fault col words.OutOfMemory = OutOfMemory
words_fault col why = Words col why

abbrev pub texts_fault : ℕ → TextFault → EvalFault
texts_fault col text.OutOfMemory = OutOfMemory
texts_fault col why = Text col why

-- the same of bins, and of candidates
abbrev pub bins_fault : ℕ → BinsFault → EvalFault
bins_fault col (bins.Index why) = index_fault col why
bins_fault col bins.OutOfMemory = OutOfMemory

abbrev pub found_fault : ℕ → FindFault → EvalFault
found_fault col (find.Values why) = column_fault col why
found_fault col (find.Texts why) = texts_fault col why
found_fault col find.OutOfMemory = OutOfMemory

-- ---- over files that are told

-- the mask file is refused so, or the values file and the mask file of numbers or codes are
pub data IsColumnFault (files : Files) (p : Placed) (why : ColFault) : Type 0 where
  OfMask : mask_in p.rows (file_at files (mask_file p)) ≡ Err why → IsColumnFault files p why
  OfColumn : column_in (width_in p.column.ty) p.rows (file_at files (values_file p)) (file_at files (mask_file p)) ≡ Err why
      → IsColumnFault files p why

-- the head of the index file is refused so, or a bitmap of it is
pub data IsIndexFault (files : Files) (p : Placed) (why : IndexFault) : Type 0 where
  OfHead : index_in p.rows (file_at files (index_file p)) ≡ Err why → IsIndexFault files p why
  OfBitmap : (head : Head) (k : ℕ) → index_in p.rows (file_at files (index_file p)) ≡ Ok (Some head) → k + 1 < length head.places
      → bitmap_in k p.rows (room_at head.places k) (bytes_at files (index_file p) (slice_index head.places k) (room_at head.places k)) ≡ Err why
      → IsIndexFault files p why

-- ---- of a store, which may not tell its files; no fault wraps want of memory

abbrev pub ColumnStops : Option Files → Placed → ColFault → Type 0
ColumnStops files p column.Store = ⊤
ColumnStops files p column.OutOfMemory = ⊥
ColumnStops files p why = IfSome files (λ m. IsColumnFault m p why)

abbrev pub IndexStops : Option Files → Placed → IndexFault → Type 0
IndexStops files p index.Store = ⊤
IndexStops files p index.OutOfMemory = ⊥
IndexStops files p why = IfSome files (λ m. IsIndexFault m p why)

abbrev pub WordsStop : Option Files → Placed → DicFault → Type 0
WordsStop files p words.Store = ⊤
WordsStop files p words.OutOfMemory = ⊥
WordsStop files p why = IfSome files (λ m. dictionary_of (file_at m (words_file p)) ≡ Err why)

abbrev pub TextsStop : Option Files → Placed → TextFault → Type 0
TextsStop files p text.Store = ⊤
TextsStop files p text.OutOfMemory = ⊥
TextsStop files p why =
    IfSome files (λ m. text_in p.rows (file_at m (values_file p)) (file_at m (starts_file p)) (file_at m (mask_file p)) ≡ Err why)

-- The fault is of a file of that column, which is refused so.
abbrev pub StopsAt : Option Files → Placed → EvalFault → Type 0
StopsAt files p (Col col why) = (col ≡ p.col) × ColumnStops files p why
StopsAt files p (Index col why) = (col ≡ p.col) × IndexStops files p why
StopsAt files p (Words col why) = (col ≡ p.col) × WordsStop files p why
StopsAt files p (Text col why) = (col ≡ p.col) × TextsStop files p why
StopsAt files p OutOfMemory = ⊤

-- the same of the column of a condition
abbrev pub Stops : Option Files → List ℕ → PartMeta → PlanAtom → EvalFault → Type 0
Stops files dir meta condition fault = StopsAt files (placed_of dir meta condition) fault
