-- What is read of a column for its index, and what is written.
use Rattle.std.specs.Prelude.{◌≡◌, ℕ, ℤ, List, ⊤, Option, Some, None, IsSome, length, take}
use Rattle.fb_outside.specs.Files.{Files, told_at}
use Rattle.column_file.specs.declared.column.ColumnRef.{ColumnRef}
use Rattle.column_file.specs.Values.{ValueFits, values_bytes}
use Rattle.std.specs.List.{All}
use Rattle.index_spec.specs.Counts.{bitmap_count}
use Rattle.index_spec.specs.declared.spec.EncodingSpec.{EncodingSpec}
use Rattle.binning.specs.Bins.{bins_of, cells}
use Rattle.binning.specs.Encodings.{nested_bins}
use Rattle.binning.specs.Keys.{IsKeying}
use Rattle.binning.specs.declared.gathering.Bin.{Bin}
use Rattle.binning.specs.declared.rules.Keying.{Keying}
use Rattle.index_build.specs.declared.fault.BuildFault.{BuildFault}
use Rattle.index_build.specs.declared.fault.BuildFault.TheVariants.{Damaged, TooManyBins, Store, OutOfMemory}
use Rattle.index_build.specs.declared.reading.ReadFault.{ReadFault}
use Rattle.index_build.specs.declared.reading.ReadFault.TheVariants.{Short}
use Rattle.index_build.specs.declared.reading.ReadFault.TheVariants as reading

-- ---- what is read of a column

-- the values file of a column has these numbers, one a row
pub record HasNumbers (files : Option Files) (column : ColumnRef) (numbers : List ℤ) : Type 0 where
  pub told : told_at files column.name ≡ Some (values_bytes column.ty numbers)
  pub fit : All (λ number. ValueFits number column.ty) numbers
  pub rows : length numbers ≡ column.rows

-- so many rows from the first on have these numbers, which are those of the file where it is told
pub record AreRead (files : Option Files) (column : ColumnRef) (count : ℕ) (numbers : List ℤ) : Type 0 where
  pub number : length numbers ≡ count
  pub fit : All (λ number. ValueFits number column.ty) numbers
  pub told : (all : List ℤ) → HasNumbers files column all → numbers ≡ take count all

-- the bins of what is read, by the keys that it has
pub record AreBinsOf (files : Option Files) (column : ColumnRef) (keys : List ℤ → Keying) (bins : List Bin) : Type 0 where
  pub numbers : List ℤ
  pub read : AreRead files column column.rows numbers
  pub are : bins ≡ bins_of (keys numbers) (cells column.mask numbers)

-- ---- what is written

-- the bins of a column of so many rows, by some keys
pub record AreOfColumn (rows : ℕ) (bins : List Bin) : Type 0 where
  pub keys : Keying
  pub column : List (Option ℤ)
  pub kept : IsKeying keys
  pub long : length column ≡ rows
  pub are : bins ≡ bins_of keys column

-- why n bins aren't written: too many are told exactly where the encoding has no bitmaps of so many
abbrev pub Tells : EncodingSpec → ℕ → BuildFault → Type 0
Tells encoding n (TooManyBins bins limit) = (bitmap_count encoding n ≡ None) × (bins ≡ nested_bins encoding n) × (limit ≡ 1024)
Tells encoding n Store = IsSome (bitmap_count encoding n)
Tells encoding n OutOfMemory = ⊤
Tells encoding n (Damaged file kind want have) = ⊥

-- ---- what ends the reading of a column

-- a fault that may come over a file of the right length
abbrev pub IsOfOutside : ReadFault → Type 0
IsOfOutside (Short want have) = ⊥
IsOfOutside reading.Store = ⊤
IsOfOutside reading.OutOfMemory = ⊤
