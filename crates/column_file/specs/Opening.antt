-- What opening a column gives over files that are told: the bits of its mask, or the first fault.
use Rattle.std.specs.Prelude.{◌≡◌, ◌≢◌, ◌==◌, ◌*◌, ℕ, List, Bool, length, Option, None, Some, Result, Ok, Err, nat_lt, if◌then◌else◌}
use Rattle.wah_words.specs.Bytes.{vector_at}
use Rattle.wah_words.specs.declared.fault.WordsFault.{WordsFault}
use Rattle.wah_words.specs.declared.fault.WordsFault.TheVariants as words
use Rattle.column_file.specs.declared.column.ColumnRef.{ColumnRef}
use Rattle.column_file.specs.declared.fault.ColFault.{ColFault}
use Rattle.column_file.specs.declared.fault.ColFault.TheVariants.{Missing, WrongLength, MaskMissing, Mask, MaskTrailing, MaskLength, Store, OutOfMemory}

-- a vector that ends where the `size` bytes end and has a bit for each row
abbrev pub to_its_end : ℕ → ℕ → Result (List Bool × ℕ) WordsFault → Result (List Bool) ColFault
to_its_end rows size (Err fault) = Err (Mask fault)
to_its_end rows size (Ok (bits, used)) =
    if nat_lt used size then Err MaskTrailing else if length bits == rows then Ok bits else Err (MaskLength rows (length bits))

-- the bits that the mask file has for so many rows
abbrev pub mask_in : ℕ → Option (List ℕ) → Result (List Bool) ColFault
mask_in rows None = Err MaskMissing
mask_in rows (Some bytes) = to_its_end rows (length bytes) (vector_at bytes)

-- the same of a values file of this width and a mask file
abbrev pub column_in : ℕ → ℕ → Option (List ℕ) → Option (List ℕ) → Result (List Bool) ColFault
column_in width rows None mask = Err Missing
column_in width rows (Some values) mask =
    if length values == rows * width then mask_in rows mask else Err (WrongLength (rows * width) (length values))

-- what a fault tells of the files; want of memory and a failing store tell nothing
abbrev pub told_by_files : ColFault → Option ColFault
told_by_files Store = None
told_by_files OutOfMemory = None
told_by_files fault = Some fault

-- what a call that writes may answer
abbrev pub StopsWriting : ColFault → Type 0
StopsWriting Store = Unit {0}
StopsWriting OutOfMemory = Unit {0}
StopsWriting fault = ⊥

-- the mask of what was opened
abbrev pub opened_mask : Result ColumnRef ColFault → Result (List Bool) ColFault
opened_mask (Ok column) = Ok column.mask
opened_mask (Err fault) = Err fault

-- what opening a mask of so many rows may answer; want of memory in a mask is answered as such, and never as a damaged
-- mask
abbrev pub StopsMask : ℕ → ColFault → Type 0
StopsMask rows Missing = ⊥
StopsMask rows (WrongLength want have) = ⊥
StopsMask rows (Mask words.OutOfMemory) = ⊥
StopsMask rows (MaskLength want have) = (want ≡ rows) × (have ≢ rows)
StopsMask rows fault = Unit {0}

-- a fault of the bytes of a mask file, which are read before it is told
abbrev pub IsOfMask : ColFault → Type 0
IsOfMask (Mask fault) = Unit {0}
IsOfMask MaskTrailing = Unit {0}
IsOfMask (MaskLength want have) = Unit {0}
IsOfMask fault = ⊥

-- what opening a column of so many rows, of so many bytes each, may answer
abbrev pub StopsOpening : ℕ → ℕ → ColFault → Type 0
StopsOpening width rows Missing = Unit {0}
StopsOpening width rows (WrongLength want have) = (want ≡ rows * width) × (have ≢ want)
StopsOpening width rows fault = StopsMask rows fault
