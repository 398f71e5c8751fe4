-- What opening a text column, and reading texts of it, gives over files that are told.
use Rattle.std.specs.Prelude.{◌≡◌, ◌≢◌, ◌≤◌, ◌==◌, ◌+◌, ◌*◌, ℕ, Bool, Vec, List, length, slice_index, Option, Some, None, Result, Ok, Err, if◌then◌else◌}
use Rattle.column_file.specs.declared.fault.ColFault.{ColFault}
use Rattle.column_file.specs.declared.fault.ColFault.TheVariants as column
use Rattle.column_file.specs.Opening.{mask_in, StopsMask}
use Rattle.text_column.specs.Texts.{first_wrong, starts_at, texts_at}
use Rattle.text_column.specs.declared.text_ref.TextRef.{TextRef}
use Rattle.text_column.specs.declared.fault.TextFault.{TextFault}
use Rattle.text_column.specs.declared.fault.TextFault.TheVariants.{Missing, StartsMissing, StartsLength, NotRising, LastStart, ShortRead, Mask, Store, OutOfMemory}

-- what a fault tells of the files; want of memory and a failing store tell nothing
abbrev pub told_by_files : TextFault → Option TextFault
told_by_files Store = None
told_by_files OutOfMemory = None
told_by_files fault = Some fault

-- what a vector holds
abbrev pub listed : {X A : Type 0} → Result (Vec X A) TextFault → Result (List X) TextFault
listed (Ok items) = Ok items.items
listed (Err fault) = Err fault

-- ---- opening

abbrev pub unless_wrong : Option ℕ → Result (List ℕ) TextFault → Result (List ℕ) TextFault
unless_wrong (Some place) placed = Err (NotRising place)
unless_wrong None placed = placed

-- starts of so many rows of a text file of this size, or the first of them that is wrong
abbrev pub placed_in : ℕ → ℕ → List ℕ → Result (List ℕ) TextFault
placed_in size rows starts =
    unless_wrong (first_wrong starts) (if slice_index starts rows == size then Ok starts else Err (LastStart size (slice_index starts rows)))

-- the starts of so many rows in a starts file, or its first fault
abbrev pub starts_in : ℕ → ℕ → Option (List ℕ) → Result (List ℕ) TextFault
starts_in size rows None = Err StartsMissing
starts_in size rows (Some bytes) =
    if length bytes == 8 * (rows + 1) then placed_in size rows (starts_at (rows + 1) bytes) else Err (StartsLength (8 * (rows + 1)) (length bytes))

-- a mask, or the fault of its file
abbrev pub masked : Result (List Bool) ColFault → Result (List Bool) TextFault
masked (Ok bits) = Ok bits
masked (Err fault) = Err (Mask fault)

abbrev pub with_starts : List ℕ → Result (List Bool) TextFault → Result (List ℕ × List Bool) TextFault
with_starts starts (Ok bits) = Ok (starts, bits)
with_starts starts (Err fault) = Err fault

abbrev pub and_mask : Result (List ℕ) TextFault → Result (List Bool) TextFault → Result (List ℕ × List Bool) TextFault
and_mask (Ok starts) mask = with_starts starts mask
and_mask (Err fault) mask = Err fault

-- the starts and the mask that the three files of a text column with so many rows have, or the first fault
abbrev pub text_in : ℕ → Option (List ℕ) → Option (List ℕ) → Option (List ℕ) → Result (List ℕ × List Bool) TextFault
text_in rows None starts mask = Err Missing
text_in rows (Some text) starts mask = and_mask (starts_in (length text) rows starts) (masked (mask_in rows mask))

-- what was opened
abbrev pub opened_text : Result TextRef TextFault → Result (List ℕ × List Bool) TextFault
opened_text (Ok text) = Ok (text.starts.items, text.mask)
opened_text (Err fault) = Err fault

-- what opening a text column of so many rows may answer
abbrev pub StopsOpeningText : ℕ → TextFault → Type 0
StopsOpeningText rows (StartsLength want have) = (want ≡ 8 * (rows + 1)) × (have ≢ want)
StopsOpeningText rows (NotRising place) = place ≤ rows
StopsOpeningText rows (LastStart want have) = have ≢ want
StopsOpeningText rows ShortRead = ⊥
StopsOpeningText rows (Mask column.Store) = ⊥
StopsOpeningText rows (Mask column.OutOfMemory) = ⊥
StopsOpeningText rows (Mask fault) = StopsMask rows fault
StopsOpeningText rows fault = Unit {0}

-- what reading starts may answer, and what reading a mask
abbrev pub StopsStarts : ℕ → TextFault → Type 0
StopsStarts rows Missing = ⊥
StopsStarts rows (Mask fault) = ⊥
StopsStarts rows fault = StopsOpeningText rows fault

abbrev pub StopsMasked : ℕ → TextFault → Type 0
StopsMasked rows (Mask fault) = StopsOpeningText rows (Mask fault)
StopsMasked rows Store = Unit {0}
StopsMasked rows OutOfMemory = Unit {0}
StopsMasked rows fault = ⊥

-- ---- reading texts

-- so many bytes, or that there are fewer
abbrev pub part_in : ℕ → List ℕ → Result (List ℕ) TextFault
part_in want bytes = if length bytes == want then Ok bytes else Err ShortRead

abbrev pub parted_by : List ℕ → Result (List ℕ) TextFault → Result (List (List ℕ)) TextFault
parted_by starts (Ok bytes) = Ok (texts_at starts bytes)
parted_by starts (Err fault) = Err fault

-- the texts between these starts, whose bytes these are, or that some bytes are missing
abbrev pub read_in : ℕ → List ℕ → List ℕ → Result (List (List ℕ)) TextFault
read_in want starts bytes = parted_by starts (part_in want bytes)

-- what reading texts may answer
abbrev pub StopsReadingTexts : TextFault → Type 0
StopsReadingTexts ShortRead = Unit {0}
StopsReadingTexts Store = Unit {0}
StopsReadingTexts OutOfMemory = Unit {0}
StopsReadingTexts fault = ⊥
