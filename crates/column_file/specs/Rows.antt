-- What reading rows of a values file gives over files that are told.
use Rattle.std.specs.Prelude.{◌≡◌, ◌==◌, ◌*◌, ◌<◌, ℕ, ℤ, List, length, Result, Ok, Err, if◌then◌else◌}
use Rattle.fb_types.specs.declared.types.ColType.{ColType}
use Rattle.column_file.specs.Values.{numbers_of, width_in}
use Rattle.column_file.specs.declared.fault.ColFault.{ColFault}
use Rattle.column_file.specs.declared.fault.ColFault.TheVariants.{WrongLength, Store}

-- the numbers of so many rows, whose bytes are these, or how many bytes there are where some are missing
abbrev pub rows_in : ColType → ℕ → List ℕ → Result (List ℤ) ColFault
rows_in ty count bytes =
    if length bytes == count * width_in ty then Ok (numbers_of ty count bytes) else Err (WrongLength (count * width_in ty) (length bytes))

-- What a call answered, and left in its buffer, is what reading gives, unless the store failed.
abbrev pub ReadsRows : Result (Unit {0}) ColFault → List ℤ → Result (List ℤ) ColFault → Type 0
ReadsRows (Ok done) out given = given ≡ Ok out
ReadsRows (Err Store) out given = Unit {0}
ReadsRows (Err fault) out given = given ≡ Err fault

-- what a call that reads `want` bytes may answer
abbrev pub StopsReading : ℕ → ColFault → Type 0
StopsReading most Store = Unit {0}
StopsReading most (WrongLength want have) = (want ≡ most) × (have < most)
StopsReading most fault = ⊥
