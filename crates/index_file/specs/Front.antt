-- What the first 24 bytes of an index file say.
use Rattle.std.specs.Prelude.{◌==◌, ◌-◌, ℕ, List, length, take, drop, Result, Ok, Err, nat_lt, bytes_eq, if◌then◌else◌}
use Rattle.std.specs.Int.{w32, from_le_bytes}
use Rattle.index_file.specs.IndexFile.{magic}
use Rattle.index_file.specs.Places.{head_size}
use Rattle.index_file.specs.declared.fault.IndexFault.{IndexFault}
use Rattle.index_file.specs.declared.fault.IndexFault.TheVariants as fault
use Rattle.index_file.specs.declared.front.Front.{Front}

-- the number in the four bytes from a place on
unfoldable pub number_at : ℕ → List ℕ → ℕ
number_at at bytes = from_le_bytes w32 (take 4 (drop at bytes))

-- how many bins, bitmaps and bytes of a specification there are
abbrev pub sizes_at : List ℕ → Front
sizes_at bytes = record { bins = number_at 12 bytes; bitmaps = number_at 16 bytes; text = number_at 20 bytes }

abbrev pub of_rows : ℕ → ℕ → List ℕ → Result Front IndexFault
of_rows rows have bytes = if have == rows then Ok (sizes_at bytes) else Err (fault.Rows rows have)

abbrev pub of_version : ℕ → ℕ → List ℕ → Result Front IndexFault
of_version rows version bytes = if version == 1 then of_rows rows (number_at 8 bytes) bytes else Err (fault.Version version)

-- the sizes that they say of an index of so many rows, or the first fault
unfoldable pub front_in : ℕ → List ℕ → Result Front IndexFault
front_in rows bytes =
    if nat_lt (length bytes) 24 then Err fault.Short else if bytes_eq (take 4 bytes) magic then of_version rows (number_at 4 bytes) bytes else Err fault.Magic

-- the bytes of the head that has these sizes
abbrev pub size_of : Front → ℕ
size_of front = head_size front.text front.bins front.bitmaps

-- and those behind the first 24
abbrev pub rest_size : Front → ℕ
rest_size front = size_of front - 24
