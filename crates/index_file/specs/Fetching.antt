-- What fetching a bitmap gives over files that are told.
use Rattle.std.specs.Prelude.{◌≡◌, ◌==◌, ℕ, Bool, List, length, Result, Ok, Err, nat_lt, if◌then◌else◌}
use Rattle.wah_words.specs.Bytes.{vector_at}
use Rattle.wah_words.specs.declared.fault.WordsFault.{WordsFault}
use Rattle.wah_words.specs.declared.fault.WordsFault.TheVariants as words
use Rattle.index_file.specs.declared.fault.IndexFault.{IndexFault}
use Rattle.index_file.specs.declared.fault.IndexFault.TheVariants as fault

-- bitmap k of so many rows, whose vector is read in as many bytes as these
abbrev pub to_its_end : ℕ → ℕ → ℕ → Result (List Bool × ℕ) WordsFault → Result (List Bool) IndexFault
to_its_end k rows size (Err why) = Err (fault.Bitmap k why)
to_its_end k rows size (Ok (bits, used)) =
    if nat_lt used size then Err (fault.BitmapTrailing k) else if length bits == rows then Ok bits else Err (fault.BitmapLength k)

-- so many bytes of bitmap k, or that there are fewer
abbrev pub room_in : ℕ → ℕ → List ℕ → Result (List ℕ) IndexFault
room_in k size bytes = if length bytes == size then Ok bytes else Err (fault.Bitmap k words.Short)

abbrev pub with_bytes : ℕ → ℕ → Result (List ℕ) IndexFault → Result (List Bool) IndexFault
with_bytes k rows (Ok bytes) = to_its_end k rows (length bytes) (vector_at bytes)
with_bytes k rows (Err why) = Err why

-- the bits of bitmap k in the bytes between its places, of which there are so many, or the first fault
abbrev pub bitmap_in : ℕ → ℕ → ℕ → List ℕ → Result (List Bool) IndexFault
bitmap_in k rows size bytes = with_bytes k rows (room_in k size bytes)

-- what a call that fetches bitmap k may answer
abbrev pub StopsFetching : ℕ → IndexFault → Type 0
StopsFetching k (fault.Bitmap at words.OutOfMemory) = ⊥
StopsFetching k (fault.Bitmap at why) = at ≡ k
StopsFetching k (fault.BitmapTrailing at) = at ≡ k
StopsFetching k (fault.BitmapLength at) = at ≡ k
StopsFetching k fault.Store = Unit {0}
StopsFetching k fault.OutOfMemory = Unit {0}
StopsFetching k why = ⊥

-- what a call that writes may answer
abbrev pub StopsWriting : IndexFault → Type 0
StopsWriting fault.Store = Unit {0}
StopsWriting fault.OutOfMemory = Unit {0}
StopsWriting why = ⊥
