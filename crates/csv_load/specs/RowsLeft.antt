-- What a reader over a byte slice has still to give.
use Rattle.std.specs.Prelude.{◌≡◌, ◌+◌, true, false, ℕ, List, [], length, Option, Some, None, IsSome}
use Rattle.std.specs.Borrow.{Bor}
use Rattle.csv.specs.Machine.{ends_at_end}
use Rattle.csv.specs.Reading.{Ready, default_config, is_flexible, reader_config, reader_state, reader_trim, records_from, source_of}
use Rattle.csv.specs.declared.parser.State.{State}
use Rattle.csv.specs.declared.reader.Reader.{Reader}
use Rattle.csv.specs.declared.reader.Trim.TheVariants as trim

-- the records of the bytes that are left, from the state that the reader is in
unfoldable pub records_left : Option (List ℕ) → State → List (List (List ℕ))
records_left None s = []
records_left (Some xs) s = records_from default_config (length xs + 1) s xs

-- the bytes that a reader over a slice has still to read
abbrev pub bytes_left : Reader (Bor (List ℕ)) → Option (List ℕ)
bytes_left rdr = source_of (λ (s : Bor (List ℕ)). Some s.now) rdr

-- the records that a reader over a slice has still to give
abbrev pub rows_left : Reader (Bor (List ℕ)) → List (List (List ℕ))
rows_left rdr = records_left (bytes_left rdr) (reader_state rdr)

-- a reader with the settings of a load, that stands between two records
pub record IsPlain (rdr : Reader (Bor (List ℕ))) : Type 0 where
  pub config : reader_config rdr ≡ default_config
  pub trims : reader_trim rdr ≡ trim.None
  pub flexible : is_flexible rdr ≡ true
  pub ready : Ready rdr
  pub between : ends_at_end (reader_state rdr) ≡ false
  pub told : IsSome (bytes_left rdr)
