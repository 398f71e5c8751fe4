-- An open index over the file that is written of some bins.
use Rattle.std.specs.Prelude.{◌≡◌, ◌≤◌, Bool, List, Some, length, map}
use Rattle.fb_outside.specs.Files.{Files, file_at}
use Rattle.wah_words.specs.Limits.{most_bits}
use Rattle.wah_logic.specs.Logic.{union}
use Rattle.index_file.specs.IndexFile.{index_bytes, places_of}
use Rattle.index_file.specs.declared.head.IndexHead.{IndexHead}
use Rattle.binning.specs.Encodings.{vectors}
use Rattle.binning.specs.Members.{AreBins, bitmaps_of}
use Rattle.binning.specs.declared.gathering.Bin.{Bin}
use Rattle.bin_answers.specs.Bins.{edge_of}

-- The head says the ends of these bins, which have the rows of the mask, and where their bitmaps stand, and the file is that of
-- such an index.
pub record IsWritten (m : Files) (head : IndexHead) (mask : List Bool) (bins : List Bin) : Type 0 where
  pub apart : AreBins (length mask) (vectors bins)
  pub all : mask ≡ union (length mask) (vectors bins)
  pub few : length mask ≤ most_bits
  pub rows : head.rows ≡ length mask
  pub ends : head.bins ≡ map edge_of bins
  pub places : head.offsets ≡ places_of head.spec (map edge_of bins) (bitmaps_of head.spec.encoding (length mask) (vectors bins))
  pub file : file_at m head.name ≡ Some (index_bytes (length mask) head.spec (map edge_of bins) (bitmaps_of head.spec.encoding (length mask) (vectors bins)))
