use Rattle.std.proofs.Common.{◌≡◌, ◌+◌, ◌*◌, ◌<◌, length, take}
use Rattle.std.specs.List.{flat_map}
use Rattle.wah_words.specs.Bytes.{spelling}
use Rattle.index_file.specs.Places.{places_from}
use Rattle.index_file.proofs.places.places_behind.Given as goal

abbrev pub invariant-loop-bitmap : goal.invariant-loop-bitmap
invariant-loop-bitmap l = record {
  items : l.places.items ≡ places_from l.start (take l.bitmap-index l.bitmaps);
  ends : l.at ≡ l.start + length (flat_map spelling (take l.bitmap-index l.bitmaps));
  small : l.at < 1099511627776 + 1048576 * l.bitmap-index;
}
