-- The bitmaps of a file that is written of some bins.
use Rattle.std.proofs.Common.{◌≡◌, ℕ, zero, suc, ◌+◌, ◌-◌, ◌<◌, Bool, Option, Some, List, [], ◌∷◌, length, map, take, drop, get_or, unwrap_or, refl, sym, ap, ◌∙◌, arith}
use Rattle.std.specs.List.{range_with_len, slice_get}
use Rattle.std.proofs.lemmas.List.{length-map}
use Rattle.std.proofs.lemmas.List.FromFn.{length-range_with_len}
use Rattle.fb_outside.specs.Files.{Files, file_at}
use Rattle.wah_words.specs.Bytes.{spelling}
use Rattle.index_spec.specs.Counts.{bitmap_count}
use Rattle.index_spec.specs.Printed.{printed}
use Rattle.index_file.specs.Fetching.{bitmap_in}
use Rattle.index_file.specs.IndexFile.{places_of}
use Rattle.index_file.specs.Places.{head_size, places_from, room_at}
use Rattle.index_file.specs.declared.head.IndexHead.{IndexHead}
use Rattle.index_file.proofs.PlacesLemmas.{length-places}
use Rattle.index_file.proofs.WrittenLemmas.{bitmap_read, bitmap_there}
use Rattle.binning.specs.Encodings.{vectors}
use Rattle.binning.specs.Members.{bitmap, bitmaps_of}
use Rattle.binning.specs.declared.gathering.Bin.{Bin}
use Rattle.index_spec.specs.Members.{member}
use Rattle.binning.proofs.MembersLemmas.{length-union_of}
use Rattle.bin_answers.specs.Bins.{edge_of}
use Rattle.bin_answers.specs.Fetched.{HasBins}
use Rattle.bin_answers.specs.Written.{IsWritten}

first_place : (at : ℕ) (bitmaps : List (List Bool)) → get_or (places_from at bitmaps) 0 0 ≡ at
first_place at [] = refl
first_place at (b ∷ bs) = refl

-- a bitmap has as many bytes as it is spelled in
place_room : (start : ℕ) (bitmaps : List (List Bool)) (k : ℕ) (bits : List Bool) → slice_get bitmaps k ≡ Some bits
    → get_or (places_from start bitmaps) (suc k) 0 - get_or (places_from start bitmaps) k 0 ≡ length (spelling bits)
place_room start [] k bits h = absurd cc
place_room start (b ∷ bs) zero bits h =
    let same : b ≡ bits = cc in
    omega (arith, first_place (start + length (spelling b)) bs, ap (λ (v : List Bool). length (spelling v)) same)
place_room start (b ∷ bs) (suc k) bits h = place_room (start + length (spelling b)) bs k bits h

room_of : (start : ℕ) (bitmaps : List (List Bool)) (k : ℕ) (bits : List Bool) → slice_get bitmaps k ≡ Some bits → room_at (places_from start bitmaps) k ≡ length (spelling bits)
room_of start bitmaps k bits h =
    let next : k + 1 ≡ suc k = omega arith in
    ap (λ (n : ℕ). get_or (places_from start bitmaps) n 0 - get_or (places_from start bitmaps) k 0) next ∙ place_room start bitmaps k bits h

item_of : (f : ℕ → List Bool) (a n k : ℕ) → k < n → slice_get (map f (range_with_len a n)) k ≡ Some (f (a + k))
item_of f a zero k h = absurd (omega arith)
item_of f a (suc n) zero h = let e : a ≡ a + 0 = omega arith in ap (λ (b : ℕ). Some (f b)) e
item_of f a (suc n) (suc k) h = item_of f (a + 1) n k (omega arith) ∙ (let e : a + 1 + k ≡ a + suc k = omega arith in ap (λ (b : ℕ). Some (f b)) e)

pub written_has : (m : Files) (head : IndexHead) (mask : List Bool) (bins : List Bin) → IsWritten m head mask bins → HasBins (Some m) head mask bins
written_has m head mask bins h = record {
  ends = h.ends;
  apart = h.apart;
  all = h.all;
  m = m;
  told = refl;
  there = λ k l.
      (let spec = head.spec in
      let rows = length mask in
      let vs = vectors bins in
      let edges = map edge_of bins in
      let bitmaps = bitmaps_of spec.encoding rows vs in
      let start = head_size (length (printed spec)) (length edges) (length bitmaps) in
      let offsets = places_of spec edges bitmaps in
      let bits = bitmap spec.encoding rows vs k in
      let count = unwrap_or (bitmap_count spec.encoding (length vs)) 0 - 0 in
      let size : length bitmaps ≡ count = length-map (range_with_len 0 count) (bitmap spec.encoding rows vs) ∙ length-range_with_len 0 count in
      let places : length offsets ≡ length bitmaps + 1 = length-places start bitmaps in
      let below : k < count = omega (arith, l, ap length h.places, places, size) in
      let at : slice_get bitmaps k ≡ Some bits =
      item_of (bitmap spec.encoding rows vs) 0 count k below ∙ (let e : 0 + k ≡ k = omega arith in ap (λ (b : ℕ). Some (bitmap spec.encoding rows vs b)) e) in
      let long : length bits ≡ rows = length-union_of rows (member spec.encoding (length vs) k) vs h.apart.long in
      ap (λ (o : List ℕ). bitmap_in k head.rows (room_at o k) (take (room_at o k) (drop (get_or o k 0) (unwrap_or (file_at m head.name) [])))) h.places
      ∙ ap (λ (f : Option (List ℕ)). bitmap_in k head.rows (room_at offsets k) (take (room_at offsets k) (drop (get_or offsets k 0) (unwrap_or f [])))) h.file
      ∙ ap (λ (bytes : List ℕ). bitmap_in k head.rows (room_at offsets k) bytes) (bitmap_there rows spec edges bitmaps k bits at)
      ∙ bitmap_read k head.rows (room_at offsets k) bits (omega (arith, long, h.few)) (long ∙ sym h.rows) (sym (room_of start bitmaps k bits at)));
}
