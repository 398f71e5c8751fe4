use Rattle.std.proofs.Common.{◌≡◌, ◌-◌, ◌*◌, ◌≤◌, ◌++◌, drop, vec_len, None}
use Rattle.std.specs.Vec.{vec_capacity}
use Rattle.wah_words.specs.Spelling.{literal, groups_told}
use Rattle.wah_words.specs.Bytes.{decoded, decoded_all, numbers_at, first_wrong}
use Rattle.wah_words.proofs.WordsLemmas.{last_of}
use Rattle.wah_words.proofs.reading.read_words.Given as goal

abbrev pub invariant-loop-place : goal.invariant-loop-place
invariant-loop-place l = record {
  items : l.regular.items ++ numbers_at (l.count - l.place) l.rest ≡ numbers_at l.count l.bytes;
  right : first_wrong (literal 0) (decoded_all l.regular.items) ≡ None;
  last : last_of (literal 0) (decoded_all l.regular.items) ≡ decoded l.last;
  groups : l.groups ≡ groups_told (decoded_all l.regular.items);
  few : l.groups ≤ 1073741824 * l.place;
  len : vec_len l.regular ≡ l.place;
  capacity : vec_capacity l.regular ≡ l.count;
  rest : l.rest ≡ drop (4 * l.place) l.bytes;
}
