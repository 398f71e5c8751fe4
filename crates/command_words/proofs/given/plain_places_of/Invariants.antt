-- The places before this one that have no value, and whether this one has.
use Rattle.std.proofs.Common.{◌≡◌, ◌+◌, ◌<◌, ◌^◌, All, filter, map, not, string_bytes}
use Rattle.std.specs.List.{range_with_len}
use Rattle.command_words.specs.Places.{is_value}
use Rattle.command_words.proofs.given.plain_places_of.Given as goal

abbrev pub invariant-loop-place : goal.invariant-loop-place
invariant-loop-place l = record {
  places : l.places.items ≡ filter (λ place. not (is_value l.options (map string_bytes l.words) place)) (range_with_len 0 l.place);
  at_value : l.at_value ≡ is_value l.options (map string_bytes l.words) l.place;
  within : All (λ place. place + 1 < 2 ^ 64) l.places.items;
}
