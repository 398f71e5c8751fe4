use Rattle.std.proofs.Common.{◌≡◌, ◌+◌, ◌≤◌, length, take}
use Rattle.std.specs.List.{flat_map}
use Rattle.wah_words.specs.Places.{places}
use Rattle.wah_logic.proofs.groups.Groups.vector.Given as goal

abbrev pub invariant-loop-group : goal.invariant-loop-group
invariant-loop-group l = record {
  values : l.out.values ≡ flat_map (places 31) (take l.group-index l.self-inside.whole.items);
  room : length l.self-inside.whole.items ≤ l.out.spare + l.group-index;
}
