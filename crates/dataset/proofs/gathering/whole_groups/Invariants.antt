use Rattle.std.proofs.Common.{◌≡◌, ◌≤◌, ◌+◌, ◌*◌, map, take}
use Rattle.world.specs.Cells.{is_present}
use Rattle.dataset.proofs.gathering.whole_groups.Given as goal

abbrev pub invariant-loop-group : goal.invariant-loop-group
invariant-loop-group l = record {
  values : l.mask.values ≡ map is_present (take (31 * l.group) l.part.cells);
  room : l.groups ≤ l.mask.spare + l.group;
}
