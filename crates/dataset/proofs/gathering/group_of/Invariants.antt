use Rattle.std.proofs.Common.{◌≡◌, ◌<◌, ◌^◌, map, take, drop}
use Rattle.wah_words.specs.Places.{places}
use Rattle.world.specs.Cells.{is_present}
use Rattle.dataset.proofs.gathering.group_of.Given as goal

abbrev pub invariant-loop-row : goal.invariant-loop-row
invariant-loop-row l = record {
  places : places l.row l.group ≡ map is_present (take l.row (drop l.first l.part.cells));
  fits : l.group < 2 ^ l.row;
}
