use Rattle.std.proofs.Common.{◌≡◌, ◌++◌, ◌<◌, ◌^◌, length, take}
use Rattle.fb_types.proofs.slots.CellStore.extend.Given as goal

abbrev pub invariant-loop-cell : goal.invariant-loop-cell
invariant-loop-cell l = record {
  so_far : l.self ≡ l.initial.self ++ take l.cell-index l.cells;
  few : length l.self < 2 ^ 64;
}
