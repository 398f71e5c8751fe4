use Rattle.stages.proofs.SheetLemmas.{Filled}
use Rattle.stages.proofs.tests.known_of.Given as goal

abbrev pub invariant-loop-cell : goal.invariant-loop-cell
invariant-loop-cell l = record {
  definite : Filled l.definite l.cell-index;
  unknown : Filled l.unknown l.cell-index;
  truth : Filled l.truth l.cell-index;
}
