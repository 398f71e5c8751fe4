use Rattle.std.proofs.Common.{◌≡◌, ◌++◌, map, take}
use Rattle.candidates.specs.Texts.{meets}
use Rattle.candidates.proofs.texts.push_tests.Given as goal

abbrev pub invariant-loop-text : goal.invariant-loop-text
invariant-loop-text l = record {
  bits : l.found.bits ≡ l.fn.found.bits ++ map (meets l.condition) (take l.text-index l.texts);
  rows : l.found.rows ≡ l.fn.found.rows;
}
