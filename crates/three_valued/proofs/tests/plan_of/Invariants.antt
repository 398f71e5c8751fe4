use Rattle.std.proofs.Common.{◌≡◌, length}
use Rattle.std.specs.List.{flat_map}
use Rattle.three_valued.specs.Plans.{atoms_of}
use Rattle.three_valued.proofs.tests.plan_of.Given as goal

abbrev pub invariant-loop : goal.invariant-loop
invariant-loop l = length (flat_map atoms_of l.parts) ≡ l.counter
