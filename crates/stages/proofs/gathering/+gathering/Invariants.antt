use Rattle.std.proofs.Common.{◌≡◌, ◌+◌, ◌*◌, ◌++◌, drop, map}
use Rattle.std.specs.List.{flat_map}
use Rattle.three_valued.specs.Plans.{atoms_of, parts_in, parts_of}
use Rattle.stages.proofs.gathering.+gathering.Given as goal

abbrev pub invariant-gather_all-loop-part : goal.invariant-gather_all-loop-part
invariant-gather_all-loop-part l =
    map (λ item. item.now) l.out.items ++ flat_map atoms_of (drop l.part-index l.parts) ≡ map (λ item. item.now) l.fn.out.items ++ flat_map atoms_of l.parts

abbrev pub decreases-gather : goal.decreases-gather
decreases-gather l = 2 * parts_of l.plan.now + 1

abbrev pub decreases-gather_all : goal.decreases-gather_all
decreases-gather_all l = 2 * parts_in l.parts.now
