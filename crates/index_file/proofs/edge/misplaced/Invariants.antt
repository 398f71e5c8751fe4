use Rattle.std.proofs.Common.{◌≡◌, ◌+◌, drop, option_map}
use Rattle.index_file.specs.Order.{first_misplaced}
use Rattle.index_file.proofs.edge.misplaced.Given as goal

abbrev pub invariant-loop-k : goal.invariant-loop-k
invariant-loop-k l = first_misplaced l.before l.edges ≡ option_map (λ n. l.k + n) (first_misplaced l.last (drop l.k l.edges))
