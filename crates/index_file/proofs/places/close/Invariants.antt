use Rattle.std.proofs.Common.{◌≡◌, ◌+◌, drop, option_map}
use Rattle.index_file.specs.Places.{first_close}
use Rattle.index_file.proofs.places.close.Given as goal

abbrev pub invariant-loop-k : goal.invariant-loop-k
invariant-loop-k l = first_close l.before l.places ≡ option_map (λ n. l.k + n) (first_close l.last (drop l.k l.places))
