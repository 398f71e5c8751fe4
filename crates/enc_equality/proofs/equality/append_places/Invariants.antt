use Rattle.std.proofs.Common.{◌≡◌, ◌++◌}
use Rattle.index_spec.specs.Members.{from_to}
use Rattle.enc_equality.proofs.equality.append_places.Given as goal

abbrev pub invariant-loop-place : goal.invariant-loop-place
invariant-loop-place l = l.places.items ≡ l.fn.places.items ++ from_to l.first l.place
