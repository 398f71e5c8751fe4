use Rattle.std.proofs.Common.{◌≡◌, ◌++◌, drop}
use Rattle.std.specs.String.{string_bytes}
use Rattle.index_spec.specs.Printed.{comma_each}
use Rattle.index_spec.proofs.printing.push_more.Given as goal

abbrev pub invariant-loop-number : goal.invariant-loop-number
invariant-loop-number l = string_bytes l.out ++ comma_each (drop l.number-index l.numbers) ≡ string_bytes l.fn.out ++ comma_each l.numbers
