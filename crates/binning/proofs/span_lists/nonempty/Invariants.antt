use Rattle.std.proofs.Common.{◌≡◌, take, filter}
use Rattle.binning.specs.Spans.{has_number}
use Rattle.binning.proofs.span_lists.nonempty.Given as goal

abbrev pub invariant-loop-span : goal.invariant-loop-span
invariant-loop-span l = l.kept.items ≡ filter has_number (take l.span-index l.list)
