use Rattle.std.proofs.Common.{◌≡◌, ◌&&◌, ℤ, take}
use Rattle.std.specs.List.{AllByRecursion, list_any}
use Rattle.std.specs.Ordering.{int_eq}
use Rattle.binning.specs.Spans.{IsSpanInRange, has, in_span}
use Rattle.where_plan.proofs.numbers.single_spans.Given as goal

abbrev pub invariant-loop-number : goal.invariant-loop-number
invariant-loop-number l = record {
  numbers : (n : ℤ) → has l.spans.items n ≡ (in_span n l.fn.ends && list_any (int_eq n) (take l.number-index l.list));
  within : AllByRecursion IsSpanInRange l.spans.items;
  same : l.ends ≡ l.fn.ends;
}
