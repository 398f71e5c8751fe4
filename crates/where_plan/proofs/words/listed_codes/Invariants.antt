use Rattle.std.proofs.Common.{◌≡◌, ◌&&◌, ℤ, take}
use Rattle.std.specs.List.{AllByRecursion, list_any}
use Rattle.std.specs.Str.{bytes_eq}
use Rattle.binning.specs.Spans.{IsSpanInRange, has, in_span}
use Rattle.where_plan.specs.SpansOf.{code_passes, code_range}
use Rattle.where_plan.proofs.words.listed_codes.Given as goal

abbrev pub invariant-loop-text : goal.invariant-loop-text
invariant-loop-text l = record {
  numbers : (n : ℤ) → has l.spans.items n ≡ (in_span n (code_range l.words) && code_passes (λ word. list_any (bytes_eq word) (take l.text-index l.list)) l.words n);
  within : AllByRecursion IsSpanInRange l.spans.items;
}
