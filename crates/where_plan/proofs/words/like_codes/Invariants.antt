use Rattle.std.proofs.Common.{◌≡◌, ◌≤◌, ◌+◌, ◌&&◌, ◌||◌, ℤ, pos, length}
use Rattle.std.specs.List.{AllByRecursion}
use Rattle.patterns.specs.Like.{like}
use Rattle.binning.specs.Spans.{IsSpanInRange, has, in_span}
use Rattle.where_plan.specs.SpansOf.{code_passes, span}
use Rattle.where_plan.proofs.words.like_codes.Given as goal

abbrev pub invariant-loop-place : goal.invariant-loop-place
invariant-loop-place l = record {
  numbers : (n : ℤ) → (has l.runs.items n || in_span n (span (pos l.first) (pos l.place))) ≡ (in_span n (span (pos 1) (pos l.place)) && code_passes (like l.pattern) l.words n);
  within : AllByRecursion IsSpanInRange l.runs.items;
  first : l.first ≤ l.place + 1;
  count : l.count ≡ length l.words;
}
