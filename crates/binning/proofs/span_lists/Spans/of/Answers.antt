use Rattle.std.proofs.Common.{◌≡◌, ◌∙◌, sym, ap, List, rules}
use Rattle.std.specs.List.{AllByRecursion}
use Rattle.std.proofs.lemmas.Fn.{always_returns_same}
use Rattle.std.proofs.lemmas.List.Sorted.{list_any-IsPermutation}
use Rattle.binning.specs.Spans.{has, in_span, HasNumber, IsSpanInRange, LeastsRise}
use Rattle.binning.specs.declared.span_lists.Span.{Span}
use Rattle.binning.proofs.SpanLemmas.{numbers-nonempty, range-nonempty, has-nonempty, all_permuted, sorted_leasts}
use Rattle.binning.proofs.span_lists.Spans.of.Goals as goal

pub merged-requires-clause-numbers : goal.merged-requires-clause-numbers
merged-requires-clause-numbers c =
    let all : AllByRecursion HasNumber c.in_ok-kept.kept.items = rw c.in_ok-kept.ensures (numbers-nonempty c.args.list.now) in
    rw c.deref.ensures.value (all_permuted HasNumber _ _ c.sort_unstable_by_key.ensures.permutation all)

pub merged-requires-clause-range : goal.merged-requires-clause-range
merged-requires-clause-range c =
    let all : AllByRecursion IsSpanInRange c.in_ok-kept.kept.items = rw c.in_ok-kept.ensures (range-nonempty c.args.list.now c.requires) in
    rw c.deref.ensures.value (all_permuted IsSpanInRange _ _ c.sort_unstable_by_key.ensures.permutation all)

pub merged-requires-clause-sorted : goal.merged-requires-clause-sorted
merged-requires-clause-sorted c =
    let up : LeastsRise c.sort_unstable_by_key.new.self.items = sorted_leasts _ (c.sort_unstable_by_key.ensures.sorted (λ (s : Span). s.least) (always_returns_same _ (λ a r. r ≡ (a.0.now).least) _ (λ a r q k. search rules))) in
    rw c.deref.ensures.value up

pub returns-clause-same : goal.returns-clause-same
returns-clause-same c =
    λ v. c.in_ok-items.ensures.same v
    ∙ ap (λ (s : List Span). has s v) c.deref.ensures.value
    ∙ sym (list_any-IsPermutation (in_span v) _ _ c.sort_unstable_by_key.ensures.permutation)
    ∙ ap (λ (s : List Span). has s v) c.in_ok-kept.ensures
    ∙ has-nonempty c.args.list.now v
