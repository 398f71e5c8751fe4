use Rattle.std.proofs.Common.{◌+◌, ◌<◌, ◌≤◌, ◌∷◌, ◌∙◌, ap, List, length, take, drop, get_or, arith, pos, refl}
use Rattle.std.proofs.lemmas.List.{take_all}
use Rattle.binning.specs.Spans.{has}
use Rattle.binning.specs.declared.span_lists.Span.{Span}
use Rattle.binning.proofs.SpanLemmas.{seen_more, next_of, joined_start, joined_end}
use Rattle.binning.proofs.span_lists.merged.Goals as goal

pub loop-span-init : goal.loop-span-init
loop-span-init c =
    let some : 0 < length c.args.spans.now = omega arith in
    let e = c.new-items.ensures.items in
    rw e (joined_start c.args.spans.now (record { least = pos 0; greatest = pos 0 }) some c.requires.numbers c.requires.range c.requires.sorted)

pub loop-span-preserved : goal.loop-span-preserved
loop-span-preserved c =
    let d : Span = record { least = pos 0; greatest = pos 0 } in
    let i = c.loop-span.span-index in
    let spans = c.args.spans.now in
    let within : i < length spans = omega arith in
    rw (← seen_more (get_or spans 0 d) (get_or spans i d) spans i d within refl)
    (c.in_ok-current.ensures (drop (i + 1) spans) (get_or spans 0 d ∷ take i spans) (rw (← next_of spans i d within) c.loop-span.invariant))

pub returns-clause-same : goal.returns-clause-same
returns-clause-same c =
    let d : Span = record { least = pos 0; greatest = pos 0 } in
    let spans = c.args.spans.now in
    let some : 0 < length spans = omega arith in
    let past : length spans ≤ c.loop-span.span-index = omega arith in
    λ x. rw c.in_ok-push.ensures.items (c.loop-span.invariant.same x ∙ ap (λ (s : List Span). has (get_or spans 0 d ∷ s) x) (take_all c.loop-span.span-index spans past) ∙ joined_end spans d x some)
