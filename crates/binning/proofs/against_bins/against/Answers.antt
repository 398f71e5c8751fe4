use Rattle.std.proofs.Common.{◌≡◌, ◌∙◌, ap, arith, pos, List, get_or, ◌≤ℤ◌, ◌<ℤ◌, false}
use Rattle.std.specs.Int.{w128}
use Rattle.std.proofs.lemmas.Int.{ints, to_z-of_z}
use mir.Val.{SFits}
use Rattle.binning.specs.Spans.{AreApart, IsFirstReaching}
use Rattle.binning.specs.Against.{against, covers}
use Rattle.binning.specs.declared.span_lists.Span.{Span}
use Rattle.binning.proofs.SpanLemmas.{against_none, against_yes, against_unknown, against_no, uncovered_low, uncovered_high}
use Rattle.binning.proofs.against_bins.against.Goals as goal
use Rattle.binning.proofs.against_bins.against.Goals.{else-span-least-via-then-span-least+else-greatest-span, else-span-least-via-else-span-least}

pub returns-then-place-list : goal.returns-then-place-list
returns-then-place-list c =
    let list = c.list-list.result.now in
    let place = c.first_reaching-place.result in
    let fits : SFits w128 c.args.least = c.ranges.least in
    let r : IsFirstReaching list c.args.least place = simp to_z-of_z at c.first_reaching-place.ensures in
    against_none list c.args.least c.args.greatest place c.requires r c.if-place-list.true ∙ ap (λ (s : List Span). against c.args.least c.args.greatest s) c.list-list.ensures.list

pub returns-then-greatest-span : goal.returns-then-greatest-span
returns-then-greatest-span c =
    let d : Span = record { least = pos 0; greatest = pos 0 } in
    let list = c.list-list.result.now in
    let place = c.first_reaching-place.result in
    let fits : SFits w128 c.args.least = c.ranges.least in
    let apart : AreApart list = rw c.list-list.ensures.list c.list-list.ensures.apart in
    let r : IsFirstReaching list c.args.least place = simp to_z-of_z at c.first_reaching-place.ensures in
    let low : (get_or list place d).least ≤ℤ c.args.least = omega (arith, ints) in
    let high : c.args.greatest ≤ℤ (get_or list place d).greatest = omega (arith, ints) in
    against_yes list c.args.least c.args.greatest place d c.requires apart r c.if-place-list.false low high ∙ ap (λ (s : List Span). against c.args.least c.args.greatest s) c.list-list.ensures.list

pub returns-then-span-greatest : goal.returns-then-span-greatest
returns-then-span-greatest c =
    let d : Span = record { least = pos 0; greatest = pos 0 } in
    let list = c.list-list.result.now in
    let place = c.first_reaching-place.result in
    let fits : SFits w128 c.args.least = c.ranges.least in
    let apart : AreApart list = rw c.list-list.ensures.list c.list-list.ensures.apart in
    let r : IsFirstReaching list c.args.least place = simp to_z-of_z at c.first_reaching-place.ensures in
    let low : (get_or list place d).least ≤ℤ c.args.greatest = omega (arith, ints) in
    let open_ : covers c.args.least c.args.greatest (get_or list place d) ≡ false =
    elim c.else-span-least.branch [
      | else-span-least-via-then-span-least+else-greatest-span w ↦ uncovered_high (get_or list place d) c.args.least c.args.greatest (omega (arith, ints))
      | else-span-least-via-else-span-least w ↦ uncovered_low (get_or list place d) c.args.least c.args.greatest (omega (arith, ints))
    ] in
    against_unknown list c.args.least c.args.greatest place d c.requires apart r c.if-place-list.false open_ low ∙ ap (λ (s : List Span). against c.args.least c.args.greatest s) c.list-list.ensures.list

pub returns-else-span-greatest : goal.returns-else-span-greatest
returns-else-span-greatest c =
    let d : Span = record { least = pos 0; greatest = pos 0 } in
    let list = c.list-list.result.now in
    let place = c.first_reaching-place.result in
    let fits : SFits w128 c.args.least = c.ranges.least in
    let apart : AreApart list = rw c.list-list.ensures.list c.list-list.ensures.apart in
    let r : IsFirstReaching list c.args.least place = simp to_z-of_z at c.first_reaching-place.ensures in
    let high : c.args.greatest <ℤ (get_or list place d).least = omega (arith, ints) in
    let open_ : covers c.args.least c.args.greatest (get_or list place d) ≡ false =
    uncovered_low (get_or list place d) c.args.least c.args.greatest (omega (arith, ints)) in
    against_no list c.args.least c.args.greatest place d c.requires apart r c.if-place-list.false open_ high ∙ ap (λ (s : List Span). against c.args.least c.args.greatest s) c.list-list.ensures.list
