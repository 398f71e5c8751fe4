use Rattle.std.proofs.Common.{◌≡◌, ◌∙◌, ap, rules, arith, pos, List, length, ◌≤◌, get_or, ltb, false}
use Rattle.std.specs.Int.{w128}
use Rattle.std.proofs.lemmas.Bool.Decides.{nat_tests}
use Rattle.std.proofs.lemmas.Int.{to_z-of_z}
use mir.Val.{SFits}
use Rattle.binning.specs.Spans.{AreApart, IsFirstReaching, has}
use Rattle.binning.specs.declared.span_lists.Span.{Span}
use Rattle.binning.proofs.SpanLemmas.{has_at, has_none, le_test}
use Rattle.binning.proofs.span_lists.Spans.has.Goals as goal

pub returns-then-place-list : goal.returns-then-place-list
returns-then-place-list c =
    let d : Span = record { least = pos 0; greatest = pos 0 } in
    let list = c.list-list.result.now in
    let place = c.first_reaching-place.result in
    let fits : SFits w128 c.args.v = c.ranges.v in
    let fits_least : SFits w128 (get_or list place d).least = search rules in
    let apart : AreApart list = rw c.list-list.ensures.list c.list-list.ensures.apart in
    let r : IsFirstReaching list c.args.v place = simp to_z-of_z at c.first_reaching-place.ensures in
    simp to_z-of_z (le_test (get_or list place d).least c.args.v ∙ has_at list c.args.v place d apart r c.if-place-list.true ∙ ap (λ (s : List Span). has s c.args.v) c.list-list.ensures.list)

pub returns-else-place-list : goal.returns-else-place-list
returns-else-place-list c =
    let list = c.list-list.result.now in
    let place = c.first_reaching-place.result in
    let fits : SFits w128 c.args.v = c.ranges.v in
    let r : IsFirstReaching list c.args.v place = simp to_z-of_z at c.first_reaching-place.ensures in
    let past : length list ≤ place = c.if-place-list.false in
    let t : ltb place (length list) ≡ false = grind (arith, nat_tests) in
    t ∙ has_none list c.args.v place r past ∙ ap (λ (s : List Span). has s c.args.v) c.list-list.ensures.list
