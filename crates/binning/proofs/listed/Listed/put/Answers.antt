use Rattle.std.proofs.Common.{◌≡◌, ◌++◌, ◌∙◌, sym, ap, List, Bool, ℤ, length, length-append, arith}
use Rattle.binning.specs.Bins.{cells}
use Rattle.binning.specs.Spans.{IsInRange}
use Rattle.binning.proofs.ColumnLemmas.{length-cells}
use Rattle.binning.proofs.ListedLemmas.{cells-append, all_append}
use Rattle.binning.proofs.listed.Listed.put.Goals as goal

pub invariant_of-all : goal.invariant_of-all
invariant_of-all c =
    let mask = c.all.inside.is_there.items in
    let vs = c.all.inside.values.items in
    let i = c.all.invariant in
    let e : c.extend_from_slice.new.self.items ≡ mask ++ c.args.is_there.now = c.in_ok-extend_from_slice.ensures.items in
    let f : c.extend_from_slice-2.new.self.items ≡ vs ++ c.args.values.now = c.in_ok-extend_from_slice-2.ensures.items in
    let seen : length c.args.self ≡ length mask = ap length (sym c.all.view_is) ∙ length-cells mask vs i.0 in
    let a = ap length e ∙ length-append mask c.args.is_there.now in
    let b = ap length f ∙ length-append vs c.args.values.now in
    (omega (arith, a, b, i.0, c.requires.same), omega (arith, b, seen, i.0, c.requires.room), rw f (all_append IsInRange vs c.args.values.now i.2 c.requires.within))

pub returns : goal.returns
returns c =
    let mask = c.all.inside.is_there.items in
    let vs = c.all.inside.values.items in
    let e : c.extend_from_slice.new.self.items ≡ mask ++ c.args.is_there.now = c.in_ok-extend_from_slice.ensures.items in
    let f : c.extend_from_slice-2.new.self.items ≡ vs ++ c.args.values.now = c.in_ok-extend_from_slice-2.ensures.items in
    ap (λ (m : List Bool). cells m c.extend_from_slice-2.new.self.items) e
    ∙ ap (λ (ws : List ℤ). cells (mask ++ c.args.is_there.now) ws) f
    ∙ cells-append mask vs c.args.is_there.now c.args.values.now c.all.invariant.0
    ∙ ap (λ cs. cs ++ cells c.args.is_there.now c.args.values.now) c.all.view_is
