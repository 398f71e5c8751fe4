use Rattle.std.proofs.Common.{◌≡◌, ◌∙◌, ap, List, Option, Bool, ℤ, IsPermutation, subst, rules}
use Rattle.std.specs.Ordering.{int_cmp}
use Rattle.std.specs.List.Sorted.{IsStableByKey}
use Rattle.std.proofs.lemmas.Fn.{always_returns_same}
use Rattle.binning.specs.Bins.{cells}
use Rattle.binning.specs.Listed.{row_values}
use Rattle.binning.specs.declared.listed.RowValue.{RowValue}
use Rattle.binning.proofs.ListedLemmas.{in_order_from}
use Rattle.binning.proofs.listed.Listed.in_order.Goals as goal

pub returns : goal.returns
returns c =
    let seen : cells c.deref.result.now c.deref-2.result.now ≡ c.args.self.now =
    ap (λ (m : List Bool). cells m c.deref-2.result.now) c.deref.ensures.value
    ∙ ap (λ (vs : List ℤ). cells c.self.inside.is_there.items vs) c.deref-2.ensures.value
    ∙ c.self.view_is in
    let e = c.in_ok-pairs.ensures ∙ ap (row_values 0) seen in
    let key = λ (p : RowValue). p.value in
    let same = always_returns_same _ (λ a r. r ≡ (a.0.now).value) _ (λ a r q k. search rules) in
    let ys = c.sort_by_key.new.self.items in
    let moved : IsPermutation (row_values 0 c.args.self.now) ys = subst (λ (xs : List RowValue). IsPermutation xs ys) e c.sort_by_key.ensures.permutation in
    let stable : IsStableByKey key int_cmp (row_values 0 c.args.self.now) ys = subst (λ (xs : List RowValue). IsStableByKey key int_cmp xs ys) e (c.sort_by_key.ensures.stable key same) in
    in_order_from c.args.self.now ys moved (c.in_ok-sort_by_key.ensures.sorted key same) stable
