use Rattle.std.proofs.Common.{◌≡◌, ◌+◌, ◌≤◌, true, refl, ap, subst, sym, ◌∙◌, arith}
use Rattle.std.specs.Prelude.{Result, Ok, Err, OnErr}
use Rattle.query_grammar.specs.declared.picking.Pick.{Pick}
use Rattle.select_group.specs.Gathered.{CanBeAdded, Held, SameTotals}
use Rattle.select_group.specs.Totals.{OneMore}
use Rattle.select_group.proofs.GroupLemmas.{all_fit_more, gathered_group, gathered_still, grows_fits}
use Rattle.select_group.proofs.grouper.Grouper.add.Goals as goal

on_err_of : {T E P : Type 0} (r : Result T E) → P → OnErr r P
on_err_of (Ok x) p = tt
on_err_of (Err e) p = p

pub returns-in_err-add_to_group-clause-refused : goal.returns-in_err-add_to_group-clause-refused
returns-in_err-add_to_group-clause-refused c =
    let is = c.self.view_is in
    let same : SameTotals c.args.self.now.groups c.add_to_group.new.groups.entries =
    subst (λ g. SameTotals g c.add_to_group.new.groups.entries) (ap (λ (h : Held). h.groups) is) c.in_err-add_to_group.ensures.kept in
    on_err_of c.from_residual.result (gathered_still c.args.self.now _ (ap (λ (h : Held). h.pick) is) (ap (λ (h : Held). h.added) is) (ap (λ (h : Held). h.rows) is) same)

pub invariant_of-self-then-self : goal.invariant_of-self-then-self
invariant_of-self-then-self c =
    let is = c.self.view_is in
    let count : c.self.inside.added ≡ c.args.self.now.added = ap (λ (h : Held). h.added) is in
    let can : CanBeAdded c.self.inside.pick.items c.args.cells.items =
    subst (λ items. CanBeAdded items c.args.cells.items) (sym (ap (λ (h : Held). h.pick.items) is)) c.requires.can in
    let grown : OneMore c.self.inside.pick.items c.args.cells.items c.self.inside.groups.entries c.add_to_group.new.groups.entries =
    subst (λ items. OneMore items c.args.cells.items c.self.inside.groups.entries c.add_to_group.new.groups.entries) c.as_slice-items.ensures c.in_ok-add_to_group.ensures.grown in
    (grows_fits c.self.inside.added c.self.inside.pick.items c.args.cells.items c.self.inside.groups.entries c.add_to_group.new.groups.entries can c.self.invariant.0 grown, omega (arith, count))

pub returns-then-self-clause-gathered : goal.returns-then-self-clause-gathered
returns-then-self-clause-gathered c =
    let is = c.self.view_is in
    let grouped : c.args.self.now.pick.grouped ≡ true = sym (ap (λ (h : Held). h.pick.grouped) is) ∙ c.if-self.true in
    let items = c.as_slice-items.ensures ∙ ap (λ (h : Held). h.pick.items) is in
    let grown : OneMore c.args.self.now.pick.items c.args.cells.items c.args.self.now.groups c.add_to_group.new.groups.entries =
    subst (λ g. OneMore c.args.self.now.pick.items c.args.cells.items g c.add_to_group.new.groups.entries) (ap (λ (h : Held). h.groups) is)
    (subst (λ is. OneMore is c.args.cells.items c.self.inside.groups.entries c.add_to_group.new.groups.entries) items c.in_ok-add_to_group.ensures.grown) in
    gathered_group c.args.self.now _ c.args.cells.items (ap (λ (h : Held). h.pick) is) (ap (λ (h : Held). h.added + 1) is) grouped c.requires.can.one_each grown

pub invariant_of-self-2 : goal.invariant_of-self-2
invariant_of-self-2 c =
    let count : c.self.inside.added ≡ c.args.self.now.added = ap (λ (h : Held). h.added) c.self.view_is in
    let items = c.self.inside.pick.items in
    (all_fit_more items items c.self.inside.added (c.self.inside.added + 1) c.self.inside.groups.entries refl (omega arith) c.self.invariant.0, omega (arith, count))
