use Rattle.std.proofs.Common.{◌≡◌, ◌∙◌, ◌∷◌, [], refl, rules, arith}
use Rattle.fb_types.specs.Slots.{cells_in, text_of, AllInText}
use Rattle.fb_types.proofs.SlotFacts.{length-cells_in, AllInText-append, AllInText-grown, cells_in-append, cells_in-grown}
use Rattle.fb_types.specs.contracts.slots.CellStore.{the_view}
use Rattle.fb_types.proofs.slots.CellStore.push.Goals as goal

pub invariant_of-self-in_err-push : goal.invariant_of-self-in_err-push
invariant_of-self-in_err-push c =
    rw (c.in_err-push.ensures.items, c.in_ok-slot.ensures.ok.grown) (AllInText-grown c.self.inside.text.items (text_of c.args.cell.now) c.self.inside.slots.items c.self.invariant)

pub returns-in_err-push-clause-err : goal.returns-in_err-push-clause-err
returns-in_err-push-clause-err c =
    let same : the_view (record { slots = c.push.new.self; text = c.add_cell.new.text }) ≡ c.args.self.now =
    rw (c.in_err-push.ensures.items, c.in_ok-slot.ensures.ok.grown) (cells_in-grown c.self.inside.text.items (text_of c.args.cell.now) c.self.inside.slots.items c.self.invariant ∙ c.self.view_is) in
    search (rules, same)

pub invariant_of-self-2 : goal.invariant_of-self-2
invariant_of-self-2 c =
    let kept = c.in_ok-slot.ensures.ok in
    let old : AllInText c.add_cell.new.text.items c.self.inside.slots.items =
    rw kept.grown (AllInText-grown c.self.inside.text.items (text_of c.args.cell.now) c.self.inside.slots.items c.self.invariant) in
    rw c.in_ok-push.ensures.items (AllInText-append c.add_cell.new.text.items c.self.inside.slots.items _ old (kept.inside, tt))

pub returns-clause-ok : goal.returns-clause-ok
returns-clause-ok c =
    let kept = c.in_ok-slot.ensures.ok in
    let old : cells_in c.add_cell.new.text.items c.self.inside.slots.items ≡ cells_in c.self.inside.text.items c.self.inside.slots.items =
    rw kept.grown (cells_in-grown c.self.inside.text.items (text_of c.args.cell.now) c.self.inside.slots.items c.self.invariant) in
    let added = cells_in-append c.add_cell.new.text.items c.self.inside.slots.items (c.in_ok-slot.slot ∷ []) in
    let value = kept.value in
    rw (← c.self.view_is, c.in_ok-push.ensures.items, added, old, value) refl

pub returns-in_err-slot-clause-few : goal.returns-in_err-slot-clause-few
returns-in_err-slot-clause-few c =
    omega (arith, length-cells_in c.add_cell.new.text.items c.self.inside.slots.items)

pub returns-in_err-push-clause-few : goal.returns-in_err-push-clause-few
returns-in_err-push-clause-few c =
    omega (arith, length-cells_in c.add_cell.new.text.items c.push.new.self.items)

pub returns-clause-few : goal.returns-clause-few
returns-clause-few c =
    omega (arith, length-cells_in c.add_cell.new.text.items c.push.new.self.items)
