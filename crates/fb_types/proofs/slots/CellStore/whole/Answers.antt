use Rattle.std.proofs.Common.{ap, refl, arith, Some}
use Rattle.std.proofs.lemmas.Int.{to_z_pos}
use mir.Syntax.{w128}
use Rattle.fb_types.proofs.SlotFacts.{cell_of_slot, slot_place, negative_kept}
use Rattle.fb_types.proofs.slots.CellStore.whole.Goals as goal

pub index-requires : goal.index-requires
index-requires c =
    omega (arith, slot_place c.self.inside.text.items c.self.inside.slots.items c.args.self.now c.args.at c.self.view_is c.requires)

pub returns-in-Natural : goal.returns-in-Natural
returns-in-Natural c =
    let cell = cell_of_slot c.self.inside.text.items c.self.inside.slots.items c.args.self.now c.args.at c.index.result.now c.self.view_is c.requires c.index.ensures in
    rw (cell, c.in-Natural.is) (ap (λ z. Some z) (to_z_pos w128 c.in-Natural.n (omega arith)))

pub returns-in-Negative : goal.returns-in-Negative
returns-in-Negative c =
    let cell = cell_of_slot c.self.inside.text.items c.self.inside.slots.items c.args.self.now c.args.at c.index.result.now c.self.view_is c.requires c.index.ensures in
    rw (cell, c.in-Negative.is) (ap (λ z. Some z) (negative_kept c.in-Negative.n (omega arith)))

pub returns-in-Empty : goal.returns-in-Empty
returns-in-Empty c =
    let cell = cell_of_slot c.self.inside.text.items c.self.inside.slots.items c.args.self.now c.args.at c.index.result.now c.self.view_is c.requires c.index.ensures in
    rw (cell, c.in-Empty.is) refl

pub returns-in-Bytes : goal.returns-in-Bytes
returns-in-Bytes c =
    let cell = cell_of_slot c.self.inside.text.items c.self.inside.slots.items c.args.self.now c.args.at c.index.result.now c.self.view_is c.requires c.index.ensures in
    rw (cell, c.in-Bytes.is) refl
