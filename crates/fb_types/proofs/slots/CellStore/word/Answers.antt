use Rattle.std.proofs.Common.{rules, ap, refl, arith, Some, take, drop, ◌≤◌, ◌+◌, length}
use Rattle.fb_types.proofs.SlotFacts.{cell_of_slot, slot_in_text, slot_place}
use Rattle.fb_types.proofs.slots.CellStore.word.Goals as goal

pub index-requires : goal.index-requires
index-requires c =
    omega (arith, slot_place c.self.inside.text.items c.self.inside.slots.items c.args.self.now c.args.at c.self.view_is c.requires)

pub slice_bounds-result-end : goal.slice_bounds-result-end
slice_bounds-result-end c =
    let inside = slot_in_text c.self.inside.text.items c.self.inside.slots.items c.args.self.now c.args.at c.index.result.now c.self.view_is c.requires c.self.invariant c.index.ensures in
    let ends : c.in-Bytes.start + c.in-Bytes.len ≤ length c.self.inside.text.items = rw c.in-Bytes.is at inside in
    search (rules, ends)

pub returns-in-Bytes : goal.returns-in-Bytes
returns-in-Bytes c =
    let cell = cell_of_slot c.self.inside.text.items c.self.inside.slots.items c.args.self.now c.args.at c.index.result.now c.self.view_is c.requires c.index.ensures in
    rw (cell, c.in-Bytes.is, c.deref.ensures.value) (ap (λ n. Some (take n (drop c.in-Bytes.start c.self.inside.text.items))) (omega arith))

pub returns-in-Empty : goal.returns-in-Empty
returns-in-Empty c =
    let cell = cell_of_slot c.self.inside.text.items c.self.inside.slots.items c.args.self.now c.args.at c.index.result.now c.self.view_is c.requires c.index.ensures in
    rw (cell, c.in-Empty.is) refl

pub returns-in-Natural : goal.returns-in-Natural
returns-in-Natural c =
    let cell = cell_of_slot c.self.inside.text.items c.self.inside.slots.items c.args.self.now c.args.at c.index.result.now c.self.view_is c.requires c.index.ensures in
    rw (cell, c.in-Natural.is) refl

pub returns-in-Negative : goal.returns-in-Negative
returns-in-Negative c =
    let cell = cell_of_slot c.self.inside.text.items c.self.inside.slots.items c.args.self.now c.args.at c.index.result.now c.self.view_is c.requires c.index.ensures in
    rw (cell, c.in-Negative.is) refl
