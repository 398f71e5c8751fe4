use Rattle.fb_types.proofs.SlotFacts.{AllInText-take, cells_in-take}
use Rattle.fb_types.proofs.slots.CellStore.truncate.Goals as goal

pub invariant_of-self : goal.invariant_of-self
invariant_of-self c =
    rw c.truncate.ensures.items (AllInText-take c.self.inside.text.items c.args.len c.self.inside.slots.items c.self.invariant)

pub returns : goal.returns
returns c =
    rw (← c.self.view_is, c.truncate.ensures.items) (cells_in-take c.self.inside.text.items c.args.len c.self.inside.slots.items)
