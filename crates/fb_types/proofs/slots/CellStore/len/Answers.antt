use Rattle.std.proofs.Common.{arith}
use Rattle.fb_types.proofs.SlotFacts.{length-cells_in}
use Rattle.fb_types.proofs.slots.CellStore.len.Goals as goal

pub returns-clause-value : goal.returns-clause-value
returns-clause-value c =
    rw (← c.self.view_is) (omega (arith, length-cells_in c.self.inside.text.items c.self.inside.slots.items))

pub returns-clause-few : goal.returns-clause-few
returns-clause-few c =
    rw (← c.self.view_is) (omega (arith, length-cells_in c.self.inside.text.items c.self.inside.slots.items))
