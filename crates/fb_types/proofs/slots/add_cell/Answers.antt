use Rattle.std.proofs.lemmas.Int.{to_z-of_z}
use mir.Val.{SFits}
use mir.Syntax.{w128}
use Rattle.fb_types.specs.Slots.{IsStorable}
use Rattle.fb_types.specs.declared.cells.Cell.TheVariants.{Whole}
use Rattle.fb_types.proofs.SlotFacts.{SFits-storable}
use Rattle.fb_types.proofs.slots.add_cell.Goals as goal

pub returns-in-Whole-clause-ok : goal.returns-in-Whole-clause-ok
returns-in-Whole-clause-ok c =
    let storable : IsStorable (Whole c.in-Whole.number) = rw c.in-Whole.is at c.requires in
    let fits : SFits w128 c.in-Whole.number = SFits-storable c.in-Whole.number storable in
    rw c.in-Whole.is (rw (to_z-of_z w128 c.in-Whole.number fits) at (c.whole_slot.ensures c.args.text.now.items))
