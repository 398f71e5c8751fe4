use Rattle.fb_types.proofs.SlotFacts.{IsStorable-at}
use Rattle.fb_types.proofs.slots.CellStore.extend.Goals as goal

pub push-requires : goal.push-requires
push-requires c =
    IsStorable-at c.args.cells.now c.loop-cell.cell-index c.cell-item.result c.requires c.loop-cell-test.true c.cell-item.is
