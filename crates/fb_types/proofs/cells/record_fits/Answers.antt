use Rattle.std.proofs.Common.{◌<◌, ◌≤◌, length, arith, get_or, take, refl}
use Rattle.std.proofs.lemmas.List.{take_more, take_all}
use Rattle.fb_types.proofs.CellFacts.{length-RecordFits, RecordFits-push, CellFits-at}
use Rattle.fb_types.proofs.cells.record_fits.Goals as goal

pub returns-then-cells-columns : goal.returns-then-cells-columns
returns-then-cells-columns c =
    (λ h. cc, λ fits. absurd (c.if-cells-columns.true (length-RecordFits c.args.cells.now c.args.columns.now fits)))

pub returns-then-not-cell_fits : goal.returns-then-not-cell_fits
returns-then-not-cell_fits c =
    (λ h. cc, λ fits. c.if-not-cell_fits.ensures.1 (CellFits-at c.args.cells.now c.args.columns.now c.loop-at.at c.index-cells-at.result c.index-columns-at.result fits c.loop-at-test.true c.index-cells-at.is))

pub loop-at-preserved : goal.loop-at-preserved
loop-at-preserved c =
    let within : c.loop-at.at < length c.args.columns.now = omega arith in
    let one = c.if-not-cell_fits.ensures.0 refl in
    let more = RecordFits-push (take c.loop-at.at c.args.cells.now) (take c.loop-at.at c.args.columns.now) c.index-cells-at.result (get_or c.args.columns.now c.loop-at.at c.index-columns-at.result) c.loop-at.invariant one in
    rw (take_more c.args.cells.now c.loop-at.at c.index-cells-at.result c.loop-at-test.true, ← c.index-cells-at.is, take_more c.args.columns.now c.loop-at.at c.index-columns-at.result within) more

pub returns : goal.returns
returns c =
    let past : length c.args.columns.now ≤ c.loop-at.at = omega arith in
    let cells = take_all c.loop-at.at c.args.cells.now c.loop-at-test.false in
    let columns = take_all c.loop-at.at c.args.columns.now past in
    (λ h. rw (cells, columns) at c.loop-at.invariant, λ fits. refl)
