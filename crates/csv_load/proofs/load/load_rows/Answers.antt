-- A read takes the first of the records that are left, and its cells stand behind those so far.
use Rattle.std.proofs.Common.{add-one, ◌≡◌, ◌+◌, ◌∙◌, ap, arith, length, sym}
use Rattle.csv_load.specs.RowsLeft.{rows_left}
use Rattle.csv_load.proofs.LoadFacts.{fault-in, load-end, load-more, load-stops}
use Rattle.csv_load.proofs.load.load_rows.Goals as goal

pub loop-row-preserved : goal.loop-row-preserved
loop-row-preserved c =
    let left = rw c.if-branch.true at c.in_ok-next_row.ensures.row in
    let counted : length (rows_left c.loop-row.rdr) ≡ length (rows_left c.next_row.new.rdr) + 1 = ap length left ∙ sym (add-one _) in
    let pushed = c.in_ok-push-in-Ok.ensures.ok in
    let cells = c.in-Ok.ensures.cells in
    record {
      plain = c.in_ok-next_row.ensures.plain c.if-branch.true;
      schema = rw pushed c.loop-row.invariant.schema;
      split = rw pushed (load-more c.args.schema.now (c.loop-row.number + 1) c.loop-row.columns.records _ _ _ _ _ left (rw c.columns-in-loop-row.ensures.value at cells) c.loop-row.invariant.split);
      fits = λ h. let before = c.loop-row.invariant.fits (omega arith) in omega arith;
    }

pub returns-in-Err-clause-fault : goal.returns-in-Err-clause-fault
returns-in-Err-clause-fault c =
    let left = rw c.if-branch.true at c.in_ok-next_row.ensures.row in
    rw c.in_record.ensures
    (fault-in _ (c.loop-row.number + 1) _ _
    (λ why e. load-stops c.args.schema.now (c.loop-row.number + 1) c.loop-row.columns.records _ _ _ why _ left c.loop-row.invariant.split e)
    (rw c.columns-in-loop-row.ensures.value at c.in-Err.ensures.fault))

pub returns-clause-records : goal.returns-clause-records
returns-clause-records c =
    load-end c.args.schema.now (c.loop-row.number + 1) c.loop-row.columns.records _ _ (rw c.if-branch.false at c.in_ok-next_row.ensures.row) c.loop-row.invariant.split
