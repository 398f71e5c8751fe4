-- A read takes the first of the records that are left.
use Rattle.std.proofs.Common.{◌∙◌, arith}
use Rattle.csv_load.proofs.LoadFacts.{drop-next, drop-none}
use Rattle.csv_load.proofs.rows.skip_rows.Goals as goal

pub returns-then-not-branch-clause-rows : goal.returns-then-not-branch-clause-rows
returns-then-not-branch-clause-rows c =
    drop-none _ c.loop.counter c.args.count (c.loop.invariant.rows ∙ rw c.if-not-branch.true at c.in_ok-next_row.ensures.row) (omega arith)

pub loop-preserved : goal.loop-preserved
loop-preserved c = record {
  plain = c.in_ok-next_row.ensures.plain c.if-not-branch.false;
  rows = drop-next _ c.loop.counter _ _ (c.loop.invariant.rows ∙ rw c.if-not-branch.false at c.in_ok-next_row.ensures.row);
}
