use Rattle.std.proofs.Common.{arith}
use Rattle.wah_iter.proofs.PackLaws.{whole_group}
use Rattle.wah_iter.proofs.packing.group_of_rows.Goals as goal

pub returns-then-rows-base-clause-rows : goal.returns-then-rows-base-clause-rows
returns-then-rows-base-clause-rows c =
    whole_group c.args.base c.args.rows.now c.requires.rising c.requires.from c.if-rows-ge31.true c.if-rows-base.true
