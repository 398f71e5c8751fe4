use Rattle.std.proofs.Common.{◌*◌, ◌/◌, ◌-◌, take, get_or, arith}
use Rattle.wah_iter.proofs.PackLaws.{group_more}
use Rattle.wah_iter.proofs.packing.push_group.Goals as goal

pub returns-clause-rows : goal.returns-clause-rows
returns-clause-rows c =
    let group = get_or c.args.rows.now 0 0 / 31 in
    (group_more c.args.out.now.values c.push_zeros.new.out.values c.push_literal.new.self.values (31 * (group - c.len.result / 31)) 31 (31 * group) c.group_of_rows-word.result.0 (take c.group_of_rows-word.result.1 c.args.rows.now) c.push_zeros.ensures.values c.push_literal.ensures.values (omega (arith, c.len.ensures.length, c.requires.from, c.requires.aligned)) c.group_of_rows-word.ensures.rows).1

pub returns-clause-length : goal.returns-clause-length
returns-clause-length c =
    let group = get_or c.args.rows.now 0 0 / 31 in
    (group_more c.args.out.now.values c.push_zeros.new.out.values c.push_literal.new.self.values (31 * (group - c.len.result / 31)) 31 (31 * group) c.group_of_rows-word.result.0 (take c.group_of_rows-word.result.1 c.args.rows.now) c.push_zeros.ensures.values c.push_literal.ensures.values (omega (arith, c.len.ensures.length, c.requires.from, c.requires.aligned)) c.group_of_rows-word.ensures.rows).0

pub returns-clause-past : goal.returns-clause-past
returns-clause-past c = λ h. omega (arith, c.group_of_rows-word.ensures.past h, returns-clause-length c)
