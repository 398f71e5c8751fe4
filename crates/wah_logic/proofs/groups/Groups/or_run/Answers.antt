use Rattle.std.proofs.Common.{sym, ◌∙◌}
use Rattle.wah_logic.proofs.GroupLemmas.{zeros_run}
use Rattle.wah_logic.proofs.groups.Groups.or_run.Goals as goal

pub returns-in-Fill-false-default-clause-values : goal.returns-in-Fill-false-default-clause-values
returns-in-Fill-false-default-clause-values c =
    let w = c.in-Fill-false-default in
    zeros_run c.args.run w.bit w.groups c.args.group c.args.self.now w.is (sym w.bit-is ∙ w.bit-test) c.requires.stands
