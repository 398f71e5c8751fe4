use Rattle.std.proofs.Common.{arith}
use Rattle.select_group.proofs.GroupLemmas.{all_fit_more}
use Rattle.select_group.proofs.grouper.Grouper.finish.Goals as goal

pub group_rows-requires : goal.group_rows-requires
group_rows-requires c = record { fits = all_fit_more c.self.inside.pick.items c.as_slice.result.now c.self.inside.added 4294967296 c.self.inside.groups.entries (cc) (omega (arith, c.self.invariant)) c.self.invariant.0 }
