use Rattle.std.proofs.Common.{refl, arith}
use Rattle.enc_two_level.proofs.NumbersLemmas.{first_below}
use Rattle.enc_two_level.proofs.GroupsLemmas.{no_groups, one_more}
use Rattle.enc_two_level.proofs.groups.grouped.Goals as goal

pub loop-t-init : goal.loop-t-init
loop-t-init g c = no_groups c.args.rows c.args.size c.args.bins.now c.in_ok-groups.groups.items c.in_ok-groups.ensures.items

pub loop-t-preserved : goal.loop-t-preserved
loop-t-preserved g c = rw c.in_ok-push.ensures.items (one_more c.args.rows c.args.size c.loop-t.t c.args.bins.now c.loop-t.groups.items c.in_ok-group.group _ c.group_end-end.result c.loop-t.invariant c.requires.some c.requires.long refl c.group_end-end.ensures.value c.in_ok-group.ensures)
