use Rattle.enc_two_level.proofs.GroupsLemmas.{AreGroups}
use Rattle.enc_two_level.proofs.groups.grouped.Given as goal

abbrev pub invariant-loop-t : goal.invariant-loop-t
invariant-loop-t g l = AreGroups l.rows l.size l.bins l.t l.groups.items
