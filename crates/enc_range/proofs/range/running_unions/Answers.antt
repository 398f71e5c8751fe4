use Rattle.std.proofs.Common.{length, arith}
use Rattle.enc_range.proofs.RunningLemmas.{one_more, Follows, follows_from}
use Rattle.enc_range.proofs.range.running_unions.Goals as goal

pub loop-bin-preserved : goal.loop-bin-preserved
loop-bin-preserved g c =
    let follows : Follows c.loop-bin.unions.items c.bin-item.result c.in_ok-next.next = rw (← c.deref.ensures.value) (follows_from _ _ _ c.in_ok-next.ensures.first c.in_ok-next.ensures.more) in
    rw c.in_ok-push.ensures.items (one_more c.args.rows c.args.bins.now c.loop-bin.bin-index c.saturating_sub-count.result c.loop-bin.unions.items c.bin-item.result c.in_ok-next.next c.loop-bin.invariant c.loop-bin-test.true (omega arith) c.bin-item.is c.requires c.in_ok-next.ensures.length follows)
