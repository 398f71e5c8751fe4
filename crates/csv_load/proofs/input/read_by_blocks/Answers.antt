-- After a turn, what came before it and what it gave were taken.
use Rattle.std.proofs.Common.{◌≡◌, ◌++◌, ◌+◌, arith, length, length-append, refl, take}
use Rattle.std.proofs.lemmas.List.{length-take}
use Rattle.fb_outside.proofs.StreamLemmas.{Takes-append}
use Rattle.csv_load.proofs.input.read_by_blocks.Goals as goal

pub returns-then-count-limit-clause-fault : goal.returns-then-count-limit-clause-fault
returns-then-count-limit-clause-fault g c =
    let all = c.loop-count.all.items in
    let piece = take c.in-Ok.count c.take.new.buf in
    let counted : length (all ++ piece) ≡ length all + c.in-Ok.count =
    omega (arith, length-append all piece, length-take c.in-Ok.count c.take.new.buf, c.in-Ok.ensures.count) in
    let held = c.loop-count.all.ok.0 in
    let kept = c.take.auto.buf in
    let held_block = c.loop-count.auto.block in (
      refl,
      record {
        came = all ++ piece;
        taken = Takes-append _ _ _ all piece c.loop-count.invariant.taken c.in-Ok.ensures.taken;
        count = (omega arith, omega (arith, c.loop-count.invariant.within, c.in-Ok.ensures.count));
      },
    )

pub returns-then-is_err-clause-fault : goal.returns-then-is_err-clause-fault
returns-then-is_err-clause-fault g c =
    let all = c.loop-count.all.items in
    let piece = take c.in-Ok.count c.take.new.buf in
    let counted : length (all ++ piece) ≡ length all + c.in-Ok.count =
    omega (arith, length-append all piece, length-take c.in-Ok.count c.take.new.buf, c.in-Ok.ensures.count) in
    let held = c.loop-count.all.ok.0 in
    record {
      came = all ++ piece;
      taken = Takes-append _ _ _ all piece c.loop-count.invariant.taken c.in-Ok.ensures.taken;
      count = omega (arith, c.loop-count.invariant.within);
    }
