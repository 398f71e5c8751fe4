use Rattle.std.proofs.Common.{◌-◌, ◌++◌, take, drop, length, subst, arith}
use Rattle.std.specs.Io.KnownBytes.{Appends}
use Rattle.std.proofs.lemmas.Grind.{common_steps}
use Rattle.fb_outside.proofs.KnownLemmas.{Appends-append, longer_front}
use Rattle.fb_outside.proofs.writing.write_all.Goals as goal

-- the front that was written before, and what was written now
pub loop-written-preserved : goal.loop-written-preserved
loop-written-preserved g c =
    let told = g.W.Write.contents in
    let bytes = c.args.bytes.now in
    let at = c.loop-written.written in
    let slice = take (length bytes - at) (drop at bytes) in
    let joined : Appends (told c.args.writer.now) (told c.write.new.self) (take at bytes ++ take c.in_ok-n.n slice) =
    Appends-append (told c.args.writer.now) (told c.loop-written.writer) (told c.write.new.self) (take at bytes) (take c.in_ok-n.n slice)
    c.loop-written.invariant.bytes c.in_ok-n.ensures.bytes in
    record {
      fits = grind (arith, common_steps);
      bytes = subst (Appends (told c.args.writer.now) (told c.write.new.self)) (longer_front bytes at c.in_ok-n.n) joined;
    }
