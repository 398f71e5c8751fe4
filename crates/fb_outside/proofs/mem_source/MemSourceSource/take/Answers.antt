use Rattle.std.proofs.Common.{◌≡◌, ◌+◌, ◌≤◌, length, take, drop, Some, sym, ap, ◌∙◌, arith}
use Rattle.std.proofs.lemmas.Grind.{common_steps}
use Rattle.fb_outside.proofs.MemoryLemmas.{takes_front}
use Rattle.fb_outside.proofs.mem_source.MemSourceSource.take.Goals as goal

-- what was left is what was moved and what is left now
pub returns-clause-taken : goal.returns-clause-taken
returns-clause-taken c =
    let bytes = c.self.inside.bytes.items in
    let at = c.self.inside.at in
    let n = c.min-n.result in
    let fits : at + n ≤ length bytes = grind (arith, common_steps) in
    let copied : c.copy_from_slice.new.self ≡ take n (drop at bytes) = grind (arith, common_steps) in
    ap (λ s. Some s.left) (sym c.self.view_is) ∙ ap Some (takes_front bytes c.args.buf.now c.copy_from_slice.new.self at n fits copied)
