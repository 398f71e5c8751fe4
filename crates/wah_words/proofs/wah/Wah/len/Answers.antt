use Rattle.std.proofs.Common.{◌≡◌, length, arith, ap, sym, ◌∙◌}
use Rattle.wah_words.proofs.StoredLemmas.{length-stored}
use Rattle.wah_words.proofs.wah.Wah.len.Goals as goal

pub returns-clause-length : goal.returns-clause-length
returns-clause-length c =
    let s = c.self.inside in
    let len : length c.args.self.now ≡ s.len = ap length (sym c.self.view_is) ∙ length-stored s.len s.regular.items s.active c.self.invariant in
    sym len

pub returns-clause-limit : goal.returns-clause-limit
returns-clause-limit c =
    let s = c.self.inside in
    let len : length c.args.self.now ≡ s.len = ap length (sym c.self.view_is) ∙ length-stored s.len s.regular.items s.active c.self.invariant in
    omega (arith, len, c.self.invariant.within)
