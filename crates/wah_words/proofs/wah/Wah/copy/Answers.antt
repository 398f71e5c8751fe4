use Rattle.std.proofs.Common.{◌≡◌, length, ap, sym, arith}
use Rattle.wah_words.specs.Spelling.{words_of}
use Rattle.wah_words.specs.Bytes.{stored}
use Rattle.wah_words.proofs.StoredLemmas.{words_of-stored}
use Rattle.wah_words.proofs.wah.Wah.copy.Goals as goal

pub returns-clause-steps : goal.returns-clause-steps
returns-clause-steps g c =
    let s = c.self.inside in
    let words : words_of c.args.self.now ≡ words_of (stored s.len s.regular.items s.active) = ap words_of (sym c.self.view_is) in
    let same : length c.deref.result.now ≡ length s.regular.items = ap length c.deref.ensures.value in
    rw words (omega (arith, words_of-stored s.len s.regular.items s.active c.self.invariant, c.look_at_active.ensures, c.in_ok-regular.ensures.steps, same))
