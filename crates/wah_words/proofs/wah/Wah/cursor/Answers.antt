use Rattle.std.proofs.Common.{◌≡◌, length, arith, ap, sym, ◌∙◌, refl}
use Rattle.wah_words.specs.Spelling.{words_of}
use Rattle.wah_words.specs.Bytes.{stored}
use Rattle.wah_words.proofs.StoredLemmas.{length-stored, words_of-stored}
use Rattle.wah_words.proofs.wah.Wah.cursor.Goals as goal

pub returns-clause-words : goal.returns-clause-words
returns-clause-words c =
    let s = c.self.inside in
    let words : words_of c.args.self.now ≡ words_of (stored s.len s.regular.items s.active) = ap words_of (sym c.self.view_is) in
    rw (words, words_of-stored s.len s.regular.items s.active c.self.invariant, c.deref.ensures.value) refl

pub returns-clause-limit : goal.returns-clause-limit
returns-clause-limit c =
    let s = c.self.inside in
    let len : length c.args.self.now ≡ s.len = ap length (sym c.self.view_is) ∙ length-stored s.len s.regular.items s.active c.self.invariant in
    omega (arith, len, c.self.invariant.within)
