use Rattle.std.proofs.Common.{◌≡◌, ◌%◌, length, arith, ap, sym, ◌∙◌}
use Rattle.std.proofs.lemmas.Bool.{ne_eqb}
use Rattle.wah_words.specs.Spelling.{words_of}
use Rattle.wah_words.specs.Bytes.{stored}
use Rattle.wah_words.proofs.StoredLemmas.{length-stored, words_of-stored, items_few}
use Rattle.wah_words.proofs.wah.Wah.words.Goals as goal

pub overflow_cast-regular : goal.overflow_cast-regular
overflow_cast-regular c =
    let s = c.self.inside in
    let few = items_few s.len s.regular.items s.active c.self.invariant in
    omega (arith, few, c.self.invariant.within, s.regular.ok.0)

pub overflow_add-result : goal.overflow_add-result
overflow_add-result c =
    let s = c.self.inside in
    let few = items_few s.len s.regular.items s.active c.self.invariant in
    omega (arith, few, c.self.invariant.within, s.regular.ok.0)

pub returns-then-self-eq0-clause-words : goal.returns-then-self-eq0-clause-words
returns-then-self-eq0-clause-words c =
    let s = c.self.inside in
    let words : words_of c.args.self.now ≡ words_of (stored s.len s.regular.items s.active) = ap words_of (sym c.self.view_is) in
    rw (words, words_of-stored s.len s.regular.items s.active c.self.invariant, c.if-self-eq0.true) (omega (arith, s.regular.ok.0))

pub returns-then-self-eq0-clause-limit : goal.returns-then-self-eq0-clause-limit
returns-then-self-eq0-clause-limit c =
    let s = c.self.inside in
    let len : length c.args.self.now ≡ s.len = ap length (sym c.self.view_is) ∙ length-stored s.len s.regular.items s.active c.self.invariant in
    omega (arith, len, c.self.invariant.within)

pub returns-else-self-eq0-clause-words : goal.returns-else-self-eq0-clause-words
returns-else-self-eq0-clause-words c =
    let s = c.self.inside in
    let words : words_of c.args.self.now ≡ words_of (stored s.len s.regular.items s.active) = ap words_of (sym c.self.view_is) in
    rw (words, words_of-stored s.len s.regular.items s.active c.self.invariant, ne_eqb (s.len % 31) 0 c.if-self-eq0.false) (omega (arith, s.regular.ok.0))

pub returns-else-self-eq0-clause-limit : goal.returns-else-self-eq0-clause-limit
returns-else-self-eq0-clause-limit c =
    let s = c.self.inside in
    let len : length c.args.self.now ≡ s.len = ap length (sym c.self.view_is) ∙ length-stored s.len s.regular.items s.active c.self.invariant in
    omega (arith, len, c.self.invariant.within)
