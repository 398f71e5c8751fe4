use Rattle.std.proofs.Common.{◌≡◌, ◌+◌, ◌%◌, ◌≤◌, ◌++◌, length, arith, ap, sym, ◌∙◌}
use Rattle.wah_words.specs.Spelling.{words_of}
use Rattle.wah_words.specs.Bytes.{stored}
use Rattle.wah_words.specs.Places.{places}
use Rattle.wah_words.proofs.StoredLemmas.{length-stored, stored_tail, values_tail, words_tail}
use Rattle.wah_words.proofs.builder.Builder.push_tail.Goals as goal

pub invariant_of-self : goal.invariant_of-self
invariant_of-self c =
    let s = c.self.inside in
    let len : length c.args.self.now.values ≡ s.len = ap (λ b. length b.values) (sym c.self.view_is) ∙ length-stored s.len s.regular.items s.active c.self.invariant.0 in
    let aligned : s.len % 31 ≡ 0 = omega (arith, len, c.requires.aligned) in
    let within : s.len + c.args.count ≤ 4194304 = omega (arith, len, c.requires.limit) in
    (stored_tail s.len s.regular.items s.active c.args.bits c.args.count c.self.invariant.0 aligned c.requires.some c.requires.few c.requires.fits within, c.self.invariant.1, λ t e. omega (arith, aligned, c.requires.some, c.requires.few, e))

pub returns-clause-values : goal.returns-clause-values
returns-clause-values c =
    let s = c.self.inside in
    let len : length c.args.self.now.values ≡ s.len = ap (λ b. length b.values) (sym c.self.view_is) ∙ length-stored s.len s.regular.items s.active c.self.invariant.0 in
    let aligned : s.len % 31 ≡ 0 = omega (arith, len, c.requires.aligned) in
    let within : s.len + c.args.count ≤ 4194304 = omega (arith, len, c.requires.limit) in
    values_tail s.len s.regular.items s.active c.args.bits c.args.count aligned c.requires.few ∙ ap (λ b. b.values ++ places c.args.count c.args.bits) c.self.view_is

pub returns-clause-words : goal.returns-clause-words
returns-clause-words c =
    let s = c.self.inside in
    let len : length c.args.self.now.values ≡ s.len = ap (λ b. length b.values) (sym c.self.view_is) ∙ length-stored s.len s.regular.items s.active c.self.invariant.0 in
    let aligned : s.len % 31 ≡ 0 = omega (arith, len, c.requires.aligned) in
    let within : s.len + c.args.count ≤ 4194304 = omega (arith, len, c.requires.limit) in
    let now : words_of c.args.self.now.values ≡ words_of (stored s.len s.regular.items s.active) = ap (λ b. words_of b.values) (sym c.self.view_is) in
    rw now (words_tail s.len s.regular.items s.active c.args.bits c.args.count c.self.invariant.0 aligned c.requires.some c.requires.few c.requires.fits within)
