use Rattle.std.proofs.Common.{◌≡◌, ◌+◌, ◌≤◌, ◌++◌, ◌∷◌, [], false, length, arith, ap, sym, ◌∙◌}
use Rattle.wah_words.specs.Spelling.{words_of}
use Rattle.wah_words.specs.Bytes.{stored}
use Rattle.wah_words.proofs.StoredLemmas.{length-stored, stored_bit, values_bit, words_bit, values_group, words_group}
use Rattle.wah_words.proofs.builder.Builder.push_bit.Goals as goal

pub returns-then-whole-clause-values : goal.returns-then-whole-clause-values
returns-then-whole-clause-values c =
    let s = c.self.inside in
    let len : length c.args.self.now.values ≡ s.len = ap (λ b. length b.values) (sym c.self.view_is) ∙ length-stored s.len s.regular.items s.active c.self.invariant.0 in
    let within : s.len + 1 ≤ 4194304 = omega (arith, len, c.requires.limit) in
    let now : words_of c.args.self.now.values ≡ words_of (stored s.len s.regular.items s.active) = ap (λ b. words_of b.values) (sym c.self.view_is) in
    values_group s.len s.regular.items c.append_group.new.regular.items s.active c.args.bit c.self.invariant.0 c.if-whole.true c.append_group.ensures.appends ∙ ap (λ b. b.values ++ c.args.bit ∷ []) c.self.view_is

pub returns-then-whole-clause-words : goal.returns-then-whole-clause-words
returns-then-whole-clause-words c =
    let s = c.self.inside in
    let len : length c.args.self.now.values ≡ s.len = ap (λ b. length b.values) (sym c.self.view_is) ∙ length-stored s.len s.regular.items s.active c.self.invariant.0 in
    let within : s.len + 1 ≤ 4194304 = omega (arith, len, c.requires.limit) in
    let now : words_of c.args.self.now.values ≡ words_of (stored s.len s.regular.items s.active) = ap (λ b. words_of b.values) (sym c.self.view_is) in
    rw now (words_group s.len s.regular.items c.append_group.new.regular.items s.active c.args.bit c.self.invariant.0 c.if-whole.true c.append_group.ensures.appends within)

pub invariant_of-self-2 : goal.invariant_of-self-2
invariant_of-self-2 c =
    let s = c.self.inside in
    let len : length c.args.self.now.values ≡ s.len = ap (λ b. length b.values) (sym c.self.view_is) ∙ length-stored s.len s.regular.items s.active c.self.invariant.0 in
    let within : s.len + 1 ≤ 4194304 = omega (arith, len, c.requires.limit) in
    let now : words_of c.args.self.now.values ≡ words_of (stored s.len s.regular.items s.active) = ap (λ b. words_of b.values) (sym c.self.view_is) in
    (stored_bit s.len s.regular.items s.active c.args.bit c.self.invariant.0 c.if-whole.false within, c.self.invariant.1, λ t e. (let not_tail : s.tail ≡ false = ap (λ b. b.has_tail) c.self.view_is ∙ c.requires.«open» in cc))

pub returns-clause-values : goal.returns-clause-values
returns-clause-values c =
    let s = c.self.inside in
    let len : length c.args.self.now.values ≡ s.len = ap (λ b. length b.values) (sym c.self.view_is) ∙ length-stored s.len s.regular.items s.active c.self.invariant.0 in
    let within : s.len + 1 ≤ 4194304 = omega (arith, len, c.requires.limit) in
    let now : words_of c.args.self.now.values ≡ words_of (stored s.len s.regular.items s.active) = ap (λ b. words_of b.values) (sym c.self.view_is) in
    values_bit s.len s.regular.items s.active c.args.bit c.self.invariant.0 c.if-whole.false ∙ ap (λ b. b.values ++ c.args.bit ∷ []) c.self.view_is

pub returns-clause-words : goal.returns-clause-words
returns-clause-words c =
    let s = c.self.inside in
    let len : length c.args.self.now.values ≡ s.len = ap (λ b. length b.values) (sym c.self.view_is) ∙ length-stored s.len s.regular.items s.active c.self.invariant.0 in
    let within : s.len + 1 ≤ 4194304 = omega (arith, len, c.requires.limit) in
    let now : words_of c.args.self.now.values ≡ words_of (stored s.len s.regular.items s.active) = ap (λ b. words_of b.values) (sym c.self.view_is) in
    rw now (words_bit s.len s.regular.items s.active c.args.bit c.self.invariant.0 c.if-whole.false within)
