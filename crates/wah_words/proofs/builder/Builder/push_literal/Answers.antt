use Rattle.std.proofs.Common.{◌≡◌, ◌+◌, ◌%◌, ◌≤◌, ◌++◌, length, arith, ap, sym, ◌∙◌}
use Rattle.wah_words.specs.Spelling.{words_of}
use Rattle.wah_words.specs.Bytes.{stored}
use Rattle.wah_words.specs.Places.{places}
use Rattle.wah_words.proofs.StoredLemmas.{length-stored, not_tail, stored_append, values_append, words_append}
use Rattle.wah_words.proofs.builder.Builder.push_literal.Goals as goal

pub invariant_of-self : goal.invariant_of-self
invariant_of-self c =
    let s = c.self.inside in
    let len : length c.args.self.now.values ≡ s.len = ap (λ b. length b.values) (sym c.self.view_is) ∙ length-stored s.len s.regular.items s.active c.self.invariant.0 in
    let aligned : s.len % 31 ≡ 0 = omega (arith, len, c.requires.aligned) in
    let fits : s.len + 31 ≤ 4194304 = omega (arith, len, c.requires.limit) in
    let new = c.append_group.new.regular.items in
    (stored_append s.len s.regular.items new s.active (places 31 c.args.word) 1 c.self.invariant.0 aligned c.append_group.ensures.appends fits, rw c.append_group.ensures.capacity c.self.invariant.1, λ t e. c.self.invariant.2 t aligned)

pub returns-clause-values : goal.returns-clause-values
returns-clause-values c =
    let s = c.self.inside in
    let len : length c.args.self.now.values ≡ s.len = ap (λ b. length b.values) (sym c.self.view_is) ∙ length-stored s.len s.regular.items s.active c.self.invariant.0 in
    let aligned : s.len % 31 ≡ 0 = omega (arith, len, c.requires.aligned) in
    let fits : s.len + 31 ≤ 4194304 = omega (arith, len, c.requires.limit) in
    let new = c.append_group.new.regular.items in
    values_append s.len s.regular.items new s.active (places 31 c.args.word) 1 aligned c.append_group.ensures.appends ∙ ap (λ b. b.values ++ (places 31 c.args.word)) c.self.view_is

pub returns-clause-open : goal.returns-clause-open
returns-clause-open c =
    let s = c.self.inside in
    let len : length c.args.self.now.values ≡ s.len = ap (λ b. length b.values) (sym c.self.view_is) ∙ length-stored s.len s.regular.items s.active c.self.invariant.0 in
    let aligned : s.len % 31 ≡ 0 = omega (arith, len, c.requires.aligned) in
    let fits : s.len + 31 ≤ 4194304 = omega (arith, len, c.requires.limit) in
    let new = c.append_group.new.regular.items in
    not_tail s.tail s.len c.self.invariant.2 aligned

pub returns-clause-words : goal.returns-clause-words
returns-clause-words c =
    let s = c.self.inside in
    let len : length c.args.self.now.values ≡ s.len = ap (λ b. length b.values) (sym c.self.view_is) ∙ length-stored s.len s.regular.items s.active c.self.invariant.0 in
    let aligned : s.len % 31 ≡ 0 = omega (arith, len, c.requires.aligned) in
    let fits : s.len + 31 ≤ 4194304 = omega (arith, len, c.requires.limit) in
    let new = c.append_group.new.regular.items in
    let now : words_of c.args.self.now.values ≡ words_of (stored s.len s.regular.items s.active) = ap (λ b. words_of b.values) (sym c.self.view_is) in
    rw now (words_append s.len s.regular.items new s.active (places 31 c.args.word) 1 c.self.invariant.0 aligned c.append_group.ensures.appends fits)
