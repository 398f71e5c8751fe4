use Rattle.std.proofs.Common.{◌≡◌, length, arith, ap, sym, ◌∙◌}
use Rattle.wah_words.proofs.StoredLemmas.{length-stored, not_tail}
use Rattle.wah_words.proofs.builder.Builder.len.Goals as goal

pub returns-clause-length : goal.returns-clause-length
returns-clause-length c =
    let s = c.self.inside in
    sym (ap (λ b. length b.values) (sym c.self.view_is) ∙ length-stored s.len s.regular.items s.active c.self.invariant.0)

pub returns-clause-limit : goal.returns-clause-limit
returns-clause-limit c =
    let s = c.self.inside in
    let len : length c.args.self.now.values ≡ s.len = ap (λ b. length b.values) (sym c.self.view_is) ∙ length-stored s.len s.regular.items s.active c.self.invariant.0 in
    omega (arith, len, c.self.invariant.0.within)

pub returns-clause-open : goal.returns-clause-open
returns-clause-open c = λ aligned.
    let s = c.self.inside in
    let len : length c.args.self.now.values ≡ s.len = ap (λ b. length b.values) (sym c.self.view_is) ∙ length-stored s.len s.regular.items s.active c.self.invariant.0 in
    ap (λ b. b.has_tail) (sym c.self.view_is) ∙ not_tail s.tail s.len c.self.invariant.2 (omega (arith, len, aligned))
