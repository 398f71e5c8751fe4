use Rattle.std.proofs.Common.{◌≡◌, ◌+◌, ◌-◌, ◌++◌, replicate, length, ap, ◌∙◌, arith, length-append}
use Rattle.std.proofs.lemmas.List.{length-replicate}
use Rattle.wah_iter.proofs.AppendLaws.{length_parts, fills_after}
use Rattle.wah_iter.proofs.appender.Appender.append_fill.Goals.{then-count-free, else-count-free}
use Rattle.wah_iter.proofs.appender.Appender.append_fill.Goals as goal

pub append_groups-requires-clause-aligned : goal.append_groups-requires-clause-aligned
append_groups-requires-clause-aligned c =
    let s = c.self.inside in
    let f = c.if-count-free.front in
    let old = c.args.self.now.values in
    let len = length_parts s.out.values s.count s.part old (ap (λ a. a.values) c.self.view_is) in
    let first : c.append_bits.new.self.values ≡ old ++ replicate f c.args.bit = c.append_bits.ensures.values ∙ ap (λ v. old ++ v) c.same_bits.ensures.values in
    let new : length c.append_bits.new.self.values ≡ length old + f = ap length first ∙ length-append old (replicate f c.args.bit) ∙ ap (λ n. length old + n) (length-replicate f c.args.bit) in
    elim c.if-count-free.branch [
      | then-count-free w ↦ absurd (omega (arith, w.front-is, c.if-front-count.true))
      | else-count-free w ↦ omega (arith, new, len, w.front-is, c.self.invariant.0, c.self.invariant.1)
    ]

pub returns-then-front-count-clause-values : goal.returns-then-front-count-clause-values
returns-then-front-count-clause-values c =
    let f = c.if-count-free.front in
    let old = c.args.self.now.values in
    let first : c.append_bits.new.self.values ≡ old ++ replicate f c.args.bit = c.append_bits.ensures.values ∙ ap (λ v. old ++ v) c.same_bits.ensures.values in
    fills_after old c.append_bits.new.self.values c.append_groups.new.self.values c.args.bit f (c.args.count - f) c.args.count first c.append_groups.ensures.values (omega (arith, c.if-front-count.true))
