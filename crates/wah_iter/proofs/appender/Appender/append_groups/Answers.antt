use Rattle.std.proofs.Common.{◌≡◌, ◌+◌, ◌*◌, ◌/◌, ◌%◌, ◌++◌, replicate, ap, ◌∙◌, arith}
use Rattle.wah_words.specs.Places.{places}
use Rattle.wah_iter.proofs.AppendLaws.{fill_after, aligned_part}
use Rattle.wah_iter.proofs.appender.Appender.append_groups.Goals.{then-groups-gt0, else-groups-gt0}
use Rattle.wah_iter.proofs.appender.Appender.append_groups.Goals as goal

pub returns-clause-values : goal.returns-clause-values
returns-clause-values c =
    let s = c.self.inside in
    let n = c.args.count in
    let b = c.args.bit in
    let old = c.args.self.now.values in
    let view = ap (λ a. a.values) c.self.view_is in
    let same : s.out.values ≡ old = aligned_part s.out.values s.count s.part old view c.self.invariant.0 c.self.invariant.1 c.requires.aligned in
    let sum : 31 * (n / 31) + n % 31 ≡ n = omega arith in
    elim c.if-groups-gt0.branch [
      | then-groups-gt0 w ↦ fill_after s.out.values c.if-groups-gt0.self-inside.out.values b (31 * (n / 31)) n (n % 31) c.same_bits-self-inside.result old same (ap (λ a. a.out.values) w.self-inside-is ∙ w.push_fill.ensures.values) c.same_bits-self-inside.ensures.values sum
      | else-groups-gt0 w ↦
          let few : n % 31 ≡ n = omega (arith, w.if-groups-gt0.false) in
          ap (λ a. a.out.values ++ places (n % 31) c.same_bits-self-inside.result) w.self-inside-is ∙ ap (λ v. v ++ places (n % 31) c.same_bits-self-inside.result) same ∙ ap (λ v. old ++ v) (c.same_bits-self-inside.ensures.values ∙ ap (λ k. replicate k b) few)
    ]
