use Rattle.std.proofs.Common.{◌≡◌, ◌-◌, ◌+◌, length, arith, sym, ◌∙◌}
use Rattle.binning.specs.declared.against_bins.Three.TheVariants.{No}
use Rattle.bin_answers.proofs.RunLemmas.{bin_first, bin_next, bin_on, same_test}
use Rattle.bin_answers.proofs.bin_runs.extend.Goals as goal
use Rattle.bin_answers.proofs.bin_runs.extend.Goals.{then-count-gt0+else-last-bin, else-last-bin-via-then-last-bin+else-eq-2, else-last-bin-via-else-last-bin, else-count-gt0}

pub returns-then-eq-2 : goal.returns-then-eq-2
returns-then-eq-2 c =
    let some = sym (same_test c.args.answer No) ∙ sym c.eq.ensures ∙ c.if-eq.false in
    let count : c.len-count.result ≡ length c.args.runs.now.items = omega (arith, c.len-count.ensures, c.args.runs.now.ok.0) in
    let last : c.len-count.result - 1 + 1 ≡ length c.args.runs.now.items = omega (arith, count, c.if-count-gt0.true) in
    bin_on c.args.runs.now.items (c.len-count.result - 1) c.args.bin c.args.answer c.index.result.now c.index_mut.result.now last c.index.ensures c.index_mut.ensures.value some
    c.if-last-bin.true (sym (same_test c.index.result.now.answer c.args.answer) ∙ sym c.eq-then-last-bin.ensures ∙ c.if-eq-2.true)

pub returns : goal.returns
returns c =
    let some = sym (same_test c.args.answer No) ∙ sym c.eq.ensures ∙ c.if-eq.false in
    let count : c.len-count.result ≡ length c.args.runs.now.items = omega (arith, c.len-count.ensures, c.args.runs.now.ok.0) in
    c.in_ok-push.ensures.items ∙ elim c.if-count-gt0.branch [
      | then-count-gt0+else-last-bin w ↦
          (let last : c.len-count.result - 1 + 1 ≡ length c.args.runs.now.items = omega (arith, count, w.if-count-gt0.true) in
          elim w.else-last-bin.branch [
            | else-last-bin-via-then-last-bin+else-eq-2 w' ↦
                bin_next c.args.runs.now.items (c.len-count.result - 1) c.args.bin c.args.answer w.index.result.now last w.index.ensures some
                (λ e. sym (same_test w.index.result.now.answer c.args.answer) ∙ sym w'.eq-then-last-bin.ensures ∙ w'.if-eq-2.false)
            | else-last-bin-via-else-last-bin w' ↦
                bin_next c.args.runs.now.items (c.len-count.result - 1) c.args.bin c.args.answer w.index.result.now last w.index.ensures some (λ e. absurd (w'.if-last-bin.false e))
          ])
      | else-count-gt0 w ↦ bin_first c.args.runs.now.items c.args.bin c.args.answer (omega (arith, count, w.if-count-gt0.false)) some
    ]
