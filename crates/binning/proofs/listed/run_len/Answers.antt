use Rattle.std.proofs.Common.{◌≡◌, ◌+◌, ◌<◌, ◌≤◌, ◌∙◌, sym, ap, false, length, get_or, drop, pos, arith, rules}
use Rattle.std.specs.Int.{w128}
use Rattle.std.specs.Ordering.{int_eq}
use Rattle.std.proofs.lemmas.Int.{to_z-of_z}
use Rattle.std.proofs.lemmas.List.{drop_all}
use mir.Val.{SFits, to_z, of_z}
use Rattle.binning.specs.Listed.{run_length, run_of_first}
use Rattle.binning.specs.declared.listed.RowValue.{RowValue}
use Rattle.binning.proofs.KeyLemmas.{eq_true, eq_false}
use Rattle.binning.proofs.ListedLemmas.{run_first, run_more, run_past}
use Rattle.binning.proofs.listed.run_len.Goals as goal

pub loop-run-init : goal.loop-run-init
loop-run-init c =
    let d : RowValue = record { value = pos 0; row = 0 } in
    let ps = c.args.pairs.now in
    let fits : SFits w128 (get_or ps 0 d).value = search rules in
    let some : 0 < length ps = c.requires in
    record { within = omega (arith, some); run = rw (to_z-of_z w128 (get_or ps 0 d).value fits) (run_first ps d some) }

pub loop-run-preserved : goal.loop-run-preserved
loop-run-preserved c =
    let d : RowValue = record { value = pos 0; row = 0 } in
    let ps = c.args.pairs.now in
    let i = c.loop-run.run in
    let k = (get_or ps 0 d).value in
    let x = (get_or ps i d).value in
    let within : i < length ps = c.loop-run-test.true in
    let fits : SFits w128 k = search rules in
    let fits_x : SFits w128 x = search rules in
    let told : run_of_first ps ≡ i + run_length k (drop i ps) = rw (to_z-of_z w128 k fits) at c.loop-run.invariant.run in
    let same : x ≡ k = sym (to_z-of_z w128 x fits_x) ∙ ap (to_z w128) c.if-pairs-run.true ∙ to_z-of_z w128 k fits in
    let more = run_more ps i d k within (eq_true x k same) in
    record { within = omega (arith, within); run = rw (to_z-of_z w128 k fits) (omega (arith, told, more)) }

pub returns-else-pairs-run : goal.returns-else-pairs-run
returns-else-pairs-run c =
    let d : RowValue = record { value = pos 0; row = 0 } in
    let ps = c.args.pairs.now in
    let i = c.loop-run.run in
    let k = (get_or ps 0 d).value in
    let x = (get_or ps i d).value in
    let within : i < length ps = c.loop-run-test.true in
    let fits : SFits w128 k = search rules in
    let told : run_of_first ps ≡ i + run_length k (drop i ps) = rw (to_z-of_z w128 k fits) at c.loop-run.invariant.run in
    let other : int_eq x k ≡ false = eq_false x k (λ e. c.if-pairs-run.false (ap (of_z w128) e)) in
    let past = run_past ps i d k within other in
    omega (arith, told, past)

pub returns-after-loop-run : goal.returns-after-loop-run
returns-after-loop-run c =
    let d : RowValue = record { value = pos 0; row = 0 } in
    let ps = c.args.pairs.now in
    let i = c.loop-run.run in
    let k = (get_or ps 0 d).value in
    let fits : SFits w128 k = search rules in
    let told : run_of_first ps ≡ i + run_length k (drop i ps) = rw (to_z-of_z w128 k fits) at c.loop-run.invariant.run in
    let past : length ps ≤ i = omega arith in
    let none : run_length k (drop i ps) ≡ 0 = ap (run_length k) (drop_all i ps past) in
    omega (arith, told, none)
