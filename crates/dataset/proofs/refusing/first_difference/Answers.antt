use Rattle.std.proofs.Common.{◌≡◌, ◌≢◌, ℕ, length, drop, sym, subst, ◌∙◌, arith}
use Rattle.dataset.specs.Appended.{first_difference}
use Rattle.dataset.proofs.RefusalLemmas.{from_place, from_top, same_at, differs_at, more_columns, same_within}
use Rattle.dataset.proofs.refusing.first_difference.Goals as goal

pub loop-col-init : goal.loop-col-init
loop-col-init c = record { so_far = sym (from_top (first_difference c.args.ours.now c.args.given.now)); within = omega arith }

pub loop-col-preserved : goal.loop-col-preserved
loop-col-preserved c =
    let same = sym c.is_at.ensures ∙ c.if-not-is_at.false in
    let there = same_within c.args.given.now c.loop-col.col c.index-ours-col.result same in
    record {
      so_far = same_at c.args.ours.now c.args.given.now c.loop-col.col c.index-ours-col.result c.loop-col-test.true c.index-ours-col.is same c.loop-col.invariant.so_far;
      within = omega (arith, there);
    }

pub returns-then-not-is_at : goal.returns-then-not-is_at
returns-then-not-is_at c =
    sym (differs_at c.args.ours.now c.args.given.now c.loop-col.col c.index-ours-col.result c.loop-col-test.true c.index-ours-col.is
    (sym c.is_at.ensures ∙ c.if-not-is_at.true) c.loop-col.invariant.so_far)

pub returns-else-ours-given : goal.returns-else-ours-given
returns-else-ours-given c =
    let xs = c.args.ours.now in
    let ys = c.args.given.now in
    let n : c.loop-col.col ≡ length xs = omega arith in
    let so_far = subst (λ (k : ℕ). first_difference xs ys ≡ from_place k (first_difference (drop k xs) (drop k ys))) n c.loop-col.invariant.so_far in
    let other : length xs ≢ length ys = omega arith in
    sym (more_columns xs ys other so_far (omega arith))
