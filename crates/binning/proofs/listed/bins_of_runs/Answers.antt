use Rattle.std.proofs.Common.{◌≡◌, ◌+◌, ◌-◌, ◌<◌, ◌≤◌, ◌∙◌, ◌∷◌, [], ◌++◌, sym, ap, length, get_or, take, drop, pos, arith, rules}
use Rattle.std.specs.Int.{w128}
use Rattle.std.proofs.lemmas.Int.{to_z-of_z}
use Rattle.std.proofs.lemmas.List.{drop_all}
use mir.Val.{SFits}
use Rattle.wah_iter.specs.Rows.{rows_of}
use Rattle.binning.specs.Bins.{rows_with}
use Rattle.binning.specs.declared.listed.RowValue.{RowValue}
use Rattle.binning.specs.declared.rules.Keying.TheVariants.{Each}
use Rattle.binning.proofs.OrderLemmas.{rows_rise}
use Rattle.binning.proofs.ListedLemmas.{left_first, left_none, left_at, run_ends, run_told, run_part, rows_as_many, below_column, rows_told}
use Rattle.binning.proofs.listed.bins_of_runs.Goals as goal

pub loop-done-init : goal.loop-done-init
loop-done-init c = record { within = omega arith; left = rw c.new-bins.ensures.items (left_first c.args.listed.now c.args.pairs.now c.requires.order) }

pub overflow_add-end : goal.overflow_add-end
overflow_add-end c =
    let ends : c.loop-done.done + c.run_len.result ≤ length c.args.pairs.now = run_ends c.args.pairs.now c.loop-done.done c.run_len.result c.loop-done-test.true (run_told c.args.pairs.now c.loop-done.done c.run_len.result c.run_len.ensures) in
    search (rules, ends)

pub slice_bounds-from_rows-end : goal.slice_bounds-from_rows-end
slice_bounds-from_rows-end c =
    let low : c.loop-done.done ≤ c.loop-done.done + c.run_len.result = omega arith in
    let ends = run_ends c.args.pairs.now c.loop-done.done c.run_len.result c.loop-done-test.true (run_told c.args.pairs.now c.loop-done.done c.run_len.result c.run_len.ensures) in
    let many = rows_as_many c.args.pairs.now c.args.rows.now c.requires.rows in
    let high : c.loop-done.done + c.run_len.result ≤ length c.args.rows.now = omega (arith, ends, many) in
    search (rules, low, high)

pub from_rows-requires-clause-rising : goal.from_rows-requires-clause-rising
from_rows-requires-clause-rising c =
    let d : RowValue = record { value = pos 0; row = 0 } in
    let part = run_part c.args.listed.now c.loop-done.bins.items c.args.pairs.now c.args.rows.now c.loop-done.done c.run_len.result d c.requires.rows c.loop-done-test.true c.loop-done.invariant.left (run_told c.args.pairs.now c.loop-done.done c.run_len.result c.run_len.ensures) in
    rw part (λ i h. rows_rise 0 (rows_with Each (get_or c.args.pairs.now c.loop-done.done d).value c.args.listed.now) i h)

pub from_rows-requires-clause-below : goal.from_rows-requires-clause-below
from_rows-requires-clause-below c =
    let d : RowValue = record { value = pos 0; row = 0 } in
    let part = run_part c.args.listed.now c.loop-done.bins.items c.args.pairs.now c.args.rows.now c.loop-done.done c.run_len.result d c.requires.rows c.loop-done-test.true c.loop-done.invariant.left (run_told c.args.pairs.now c.loop-done.done c.run_len.result c.run_len.ensures) in
    rw part (λ i h. below_column c.args.listed.now (get_or c.args.pairs.now c.loop-done.done d).value c.len-count.result c.len-count.ensures.number i h)

pub loop-done-preserved : goal.loop-done-preserved
loop-done-preserved c =
    let d : RowValue = record { value = pos 0; row = 0 } in
    let column = c.args.listed.now in
    let ps = c.args.pairs.now in
    let k = (get_or ps c.loop-done.done d).value in
    let fits : SFits w128 k = search rules in
    let part = run_part column c.loop-done.bins.items ps c.args.rows.now c.loop-done.done c.run_len.result d c.requires.rows c.loop-done-test.true c.loop-done.invariant.left (run_told c.args.pairs.now c.loop-done.done c.run_len.result c.run_len.ensures) in
    let rows = rows_told column k c.in_ok-rows.rows (c.in_ok-rows.ensures.length ∙ c.len-count.ensures.number) (c.in_ok-rows.ensures.rows ∙ part) in
    let pushed : c.push.new.self.items ≡ c.loop-done.bins.items ++ record { least = k; greatest = k; rows = c.in_ok-rows.rows } ∷ [] = simp to_z-of_z at c.in_ok-push.ensures.items in
    record {
      within = run_ends ps c.loop-done.done c.run_len.result c.loop-done-test.true (run_told c.args.pairs.now c.loop-done.done c.run_len.result c.run_len.ensures);
      left = left_at column c.loop-done.bins.items ps c.loop-done.done c.run_len.result d c.in_ok-rows.rows c.push.new.self.items c.loop-done-test.true c.loop-done.invariant.left (run_told c.args.pairs.now c.loop-done.done c.run_len.result c.run_len.ensures) rows pushed;
    }

pub returns : goal.returns
returns c =
    let past : length c.args.pairs.now ≤ c.loop-done.done = omega arith in
    left_none c.args.listed.now c.loop-done.bins.items (drop c.loop-done.done c.args.pairs.now) (drop_all c.loop-done.done c.args.pairs.now past) c.loop-done.invariant.left
