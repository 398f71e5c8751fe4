use Rattle.std.proofs.Common.{◌<◌, ◌≤◌, ◌+◌, ◌-◌, ◌*◌, ◌^◌, ◌/◌, arith}
use Rattle.binning.proofs.DigitLemmas.{unit_pos, unit_one, unit_more, below_unit, above_unit, first_digits_by, ten_unit}
use Rattle.binning.proofs.digits.first_digits.Goals as goal

pub loop-unit-init : goal.loop-unit-init
loop-unit-init c = unit_one c.args.digits c.args.n

pub nonzero_div-n : goal.nonzero_div-n
nonzero_div-n c = unit_pos c.args.digits c.args.n c.loop-unit.unit c.loop-unit.invariant

pub overflow_mul-unit : goal.overflow_mul-unit
overflow_mul-unit c =
    let high : 10 ^ c.args.digits ≤ c.args.n / c.loop-unit.unit = rw (← c.pow-kept.ensures) c.loop-unit-test.true in
    let ten : c.loop-unit.unit * 10 ≤ c.args.n = ten_unit c.args.digits c.args.n c.loop-unit.unit c.requires.some c.loop-unit.invariant high in
    omega arith

pub loop-unit-smaller : goal.loop-unit-smaller
loop-unit-smaller c =
    let high : 10 ^ c.args.digits ≤ c.args.n / c.loop-unit.unit = rw (← c.pow-kept.ensures) c.loop-unit-test.true in
    let ten : c.loop-unit.unit * 10 ≤ c.args.n = ten_unit c.args.digits c.args.n c.loop-unit.unit c.requires.some c.loop-unit.invariant high in
    let some : 0 < c.loop-unit.unit = unit_pos c.args.digits c.args.n c.loop-unit.unit c.loop-unit.invariant in
    let fall : c.args.n + 1 - c.loop-unit.unit * 10 < c.args.n + 1 - c.loop-unit.unit = omega arith in
    fall

pub loop-unit-preserved : goal.loop-unit-preserved
loop-unit-preserved c =
    let high : 10 ^ c.args.digits ≤ c.args.n / c.loop-unit.unit = rw (← c.pow-kept.ensures) c.loop-unit-test.true in
    let some : 0 < c.loop-unit.unit = unit_pos c.args.digits c.args.n c.loop-unit.unit c.loop-unit.invariant in
    unit_more c.args.digits c.args.n c.loop-unit.unit c.loop-unit.invariant (above_unit c.args.digits c.args.n c.loop-unit.unit high some)

pub nonzero_rem-result : goal.nonzero_rem-result
nonzero_rem-result c = unit_pos c.args.digits c.args.n c.loop-unit.unit c.loop-unit.invariant

pub returns : goal.returns
returns c =
    let low : c.args.n / c.loop-unit.unit < 10 ^ c.args.digits = rw (← c.pow-kept.ensures) c.loop-unit-test.false in
    let some : 0 < c.loop-unit.unit = unit_pos c.args.digits c.args.n c.loop-unit.unit c.loop-unit.invariant in
    first_digits_by c.args.digits c.args.n c.loop-unit.unit c.requires.some (omega arith) c.loop-unit.invariant (below_unit c.args.digits c.args.n c.loop-unit.unit low some)
