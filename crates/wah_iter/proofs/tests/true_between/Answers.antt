use Rattle.std.proofs.Common.{◌≡◌, ◌-◌, ◌+◌, ◌<◌, ◌∙◌, ap, length, arith}
use Rattle.std.specs.List.{range_with_len}
use Rattle.std.proofs.lemmas.List.FromFn.{get_or-range_with_len, length-range_with_len}
use Rattle.wah_iter.proofs.tests.true_between.Goals as goal

pub from_rows-requires-clause-rising : goal.from_rows-requires-clause-rising
from_rows-requires-clause-rising c = λ i h.
    let n = c.args.past - c.args.first in
    let all : c.deref.result.now ≡ range_with_len c.args.first n = c.deref.ensures.value ∙ c.in_ok-rows.ensures in
    let few : i + 1 < n = omega (arith, h, ap length all, length-range_with_len c.args.first n) in
    rw (all, get_or-range_with_len c.args.first n i 0 (omega (arith, few)), get_or-range_with_len c.args.first n (i + 1) 0 few) (omega arith)

pub from_rows-requires-clause-below : goal.from_rows-requires-clause-below
from_rows-requires-clause-below c = λ i h.
    let n = c.args.past - c.args.first in
    let all : c.deref.result.now ≡ range_with_len c.args.first n = c.deref.ensures.value ∙ c.in_ok-rows.ensures in
    let few : i < n = omega (arith, h, ap length all, length-range_with_len c.args.first n) in
    rw (all, get_or-range_with_len c.args.first n i 0 few) (omega (arith, few, c.if-past-gt100.false))
