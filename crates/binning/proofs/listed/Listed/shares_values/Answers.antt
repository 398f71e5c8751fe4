use Rattle.std.proofs.Common.{◌≤◌, sym, length, arith}
use Rattle.std.proofs.lemmas.List.{length-take-le}
use Rattle.binning.proofs.listed.Listed.shares_values.Goals as goal

pub slice_bounds-are_nearly_distinct-end : goal.slice_bounds-are_nearly_distinct-end
slice_bounds-are_nearly_distinct-end c =
    let many : 32768 ≤ length c.deref.result.now = rw c.deref.ensures.value (omega (arith, c.len.ensures, c.if-len-lt-MANY_ROWS.false)) in
    sym (length-take-le 32768 c.deref.result.now many)
