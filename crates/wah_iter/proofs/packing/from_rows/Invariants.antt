use Rattle.std.proofs.Common.{◌≡◌, ◌+◌, ◌-◌, ◌*◌, ◌/◌, ◌%◌, ◌≤◌, ◌<◌, length, take, min, slice_index}
use Rattle.wah_iter.specs.Rows.{rows_of}
use Rattle.wah_iter.proofs.packing.from_rows.Given as goal

abbrev pub invariant-loop-done : goal.invariant-loop-done
invariant-loop-done l = record {
  within : l.done ≤ length l.rows;
  rows : rows_of l.out.values ≡ take l.done l.rows;
  aligned : length l.out.values % 31 ≡ 0;
  short : length l.out.values ≤ 31 * l.groups;
  next : l.done < length l.rows → length l.out.values ≤ slice_index l.rows l.done;
  room : min (2 * (length l.rows - l.done) + 1) (l.len / 31 - length l.out.values / 31) ≤ l.out.spare;
}

abbrev pub decreases-loop-done : goal.decreases-loop-done
decreases-loop-done l = length l.rows - l.done
