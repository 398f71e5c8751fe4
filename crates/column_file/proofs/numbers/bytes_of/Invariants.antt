use Rattle.std.proofs.Common.{◌≡◌, ◌≤◌, length, take, map, vec_len, vec_capacity}
use Rattle.column_file.specs.Values.{number_bytes}
use Rattle.column_file.proofs.numbers.bytes_of.Given as goal

abbrev pub invariant-loop-value : goal.invariant-loop-value
invariant-loop-value g l =
    record {
      pieces : l.pieces.items ≡ map (number_bytes g.T.Number.ty) (take l.value-index l.values);
      count : vec_len l.pieces ≡ l.value-index;
      room : length l.values ≤ vec_capacity l.pieces;
    }
