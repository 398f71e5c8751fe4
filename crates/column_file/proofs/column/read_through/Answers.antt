use Rattle.std.proofs.Common.{◌*◌, ◌≤◌, arith, length}
use Rattle.std.proofs.Math.Nat.{mul-le-mul_left}
use Rattle.column_file.proofs.column.read_through.Goals as goal

-- no type is wider than 8 bytes
pub whole_as_front-read_by : goal.whole_as_front-read_by
whole_as_front-read_by g c =
    let wide : length c.args.out.now * c.number_width.result ≤ length c.args.out.now * 8 = mul-le-mul_left (length c.args.out.now) c.number_width.ensures.some.1 in
    (omega (arith, wide, c.requires.room), omega (arith, c.requires.small))
