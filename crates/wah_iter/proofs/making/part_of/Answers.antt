use Rattle.std.proofs.Common.{◌≡◌, ◌*◌, ◌%◌, ◌^◌, sym, arith}
use Rattle.std.proofs.lemmas.Nat.{one_shl}
use Rattle.wah_iter.proofs.PlacesLaws.{part-places_of}
use Rattle.wah_iter.proofs.making.part_of.Goals as goal

pub returns-clause-values : goal.returns-clause-values
returns-clause-values c =
    let shl : 1 * 2 ^ c.args.count % 4294967296 ≡ 2 ^ c.args.count = one_shl c.args.count 32 (omega (arith, c.requires.within, c.requires.few)) in
    rw shl (sym (part-places_of c.args.total c.args.first c.args.count c.args.bits c.requires.within))
