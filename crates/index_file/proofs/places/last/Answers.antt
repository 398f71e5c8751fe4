use Rattle.std.proofs.Common.{◌≡◌, ◌<◌, ◌==◌, false, length, sym, arith}
use Rattle.std.proofs.lemmas.Bool.Decides.{nat_tests}
use Rattle.index_file.proofs.PlacesLemmas.{last_is}
use Rattle.index_file.proofs.places.last.Goals as goal

pub returns-else-is_empty : goal.returns-else-is_empty
returns-else-is_empty c =
    let none : (length c.args.later.now == 0) ≡ false = cc in
    let some : 0 < length c.args.later.now = grind (arith, nat_tests) in
    sym (last_is c.args.first c.args.later.now some)
