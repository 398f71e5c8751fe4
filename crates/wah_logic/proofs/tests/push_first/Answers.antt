use Rattle.std.proofs.Common.{◌∙◌, ap, length, length-append, arith}
use Rattle.wah_words.specs.Places.{places}
use Rattle.wah_words.proofs.PlacesLemmas.{length-places}
use Rattle.wah_logic.proofs.tests.push_first.Goals as goal

pub returns-clause-length : goal.returns-clause-length
returns-clause-length c =
    ap length c.push_literal.ensures.values ∙ length-append c.args.out.now.values (places 31 1073741824) ∙ omega (arith, length-places 31 1073741824)
