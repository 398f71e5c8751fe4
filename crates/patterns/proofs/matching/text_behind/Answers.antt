use Rattle.std.proofs.Common.{◌∙◌, sym}
use Rattle.patterns.proofs.LikeLemmas.{behind_none}
use Rattle.patterns.proofs.matching.text_behind.Goals as goal

pub returns-in_default : goal.returns-in_default
returns-in_default c =
    behind_none c.args.piece.now c.loop-p.rest.now c.loop-p.p-index c.loop-p-test.true c.in_default.len_below ∙ sym c.loop-p.invariant
