use Rattle.std.proofs.Common.{ap, sym, ◌∙◌, ◌+◌, ◌∷◌, take}
use Rattle.patterns.specs.Like.{pieces_of}
use Rattle.patterns.proofs.LikeLemmas.{cut_at, uncut, take_rest}
use Rattle.patterns.proofs.matching.cut.Goals as goal

pub returns-in-None-clause-cases : goal.returns-in-None-clause-cases
returns-in-None-clause-cases c = uncut c.args.pattern.now (sym c.place_of_gap.ensures ∙ c.in-None.is)

pub returns-in-Some-clause-cases : goal.returns-in-Some-clause-cases
returns-in-Some-clause-cases c =
    let at = cut_at c.args.pattern.now c.in-Some.at (sym c.place_of_gap.ensures ∙ c.in-Some.is) in
    let whole = take_rest (c.in-Some.at + 1) c.args.pattern.now in
    at.1 ∙ ap (λ r. take c.in-Some.at c.args.pattern.now ∷ pieces_of r) (sym whole)
