use Rattle.std.proofs.Common.{ap, sym, ◌∙◌}
use Rattle.patterns.specs.Like.{pieces_of}
use Rattle.patterns.proofs.LikeLemmas.{decided, in_order, holds_after, like_whole, like_front, like_next, like_last}
use Rattle.patterns.proofs.matching.like.Goals as goal

pub returns-in_default-clause-value : goal.returns-in_default-clause-value
returns-in_default-clause-value c = c.is_whole.ensures ∙ sym (like_whole c.args.pattern.now c.args.text.now c.in_default.ensures.cases)

pub returns-in_default-text_behind-clause-value : goal.returns-in_default-text_behind-clause-value
returns-in_default-text_behind-clause-value c =
    sym
    (like_front c.args.pattern.now c.in-Some.first.now c.in-Some.pieces.now c.args.text.now c.in-Some.ensures.cases
    ∙ ap (holds_after (in_order (pieces_of c.in-Some.pieces.now))) (sym c.in_default-text_behind.ensures))

pub loop-piece-init : goal.loop-piece-init
loop-piece-init c =
    like_front c.args.pattern.now c.in-Some.first.now c.in-Some.pieces.now c.args.text.now c.in-Some.ensures.cases
    ∙ ap (holds_after (in_order (pieces_of c.in-Some.pieces.now))) (sym c.in-Some-text_behind.ensures)

pub returns-in-None-clause-value : goal.returns-in-None-clause-value
returns-in-None-clause-value c =
    sym
    (c.loop-piece.invariant
    ∙ like_next c.loop-piece.pieces.now c.in-Some-cut.piece.now c.in-Some-cut.more.now c.loop-piece.rest.now c.in-Some-cut.ensures.cases
    ∙ ap (holds_after (in_order (pieces_of c.in-Some-cut.more.now))) (sym c.in-None.ensures))

pub returns-in-None-clause-pieces : goal.returns-in-None-clause-pieces
returns-in-None-clause-pieces c = decided _ c.args.pattern.now c.args.text.now (returns-in-None-clause-value c)

pub loop-piece-preserved : goal.loop-piece-preserved
loop-piece-preserved c =
    c.loop-piece.invariant
    ∙ like_next c.loop-piece.pieces.now c.in-Some-cut.piece.now c.in-Some-cut.more.now c.loop-piece.rest.now c.in-Some-cut.ensures.cases
    ∙ ap (holds_after (in_order (pieces_of c.in-Some-cut.more.now))) (sym c.in-Some-text_behind_first.ensures)

pub returns-clause-value : goal.returns-clause-value
returns-clause-value c =
    c.ends_with.ensures
    ∙ sym (c.loop-piece.invariant ∙ like_last c.loop-piece.pieces.now c.loop-piece.rest.now c.in_default-cut.ensures.cases)

pub returns-clause-pieces : goal.returns-clause-pieces
returns-clause-pieces c = decided _ c.args.pattern.now c.args.text.now (returns-clause-value c)

pub returns-in_default-clause-pieces : goal.returns-in_default-clause-pieces
returns-in_default-clause-pieces c = decided _ c.args.pattern.now c.args.text.now (returns-in_default-clause-value c)

pub returns-in_default-text_behind-clause-pieces : goal.returns-in_default-text_behind-clause-pieces
returns-in_default-text_behind-clause-pieces c =
    decided _ c.args.pattern.now c.args.text.now (returns-in_default-text_behind-clause-value c)
