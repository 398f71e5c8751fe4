use Rattle.std.proofs.Common.{sym, ◌∙◌}
use Rattle.patterns.proofs.LikeLemmas.{like-in_order, stand-in_order, in_order-stand}
use Rattle.patterns.specs.Like.{pieces_of}
use Rattle.patterns.proofs.laws.the_pieces_of_patterns.Goals as goal

pub returns : goal.returns
returns c = λ pattern text. (
  (λ h. stand-in_order (pieces_of pattern) text (sym (like-in_order pattern text) ∙ h)),
  (λ h. like-in_order pattern text ∙ in_order-stand (pieces_of pattern) text h),
)
