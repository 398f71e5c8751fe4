use Rattle.std.proofs.Common.{◌++◌, ◌∷◌, [], sym, ap, ◌∙◌, append_assoc, arith}
use Rattle.index_spec.specs.Members.{from_to}
use Rattle.binning.proofs.MembersLemmas.{from_to_more}
use Rattle.enc_equality.proofs.equality.append_places.Goals as goal

pub loop-place-preserved : goal.loop-place-preserved
loop-place-preserved c =
    let old = c.args.places.now.items in
    let first = c.args.first in
    let place = c.loop-place.place in
    c.in_ok-push.ensures.items ∙ ap (λ l. l ++ place ∷ []) c.loop-place.invariant ∙ append_assoc old (from_to first place) (place ∷ []) ∙ ap (λ l. old ++ l) (sym (from_to_more first place c.loop-place.auto.place))
