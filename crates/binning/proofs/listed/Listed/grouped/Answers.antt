use Rattle.std.proofs.Common.{◌≡◌, [], ◌∙◌, ap, subst, List, Option, Bool, ℤ}
use Rattle.std.proofs.lemmas.Result.{IfOk-weaker}
use Rattle.binning.specs.Bins.{cells}
use Rattle.binning.specs.Gathered.{Gathered}
use Rattle.binning.proofs.listed.Listed.grouped.Goals as goal

pub returns-clause-gathered : goal.returns-clause-gathered
returns-clause-gathered c =
    let seen : cells c.deref.result.now c.deref-2.result.now ≡ c.args.self.now =
    ap (λ (m : List Bool). cells m c.deref-2.result.now) c.deref.ensures.value
    ∙ ap (λ (vs : List ℤ). cells c.self.inside.is_there.items vs) c.deref-2.ensures.value
    ∙ c.self.view_is in
    IfOk-weaker c.put.result _ _ (λ all h. subst (λ (column : List (Option ℤ)). Gathered all column) seen (h [] c.make-grouped.ensures.gathered)) c.put.ensures.gathered
