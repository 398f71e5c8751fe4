use Rattle.std.proofs.Common.{◌≡◌, Bool, true, false, cond, List, [], ◌∷◌, length, map, replicate, refl, ap, ◌∙◌}
use Rattle.std.proofs.lemmas.Result.{IfOk-weaker}
use Rattle.binning.specs.declared.against_bins.Three.TheVariants.{No}
use Rattle.two_stage.proofs.settling.answers_of.Goals as goal

all_no : (mask : List Bool) → replicate (length mask) No ≡ map (λ b. cond b No No) mask
all_no [] = refl
all_no (true ∷ mask) = ap (λ l. No ∷ l) (all_no mask)
all_no (false ∷ mask) = ap (λ l. No ∷ l) (all_no mask)

pub returns-in-No : goal.returns-in-No
returns-in-No g =
    rw g.in-No.is (IfOk-weaker g.uniform.result _ _ (λ a h. h ∙ ap (λ n. replicate n No) g.len.ensures.length ∙ all_no g.args.mask) g.uniform.ensures)
