-- The records that small plans hold of, from the truth of their conditions.
use Rattle.std.proofs.Common.{◌≡◌, Bool, not, List, [], ◌∷◌, map, refl, ap, ◌∙◌}
use Rattle.std.specs.List.{list_all}
use Rattle.fb_types.specs.declared.cells.Cell.{Cell}
use Rattle.wah_logic.specs.Logic.{ones}
use Rattle.where_plan.specs.PlanHolds.{plan_atom_holds, plan_holds}
use Rattle.where_plan.specs.declared.plan.Plan.{Plan}
use Rattle.where_plan.specs.declared.plan.Plan.TheVariants as plan
use Rattle.where_plan.specs.declared.plan.PlanAtom.{PlanAtom}
use Rattle.where_plan.proofs.FoldLemmas.{plan_holds-and, plan_holds-not, plan_holds-one}
use Rattle.world.specs.World.{Partition}
use Rattle.part_meaning.specs.Answers.{rows_that_hold}

held_same : (p : Plan) (test : List Cell → Bool) → ((cells : List Cell) → plan_holds p cells ≡ test cells) → (records : List (List Cell))
    → map (plan_holds p) records ≡ map test records
held_same p test same [] = refl
held_same p test same (cells ∷ records) =
    ap (λ b. b ∷ map (plan_holds p) records) (same cells) ∙ ap (λ bs. test cells ∷ bs) (held_same p test same records)

pub one_held : (a : PlanAtom) (part : Partition) → ones (rows_that_hold (plan.One a) part) ≡ ones (map (plan_atom_holds a) part.records)
one_held a part = ap ones (held_same (plan.One a) (plan_atom_holds a) (λ cells. plan_holds-one cells a) part.records)

pub not_held : (a : PlanAtom) (part : Partition)
    → ones (rows_that_hold (plan.Not (plan.One a)) part) ≡ ones (map (λ cells. not (plan_atom_holds a cells)) part.records)
not_held a part =
    ap ones (held_same (plan.Not (plan.One a)) (λ cells. not (plan_atom_holds a cells))
    (λ cells. plan_holds-not cells (plan.One a) ∙ ap not (plan_holds-one cells a)) part.records)

pub both_held : (a b : PlanAtom) (part : Partition) → ones (rows_that_hold (plan.And (plan.One a ∷ plan.One b ∷ [])) part)
    ≡ ones (map (λ cells. list_all (λ t. t) (plan_atom_holds a cells ∷ plan_atom_holds b cells ∷ [])) part.records)
both_held a b part =
    ap ones (held_same (plan.And (plan.One a ∷ plan.One b ∷ [])) (λ cells. list_all (λ t. t) (plan_atom_holds a cells ∷ plan_atom_holds b cells ∷ []))
    (λ cells.
    plan_holds-and cells (plan.One a ∷ plan.One b ∷ [])
    ∙ ap (λ t. list_all (λ s. s) (t ∷ plan_holds (plan.One b) cells ∷ [])) (plan_holds-one cells a)
    ∙ ap (λ t. list_all (λ s. s) (plan_atom_holds a cells ∷ t ∷ [])) (plan_holds-one cells b)) part.records)
