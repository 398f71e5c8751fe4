-- What is said of a clause or a plan, from what is said of its parts.
use Rattle.std.proofs.Common.{◌≡◌, ℕ, Bool, true, not, ◌&&◌, ◌||◌, List, [], ◌∷◌, map, refl, sym, ap, ◌∙◌}
use Rattle.std.specs.Prelude.{Option}
use Rattle.std.specs.List.{list_all, list_any}
use Rattle.fb_types.specs.declared.cells.Cell.{Cell}
use Rattle.fb_types.specs.declared.schemas.Column.{Column}
use Rattle.where_grammar.specs.declared.clause.Atom.{Atom}
use Rattle.where_grammar.specs.declared.clause.Clause.{Clause}
use Rattle.where_grammar.specs.declared.clause.Clause.TheVariants as clause
use Rattle.where_grammar.specs.declared.clause.Clause.TheVariants.{rolls-Or, rolls-Xor, rolls-And, rolls-Not, rolls-One}
use Rattle.where_grammar.specs.declared.clause.Clause.TheOpen.{Clause-F}
use Rattle.where_grammar.specs.declared.clause.Clause.TheFolds.{fold-Clause, fold-roll-Clause}
use Rattle.where_grammar.specs.declared.clause.QueryKind.{QueryKind}
use Rattle.where_grammar.specs.Holds.{odd_many, holds, holds_by_parts}
use Rattle.where_plan.specs.declared.plan.PlanAtom.{PlanAtom}
use Rattle.where_plan.specs.declared.plan.Plan.{Plan}
use Rattle.where_plan.specs.declared.plan.Plan.TheVariants as plan
use Rattle.where_plan.specs.declared.plan.Plan.TheOpen.{Plan-F}
use Rattle.where_plan.specs.declared.plan.Plan.TheFolds.{fold-Plan, fold-roll-Plan}
use Rattle.where_plan.specs.PlanHolds.{plan_atom_holds, plan_holds, plan_holds_by_parts}
use Rattle.where_plan.specs.Plans.{atoms_of, atoms_by_parts, joined}
use Rattle.where_plan.specs.Refusals.{atom_refusal, clause_refusal, first_some, refusal_by_parts}

pub any_mapped : {X : Type 0} (f : X → Bool) (xs : List X) → list_any (λ b. b) (map f xs) ≡ list_any f xs
any_mapped f [] = refl
any_mapped f (x ∷ xs) = ap (λ b. f x || b) (any_mapped f xs)

pub all_mapped : {X : Type 0} (f : X → Bool) (xs : List X) → list_all (λ b. b) (map f xs) ≡ list_all f xs
all_mapped f [] = refl
all_mapped f (x ∷ xs) = ap (λ b. f x && b) (all_mapped f xs)

-- ---- the truth of a clause

module _ (columns : List Column) (cells : List Cell) where
  pub holds-or : (parts : List Clause) → holds (clause.Or parts) columns cells ≡ list_any (λ b. b) (map (λ part. holds part columns cells) parts)
  holds-or parts = let step = holds_by_parts columns cells in ap (fold-Clause Bool step) (sym (rolls-Or parts)) ∙ fold-roll-Clause Bool step (Clause-F.Or parts)

  pub holds-and : (parts : List Clause) → holds (clause.And parts) columns cells ≡ list_all (λ b. b) (map (λ part. holds part columns cells) parts)
  holds-and parts = let step = holds_by_parts columns cells in ap (fold-Clause Bool step) (sym (rolls-And parts)) ∙ fold-roll-Clause Bool step (Clause-F.And parts)

-- ---- the refusal of a clause

module _ (columns : List Column) where
  pub clause_refusal-or : (parts : List Clause) → clause_refusal columns (clause.Or parts) ≡ first_some (map (clause_refusal columns) parts)
  clause_refusal-or parts = let step = refusal_by_parts columns in ap (fold-Clause (Option QueryKind) step) (sym (rolls-Or parts)) ∙ fold-roll-Clause (Option QueryKind) step (Clause-F.Or parts)

  pub clause_refusal-xor : (parts : List Clause) → clause_refusal columns (clause.Xor parts) ≡ first_some (map (clause_refusal columns) parts)
  clause_refusal-xor parts = let step = refusal_by_parts columns in ap (fold-Clause (Option QueryKind) step) (sym (rolls-Xor parts)) ∙ fold-roll-Clause (Option QueryKind) step (Clause-F.Xor parts)

  pub clause_refusal-and : (parts : List Clause) → clause_refusal columns (clause.And parts) ≡ first_some (map (clause_refusal columns) parts)
  clause_refusal-and parts = let step = refusal_by_parts columns in ap (fold-Clause (Option QueryKind) step) (sym (rolls-And parts)) ∙ fold-roll-Clause (Option QueryKind) step (Clause-F.And parts)

  pub clause_refusal-not : (part : Clause) → clause_refusal columns (clause.Not part) ≡ clause_refusal columns part
  clause_refusal-not part = let step = refusal_by_parts columns in ap (fold-Clause (Option QueryKind) step) (sym (rolls-Not part)) ∙ fold-roll-Clause (Option QueryKind) step (Clause-F.Not part)

  pub clause_refusal-one : (condition : Atom) → clause_refusal columns (clause.One condition) ≡ atom_refusal columns condition
  clause_refusal-one condition = let step = refusal_by_parts columns in ap (fold-Clause (Option QueryKind) step) (sym (rolls-One condition)) ∙ fold-roll-Clause (Option QueryKind) step (Clause-F.One condition)

-- ---- the truth of a plan

module _ (cells : List Cell) where
  pub plan_holds-all : plan_holds plan.All cells ≡ true
  plan_holds-all = let step = plan_holds_by_parts cells in ap (fold-Plan Bool step) (sym plan.rolls-All) ∙ fold-roll-Plan Bool step Plan-F.All

  pub plan_holds-or : (parts : List Plan) → plan_holds (plan.Or parts) cells ≡ list_any (λ b. b) (map (λ part. plan_holds part cells) parts)
  plan_holds-or parts = let step = plan_holds_by_parts cells in ap (fold-Plan Bool step) (sym (plan.rolls-Or parts)) ∙ fold-roll-Plan Bool step (Plan-F.Or parts)

  pub plan_holds-xor : (parts : List Plan) → plan_holds (plan.Xor parts) cells ≡ odd_many (map (λ part. plan_holds part cells) parts)
  plan_holds-xor parts = let step = plan_holds_by_parts cells in ap (fold-Plan Bool step) (sym (plan.rolls-Xor parts)) ∙ fold-roll-Plan Bool step (Plan-F.Xor parts)

  pub plan_holds-and : (parts : List Plan) → plan_holds (plan.And parts) cells ≡ list_all (λ b. b) (map (λ part. plan_holds part cells) parts)
  plan_holds-and parts = let step = plan_holds_by_parts cells in ap (fold-Plan Bool step) (sym (plan.rolls-And parts)) ∙ fold-roll-Plan Bool step (Plan-F.And parts)

  pub plan_holds-not : (part : Plan) → plan_holds (plan.Not part) cells ≡ not (plan_holds part cells)
  plan_holds-not part = let step = plan_holds_by_parts cells in ap (fold-Plan Bool step) (sym (plan.rolls-Not part)) ∙ fold-roll-Plan Bool step (Plan-F.Not part)

  pub plan_holds-one : (condition : PlanAtom) → plan_holds (plan.One condition) cells ≡ plan_atom_holds condition cells
  plan_holds-one condition = let step = plan_holds_by_parts cells in ap (fold-Plan Bool step) (sym (plan.rolls-One condition)) ∙ fold-roll-Plan Bool step (Plan-F.One condition)

-- ---- the conditions of a plan

abbrev Atoms : Type 0
Atoms = List PlanAtom

pub atoms_of-all : atoms_of plan.All ≡ []
atoms_of-all = ap (fold-Plan Atoms atoms_by_parts) (sym plan.rolls-All) ∙ fold-roll-Plan Atoms atoms_by_parts Plan-F.All

pub atoms_of-or : (parts : List Plan) → atoms_of (plan.Or parts) ≡ joined (map atoms_of parts)
atoms_of-or parts = ap (fold-Plan Atoms atoms_by_parts) (sym (plan.rolls-Or parts)) ∙ fold-roll-Plan Atoms atoms_by_parts (Plan-F.Or parts)

pub atoms_of-xor : (parts : List Plan) → atoms_of (plan.Xor parts) ≡ joined (map atoms_of parts)
atoms_of-xor parts = ap (fold-Plan Atoms atoms_by_parts) (sym (plan.rolls-Xor parts)) ∙ fold-roll-Plan Atoms atoms_by_parts (Plan-F.Xor parts)

pub atoms_of-and : (parts : List Plan) → atoms_of (plan.And parts) ≡ joined (map atoms_of parts)
atoms_of-and parts = ap (fold-Plan Atoms atoms_by_parts) (sym (plan.rolls-And parts)) ∙ fold-roll-Plan Atoms atoms_by_parts (Plan-F.And parts)

pub atoms_of-not : (part : Plan) → atoms_of (plan.Not part) ≡ atoms_of part
atoms_of-not part = ap (fold-Plan Atoms atoms_by_parts) (sym (plan.rolls-Not part)) ∙ fold-roll-Plan Atoms atoms_by_parts (Plan-F.Not part)

pub atoms_of-one : (condition : PlanAtom) → atoms_of (plan.One condition) ≡ condition ∷ []
atoms_of-one condition = ap (fold-Plan Atoms atoms_by_parts) (sym (plan.rolls-One condition)) ∙ fold-roll-Plan Atoms atoms_by_parts (Plan-F.One condition)
