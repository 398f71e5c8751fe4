-- Which plan a clause has under a schema.
use Rattle.std.specs.Prelude.{◌≡◌, ℕ, true, List, [], ◌∷◌, ◌++◌, Option, Some, None, ℤ, option_map, slice_get}
use Rattle.std.specs.List.{AllByRecursion}
use Rattle.fb_types.specs.declared.schemas.Column.{Column}
use Rattle.fb_types.specs.declared.types.ColType.{ColType}
use Rattle.fb_types.specs.Types.{ends_of}
use Rattle.binning.specs.declared.span_lists.Span.{Span}
use Rattle.where_grammar.specs.declared.clause.Atom.{Atom}
use Rattle.where_grammar.specs.declared.clause.Clause.{Clause}
use Rattle.where_grammar.specs.declared.clause.Clause.TheVariants as clause
use Rattle.where_grammar.specs.Holds.{column_of}
use Rattle.where_plan.specs.declared.plan.PlanAtom.{PlanAtom}
use Rattle.where_plan.specs.declared.plan.PlanAtom.TheVariants as atom
use Rattle.where_plan.specs.declared.plan.Plan.{Plan}
use Rattle.where_plan.specs.declared.plan.Plan.TheVariants as plan
use Rattle.where_plan.specs.declared.plan.Plan.TheOpen.{Plan-F}
use Rattle.where_plan.specs.declared.plan.Plan.TheFolds.{fold-Plan}
use Rattle.where_plan.specs.declared.sorts.Sort.{Sort}
use Rattle.where_plan.specs.declared.sorts.Sort.TheVariants.{Number, Text, Any}
use Rattle.where_plan.specs.Sorts.{sort_of, suits, column_named}
use Rattle.where_plan.specs.SpansOf.{AreSpansOf, number_meets, span}

-- ---- conditions

-- The condition is on numbers, its column is one of whole numbers and has that place, and the spans have exactly the
-- numbers between the ends of the column's type on which the condition is true.
pub record IsOnNumbers (columns : List Column) (condition : Atom) (col : ℕ) (spans : List Span) : Type 0 where
  pub sort : sort_of condition ≡ Number
  pub ty : ColType
  pub named : column_named columns (column_of condition) ≡ Some (col, ty)
  pub least : ℤ
  pub greatest : ℤ
  pub ends : ends_of ty ≡ Some (least, greatest)
  pub numbers : AreSpansOf (span least greatest) (number_meets condition) spans

-- The condition is on texts, is kept, and its column isn't one of whole numbers and has that place.
pub record IsOnWords (columns : List Column) (condition : Atom) (col : ℕ) (kept : Atom) : Type 0 where
  pub sort : sort_of condition ≡ Text
  pub ty : ColType
  pub named : column_named columns (column_of condition) ≡ Some (col, ty)
  pub ends : ends_of ty ≡ None
  pub same : kept ≡ condition

-- The condition is that a cell isn't null, and its column has that place.
pub record IsOnAny (columns : List Column) (condition : Atom) (col : ℕ) : Type 0 where
  pub sort : sort_of condition ≡ Any
  pub ty : ColType
  pub named : column_named columns (column_of condition) ≡ Some (col, ty)

abbrev pub IsAtomPlan : List Column → Atom → PlanAtom → Type 0
IsAtomPlan columns condition (atom.Whole col spans) = IsOnNumbers columns condition col spans
IsAtomPlan columns condition (atom.Word col kept) = IsOnWords columns condition col kept
IsAtomPlan columns condition (atom.Exists col) = IsOnAny columns condition col

-- ---- clauses

-- a clause is planned part by part
mutual
  pub data IsClausePlan (columns : List Column) : Clause → Plan → Type 0 where
    any_of : (parts : List Clause) (plans : List Plan) → ArePlans columns parts plans → IsClausePlan columns (clause.Or parts) (plan.Or plans)
    odd_of : (parts : List Clause) (plans : List Plan) → ArePlans columns parts plans → IsClausePlan columns (clause.Xor parts) (plan.Xor plans)
    all_of : (parts : List Clause) (plans : List Plan) → ArePlans columns parts plans → IsClausePlan columns (clause.And parts) (plan.And plans)
    denied : (part : Clause) (planned : Plan) → IsClausePlan columns part planned → IsClausePlan columns (clause.Not part) (plan.Not planned)
    single : (condition : Atom) (planned : PlanAtom) → IsAtomPlan columns condition planned → IsClausePlan columns (clause.One condition) (plan.One planned)

  pub data ArePlans (columns : List Column) : List Clause → List Plan → Type 0 where
    no_parts : ArePlans columns [] []
    one_more : (part : Clause) (parts : List Clause) (planned : Plan) (plans : List Plan)
        → IsClausePlan columns part planned → ArePlans columns parts plans → ArePlans columns (part ∷ parts) (planned ∷ plans)

-- the plan of a query's clause; without one, all records are asked for
abbrev pub IsPlan : List Column → Option Clause → Plan → Type 0
IsPlan columns None planned = planned ≡ plan.All
IsPlan columns (Some asked) planned = IsClausePlan columns asked planned

-- ---- the conditions of a plan, from left to right

abbrev pub joined : {A : Type 0} → List (List A) → List A
joined [] = []
joined (xs ∷ rest) = xs ++ joined rest

abbrev pub atoms_by_parts : Plan-F (List PlanAtom) → List PlanAtom
atoms_by_parts Plan-F.All = []
atoms_by_parts (Plan-F.Or parts) = joined parts
atoms_by_parts (Plan-F.Xor parts) = joined parts
atoms_by_parts (Plan-F.And parts) = joined parts
atoms_by_parts (Plan-F.Not part) = part
atoms_by_parts (Plan-F.One condition) = condition ∷ []

abbrev pub atoms_of : Plan → List PlanAtom
atoms_of planned = fold-Plan (List PlanAtom) atoms_by_parts planned

-- ---- plans that fit a schema

-- the place of the condition's column
abbrev pub place_in : PlanAtom → ℕ
place_in (atom.Whole col spans) = col
place_in (atom.Word col kept) = col
place_in (atom.Exists col) = col

-- what the condition is on
abbrev pub sort_in : PlanAtom → Sort
sort_in (atom.Whole col spans) = Number
sort_in (atom.Word col kept) = Text
sort_in (atom.Exists col) = Any

-- a condition that is kept is one on texts
abbrev pub IsKeptOnTexts : PlanAtom → Type 0
IsKeptOnTexts (atom.Whole col spans) = Unit {0}
IsKeptOnTexts (atom.Word col kept) = sort_of kept ≡ Text
IsKeptOnTexts (atom.Exists col) = Unit {0}

-- the condition's column is there, and the condition fits it
pub record FitsColumn (columns : List Column) (condition : PlanAtom) : Type 0 where
  pub ty : ColType
  pub there : option_map (λ column. column.ty) (slice_get columns (place_in condition)) ≡ Some ty
  pub suited : suits (sort_in condition) ty ≡ true
  pub kept : IsKeptOnTexts condition

-- each condition of the plan fits its column
abbrev pub FitsSchema : List Column → Plan → Type 0
FitsSchema columns planned = AllByRecursion (FitsColumn columns) (atoms_of planned)
