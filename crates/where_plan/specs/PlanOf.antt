-- The plan that a clause has under a schema.
use Rattle.std.specs.Prelude.{ℕ, zero, suc, Bool, true, false, if◌then◌else◌, List, [], ◌∷◌, Option, Some, None, ℤ, pos, ◌+ℤ◌}
use Rattle.std.specs.Int.{int_gap}
use Rattle.std.specs.Ordering.{int_eq}
use Rattle.fb_types.specs.declared.schemas.Column.{Column}
use Rattle.fb_types.specs.declared.types.ColType.{ColType}
use Rattle.fb_types.specs.Types.{ends_of}
use Rattle.binning.specs.declared.span_lists.Span.{Span}
use Rattle.where_grammar.specs.declared.clause.Atom.{Atom}
use Rattle.where_grammar.specs.declared.clause.Clause.{Clause}
use Rattle.where_grammar.specs.declared.clause.Clause.TheOpen.{Clause-F}
use Rattle.where_grammar.specs.declared.clause.Clause.TheFolds.{fold-Clause}
use Rattle.where_grammar.specs.Holds.{column_of}
use Rattle.where_plan.specs.declared.plan.PlanAtom.{PlanAtom}
use Rattle.where_plan.specs.declared.plan.PlanAtom.TheVariants as atom
use Rattle.where_plan.specs.declared.plan.Plan.{Plan}
use Rattle.where_plan.specs.declared.plan.Plan.TheVariants as plan
use Rattle.where_plan.specs.declared.sorts.Sort.{Sort}
use Rattle.where_plan.specs.declared.sorts.Sort.TheVariants.{Number, Text, Any}
use Rattle.where_plan.specs.Sorts.{sort_of, column_named}
use Rattle.where_plan.specs.SpansOf.{number_meets, span}

-- ---- the spans of a test

-- The number, where it passes, in front of the spans of numbers behind it: it lengthens the first of them where that
-- begins right behind it.
abbrev pub in_front : Bool → ℤ → List Span → List Span
in_front false n spans = spans
in_front true n [] = span n n ∷ []
in_front true n (s ∷ spans) = if int_eq s.least (n +ℤ pos 1) then span n s.greatest ∷ spans else span n n ∷ s ∷ spans

-- the numbers from a least one on, so many of them, that pass the test, as spans that stand apart
unfoldable pub spans_from : (ℤ → Bool) → ℤ → ℕ → List Span
spans_from test least zero = []
spans_from test least (suc more) = in_front (test least) least (spans_from test (least +ℤ pos 1) more)

-- the numbers between both ends that pass the test, as spans that stand apart
unfoldable pub spans_of : Span → (ℤ → Bool) → List Span
spans_of ends test = spans_from test ends.least (int_gap ends.least (ends.greatest +ℤ pos 1))

-- ---- conditions

-- The plan of a condition on the column at the place, which has these ends where it is one of whole numbers: a condition
-- on numbers has its spans, one on texts is kept. Where it doesn't fit its column, it is refused before, and any plan
-- will do.
abbrev pub plan_at : Sort → ℕ → Option (ℤ × ℤ) → Atom → PlanAtom
plan_at Number col (Some ends) condition = atom.Whole col (spans_of (span ends.0 ends.1) (number_meets condition))
plan_at Number col None condition = atom.Exists col
plan_at Text col ends condition = atom.Word col condition
plan_at Any col ends condition = atom.Exists col

-- the plan of a condition; one whose column isn't there is refused before: any plan will do
abbrev pub atom_plan : List Column → Atom → PlanAtom
atom_plan columns condition = plan_where (column_named columns (column_of condition))
  where
    plan_where : Option (ℕ × ColType) → PlanAtom
    plan_where None = atom.Exists 0
    plan_where (Some found) = plan_at (sort_of condition) found.0 (ends_of found.1) condition

-- ---- clauses

-- a clause is planned part by part
abbrev pub plan_by_parts : List Column → Clause-F Plan → Plan
plan_by_parts columns (Clause-F.Or parts) = plan.Or parts
plan_by_parts columns (Clause-F.Xor parts) = plan.Xor parts
plan_by_parts columns (Clause-F.And parts) = plan.And parts
plan_by_parts columns (Clause-F.Not part) = plan.Not part
plan_by_parts columns (Clause-F.One condition) = plan.One (atom_plan columns condition)

abbrev pub clause_plan : List Column → Clause → Plan
clause_plan columns asked = fold-Clause Plan (plan_by_parts columns) asked

-- the plan of a query's clause; without one, all records are asked for
abbrev pub plan_of : List Column → Option Clause → Plan
plan_of columns None = plan.All
plan_of columns (Some asked) = clause_plan columns asked
