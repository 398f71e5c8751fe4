-- When a plan holds of a record.
use Rattle.std.specs.Prelude.{ℕ, Bool, true, not, List, Option, Some, None, slice_index_or}
use Rattle.std.specs.List.{list_all, list_any}
use Rattle.fb_types.specs.declared.cells.Cell.{Cell}
use Rattle.fb_types.specs.declared.cells.Cell.TheVariants.{Null}
use Rattle.fb_types.specs.declared.schemas.Column.{Column}
use Rattle.binning.specs.Spans.{has}
use Rattle.where_grammar.specs.declared.clause.Clause.{Clause}
use Rattle.where_grammar.specs.Holds.{holds, is_met, is_there, number_passes, odd_many}
use Rattle.where_plan.specs.declared.plan.PlanAtom.{PlanAtom}
use Rattle.where_plan.specs.declared.plan.PlanAtom.TheVariants as atom
use Rattle.where_plan.specs.declared.plan.Plan.{Plan}
use Rattle.where_plan.specs.declared.plan.Plan.TheOpen.{Plan-F}
use Rattle.where_plan.specs.declared.plan.Plan.TheFolds.{fold-Plan}

-- the cell in that place, null where the record has none
abbrev pub cell_at : List Cell → ℕ → Cell
cell_at cells col = slice_index_or cells col Null

-- the truth of a condition on the record with these cells; on a null cell each is false
abbrev pub plan_atom_holds : PlanAtom → List Cell → Bool
plan_atom_holds (atom.Whole col spans) cells = number_passes (has spans) (cell_at cells col)
plan_atom_holds (atom.Word col condition) cells = is_met condition (cell_at cells col)
plan_atom_holds (atom.Exists col) cells = is_there (cell_at cells col)

-- the truth of a plan from that of its parts
abbrev pub plan_holds_by_parts : List Cell → Plan-F Bool → Bool
plan_holds_by_parts cells Plan-F.All = true
plan_holds_by_parts cells (Plan-F.Or parts) = list_any (λ part. part) parts
plan_holds_by_parts cells (Plan-F.Xor parts) = odd_many parts
plan_holds_by_parts cells (Plan-F.And parts) = list_all (λ part. part) parts
plan_holds_by_parts cells (Plan-F.Not part) = not part
plan_holds_by_parts cells (Plan-F.One condition) = plan_atom_holds condition cells

-- the plan holds of the record with these cells
abbrev pub plan_holds : Plan → List Cell → Bool
plan_holds planned cells = fold-Plan Bool (plan_holds_by_parts cells) planned

-- the clause of a query holds of the record; without a clause, each record is asked for
abbrev pub is_asked_for : Option Clause → List Column → List Cell → Bool
is_asked_for None columns cells = true
is_asked_for (Some asked) columns cells = holds asked columns cells
