-- The columns of the parts of a few rows.
use Rattle.std.proofs.Common.{◌≡◌, ℕ, zero, suc, ℤ, List, [], ◌∷◌, Option, Some, None, ap, ◌∙◌, arith}
use lib.Chars.{codes}
use Rattle.std.specs.FinMap.{empty, get-empty, insert}
use Rattle.std.specs.Ordering.{nat_cmp}
use Rattle.fb_types.specs.declared.types.ColType.TheVariants.{Int}
use Rattle.index_spec.specs.declared.spec.Binning.TheVariants as binning
use Rattle.index_spec.specs.declared.spec.EncodingSpec.{EncodingSpec}
use Rattle.index_spec.specs.declared.spec.EncodingSpec.TheVariants.{Equality}
use Rattle.index_spec.specs.declared.spec.Spec.{Spec}
use Rattle.where_plan.specs.Plans.{place_in}
use Rattle.where_plan.specs.declared.plan.Plan.TheVariants as plan
use Rattle.three_valued.specs.Tables.{joined, three_not}
use Rattle.three_valued.specs.declared.connectives.Join.TheVariants as join
use Rattle.world.specs.Cells.{column_cells}
use Rattle.world.proofs.MapLemmas.{at-insert_other, at-insert_same}
use Rattle.part_meaning.specs.Columns.{PartColumn, column_at}
use Rattle.part_meaning.specs.Known.{known}
use Rattle.part_meaning.specs.Parts.{known_in}
use Rattle.part_meaning.specs.Samples.{a_column, by_4_and_8, null_part, on_spans, pair_part, ten, ten_part, two_columns, two_part}
use Rattle.part_meaning.proofs.PlanLemmas.{Says, says_both, says_not, says_one}

abbrev with_spec : PartColumn → Option Spec → PartColumn
with_spec column spec = record column { spec = spec }

ten_column : (e : EncodingSpec) → column_at a_column (ten_part e) 0 ≡ ten e
unfolding column_at
ten_column e = ap (with_spec (ten e)) (at-insert_same empty 0 (by_4_and_8 e))

-- ---- two columns

abbrev each_value : Spec
each_value = record { binning = binning.Each; encoding = Equality }

abbrev pub pair_at : ℕ → PartColumn
pair_at zero = ten Equality
pair_at (suc col) = record { name = codes "b"; ty = Int; spec = Some each_value; cells = column_cells 1 pair_part.records }

first_column : column_at two_columns pair_part 0 ≡ pair_at 0
unfolding column_at
first_column =
    ap (with_spec (pair_at 0)) (at-insert_other (insert empty 0 (by_4_and_8 Equality)) 1 each_value 0 (λ e. omega (arith, e)))
    ∙ ap (with_spec (pair_at 0)) (at-insert_same empty 0 (by_4_and_8 Equality))

second_column : column_at two_columns pair_part 1 ≡ pair_at 1
unfolding column_at
second_column = ap (with_spec (pair_at 1)) (at-insert_same (insert empty 0 (by_4_and_8 Equality)) 1 each_value)

-- ---- without an index

abbrev pub null_column : PartColumn
null_column = record { name = codes "a"; ty = Int; spec = None; cells = column_cells 0 null_part.records }

abbrev pub two_column : PartColumn
two_column = record { name = codes "a"; ty = Int; spec = None; cells = column_cells 0 two_part.records }

null_at : column_at a_column null_part 0 ≡ null_column
unfolding column_at
null_at = ap (with_spec null_column) (get-empty nat_cmp 0)

two_at : column_at a_column two_part 0 ≡ two_column
unfolding column_at
two_at = ap (with_spec two_column) (get-empty nat_cmp 0)

-- ---- what is said of plans over them

pub ten_says : (e : EncodingSpec) (spans : List (ℤ × ℤ))
    → Says (known_in a_column (ten_part e)) (λ row a. known (ten e) a row) (plan.One (on_spans 0 spans)) (λ row. known (ten e) (on_spans 0 spans) row)
    (on_spans 0 spans ∷ [])
ten_says e spans =
    says_one (known_in a_column (ten_part e)) (λ row a. known (ten e) a row) (on_spans 0 spans)
    (λ row. ap (λ (c : PartColumn). known c (on_spans 0 spans) row) (ten_column e))

pub pair_says : (spans others : List (ℤ × ℤ))
    → Says (known_in two_columns pair_part) (λ row a. known (pair_at (place_in a)) a row)
    (plan.And (plan.One (on_spans 0 spans) ∷ plan.One (on_spans 1 others) ∷ []))
    (λ row. joined join.And (known (pair_at 0) (on_spans 0 spans) row ∷ known (pair_at 1) (on_spans 1 others) row ∷ []))
    (on_spans 0 spans ∷ on_spans 1 others ∷ [])
pair_says spans others =
    says_both (known_in two_columns pair_part) (λ row a. known (pair_at (place_in a)) a row) (on_spans 0 spans) (on_spans 1 others)
    (λ row. ap (λ (c : PartColumn). known c (on_spans 0 spans) row) first_column)
    (λ row. ap (λ (c : PartColumn). known c (on_spans 1 others) row) second_column)

pub null_says : (spans : List (ℤ × ℤ))
    → Says (known_in a_column null_part) (λ row a. known null_column a row) (plan.Not (plan.One (on_spans 0 spans)))
    (λ row. three_not (known null_column (on_spans 0 spans) row)) (on_spans 0 spans ∷ [])
null_says spans =
    says_not (known_in a_column null_part) (λ row a. known null_column a row) (on_spans 0 spans)
    (λ row. ap (λ (c : PartColumn). known c (on_spans 0 spans) row) null_at)

pub two_says : (spans : List (ℤ × ℤ))
    → Says (known_in a_column two_part) (λ row a. known two_column a row) (plan.One (on_spans 0 spans))
    (λ row. known two_column (on_spans 0 spans) row) (on_spans 0 spans ∷ [])
two_says spans =
    says_one (known_in a_column two_part) (λ row a. known two_column a row) (on_spans 0 spans)
    (λ row. ap (λ (c : PartColumn). known c (on_spans 0 spans) row) two_at)
