-- Columns and parts of a few rows, on which the definitions are computed.
use Rattle.std.specs.Prelude.{ℕ, ℤ, pos, negsuc, ◌-ℤ◌, List, [], ◌∷◌, Option, Some, map}
use Rattle.std.specs.FinMap.{empty, insert}
use lib.Chars.{codes}
use Rattle.fb_outside.specs.Reads.{Look}
use Rattle.fb_types.specs.declared.cells.Cell.TheVariants.{Null, Whole, Word}
use Rattle.fb_types.specs.declared.schemas.Column.{Column}
use Rattle.fb_types.specs.declared.types.ColType.TheVariants.{Int, Category}
use Rattle.index_spec.specs.declared.spec.Binning.TheVariants as binning
use Rattle.index_spec.specs.declared.spec.EncodingSpec.{EncodingSpec}
use Rattle.index_spec.specs.declared.spec.EncodingSpec.TheVariants.{Equality}
use Rattle.index_spec.specs.declared.spec.Spec.{Spec}
use Rattle.where_grammar.specs.declared.clause.Atom.TheVariants as condition
use Rattle.where_plan.specs.declared.plan.PlanAtom.{PlanAtom}
use Rattle.where_plan.specs.declared.plan.PlanAtom.TheVariants as atom
use Rattle.where_plan.specs.SpansOf.{span}
use Rattle.world.specs.World.{Partition}
use Rattle.part_meaning.specs.Columns.{PartColumn}

-- ---- the numbers 1 to 10, in bins below 4, from 4 to 7, and from 8 on

abbrev pub one_to_ten : List ℕ
one_to_ten = 1 ∷ 2 ∷ 3 ∷ 4 ∷ 5 ∷ 6 ∷ 7 ∷ 8 ∷ 9 ∷ 10 ∷ []

abbrev pub by_4_and_8 : EncodingSpec → Spec
by_4_and_8 encoding = record { binning = binning.Bounds (pos 4 ∷ pos 8 ∷ []); encoding = encoding }

abbrev pub ten : EncodingSpec → PartColumn
ten encoding = record { name = codes "a"; ty = Int; spec = Some (by_4_and_8 encoding); cells = map (λ n. Whole (pos n)) one_to_ten }

abbrev pub int_column : List ℕ → Column
int_column name = record { name = name; ty = Int }

abbrev pub a_column : List Column
a_column = int_column (codes "a") ∷ []

abbrev pub two_columns : List Column
two_columns = int_column (codes "a") ∷ int_column (codes "b") ∷ []

-- the same as a part of one column
abbrev pub ten_part : EncodingSpec → Partition
ten_part encoding =
    record { number = 0; records = map (λ n. Whole (pos n) ∷ []) one_to_ten; specs = insert empty 0 (by_4_and_8 encoding) }

-- with a second column, of 1 where the first is 8 and 0 elsewhere, in a bin for each
abbrev pub pair_part : Partition
pair_part = record {
  number = 0;
  records = map (λ (p : ℕ × ℕ). Whole (pos p.0) ∷ Whole (pos p.1) ∷ [])
      ((1, 0) ∷ (2, 0) ∷ (3, 0) ∷ (4, 0) ∷ (5, 0) ∷ (6, 0) ∷ (7, 0) ∷ (8, 1) ∷ (9, 0) ∷ (10, 0) ∷ []);
  specs = insert (insert empty 0 (by_4_and_8 Equality)) 1 (record { binning = binning.Each; encoding = Equality });
}

-- 3, null and 5 without an index
abbrev pub null_part : Partition
null_part = record { number = 0; records = (Whole (pos 3) ∷ []) ∷ (Null ∷ []) ∷ (Whole (pos 5) ∷ []) ∷ []; specs = empty }

-- 5000 and 7 without an index
abbrev pub two_part : Partition
two_part = record { number = 1; records = (Whole (pos 5000) ∷ []) ∷ (Whole (pos 7) ∷ []) ∷ []; specs = empty }

-- the words `x`, none, `yy`, `x` and `z`, whose codes are 1, 0, 2, 1 and 3
abbrev pub words_column : Option Spec → PartColumn
words_column spec = record {
  name = codes "c";
  ty = Category;
  spec = spec;
  cells = Word (codes "x") ∷ Null ∷ Word (codes "yy") ∷ Word (codes "x") ∷ Word (codes "z") ∷ [];
}

-- ---- conditions

-- the spans, by their ends, of the numbers that a condition on the column at a place asks for
abbrev pub on_spans : ℕ → List (ℤ × ℤ) → PlanAtom
on_spans col spans = atom.Whole col (map (λ (s : ℤ × ℤ). span s.0 s.1) spans)

abbrev pub least_int : ℤ
least_int = negsuc 2147483647

abbrev pub greatest_int : ℤ
greatest_int = pos 2147483647

-- `3 < a < 9`
abbrev pub from_4_to_8 : PlanAtom
from_4_to_8 = on_spans 0 ((pos 4, pos 8) ∷ [])

-- `a in (4, 5, 6, 7)`
abbrev pub from_4_to_7 : PlanAtom
from_4_to_7 = on_spans 0 ((pos 4, pos 7) ∷ [])

-- `a < 4`, `a < 5` and `a < 9`
abbrev pub below : ℕ → PlanAtom
below n = on_spans 0 ((least_int, pos n -ℤ pos 1) ∷ [])

-- `a = 5`, `a != 5` and `a >= 5`
abbrev pub is_5 : PlanAtom
is_5 = on_spans 0 ((pos 5, pos 5) ∷ [])

abbrev pub isnt_5 : PlanAtom
isnt_5 = on_spans 0 ((least_int, pos 4) ∷ (pos 6, greatest_int) ∷ [])

abbrev pub from_5 : PlanAtom
from_5 = on_spans 0 ((pos 5, greatest_int) ∷ [])

-- `b = 1`
abbrev pub b_is_1 : PlanAtom
b_is_1 = on_spans 1 ((pos 1, pos 1) ∷ [])

-- `a >= 1024`
abbrev pub from_1024 : PlanAtom
from_1024 = on_spans 0 ((pos 1024, greatest_int) ∷ [])

-- each number of the type
abbrev pub any_number : PlanAtom
any_number = on_spans 0 ((least_int, greatest_int) ∷ [])

-- `c = 'x'` and the like, and `c != 'q'`
abbrev pub is_word : List ℕ → PlanAtom
is_word word = atom.Word 0 (condition.Same (codes "c") word)

abbrev pub isnt_word : List ℕ → PlanAtom
isnt_word word = atom.Word 0 (condition.Other (codes "c") word)

-- ---- reads

abbrev pub look : List ℕ → ℕ → ℕ → Look
look name offset room = record { name = name; offset = offset; room = room }
