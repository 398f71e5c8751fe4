-- The ends between which the values of a column lie are numbers of 128 bits, and stay the same as such.
use Rattle.std.proofs.Common.{◌≡◌, ℕ, ◌<◌, List, length, Option, Some, IfSome, ℤ, pos, to_z, of_z, FitsSigned, ap, subst, ◌∙◌, arith}
use Rattle.std.specs.Int.{w128}
use Rattle.std.proofs.lemmas.Int.{ints, to_z-of_z, to_z_pos}
use Rattle.fb_outside.specs.Files.{Files}
use Rattle.fb_types.specs.declared.types.ColType.{ColType}
use Rattle.fb_types.specs.declared.types.ColType.TheVariants.{Byte, UByte, Short, UShort, Int, UInt, Long, ULong, Category, Text}
use Rattle.fb_types.specs.Types.{ends_of}
use Rattle.where_plan.specs.SpansOf.{span}
use Rattle.world.specs.Cells.{dictionary_of}
use Rattle.part_meaning.specs.Columns.{PartColumn, ends_in}
use Rattle.two_stage.specs.ColumnFiles.{HasColumn}
use Rattle.two_stage.specs.Placed.{Placed}
use Rattle.two_stage.proofs.AnswerLemmas.{number_ends, word_ends}

abbrev AreWide : ℤ × ℤ → Type 0
AreWide ends = FitsSigned w128 ends.0 × FitsSigned w128 ends.1

of_type : (ty : ColType) → IfSome (ends_of ty) AreWide
of_type Byte = (record { sfits = omega (arith, ints) }, record { sfits = omega (arith, ints) })
of_type UByte = (record { sfits = omega (arith, ints) }, record { sfits = omega (arith, ints) })
of_type Short = (record { sfits = omega (arith, ints) }, record { sfits = omega (arith, ints) })
of_type UShort = (record { sfits = omega (arith, ints) }, record { sfits = omega (arith, ints) })
of_type Int = (record { sfits = omega (arith, ints) }, record { sfits = omega (arith, ints) })
of_type UInt = (record { sfits = omega (arith, ints) }, record { sfits = omega (arith, ints) })
of_type Long = (record { sfits = omega (arith, ints) }, record { sfits = omega (arith, ints) })
of_type ULong = (record { sfits = omega (arith, ints) }, record { sfits = omega (arith, ints) })
of_type Category = tt
of_type Text = tt

are_wide : (ty : ColType) (least greatest : ℤ) → ends_of ty ≡ Some (least, greatest) → FitsSigned w128 least × FitsSigned w128 greatest
are_wide ty least greatest e = subst (λ (o : Option (ℤ × ℤ)). IfSome o AreWide) e (of_type ty)

pub numbers_between : (files : Option Files) (p : Placed) (column : PartColumn) (least greatest : ℤ) → HasColumn files p column → ends_of p.column.ty ≡ Some (least, greatest)
    → span (to_z w128 (of_z w128 least)) (to_z w128 (of_z w128 greatest)) ≡ ends_in column.ty column.cells
numbers_between files p column least greatest has e =
    let wide = are_wide p.column.ty least greatest e in
    ap (λ (z : ℤ). span z (to_z w128 (of_z w128 greatest))) (to_z-of_z w128 least wide.0)
    ∙ ap (λ (z : ℤ). span least z) (to_z-of_z w128 greatest wide.1)
    ∙ number_ends files p column least greatest has e

pub codes_between : (files : Option Files) (p : Placed) (column : PartColumn) (words : List (List ℕ)) (last : ℤ) → HasColumn files p column → p.column.ty ≡ Category
    → words ≡ dictionary_of column.cells → last ≡ pos (length words) → length words < 4294967296
    → span (pos 1) (to_z w128 (of_z w128 last)) ≡ ends_in column.ty column.cells
codes_between files p column words last has ty same is few =
    ap (λ (z : ℤ). span (pos 1) (to_z w128 (of_z w128 z))) is
    ∙ ap (λ (z : ℤ). span (pos 1) z) (to_z_pos w128 (length words) (omega (arith, few)))
    ∙ word_ends files p column words has ty same
