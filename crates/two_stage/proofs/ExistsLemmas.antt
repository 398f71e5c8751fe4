-- `exists` needs no bitmap, since the mask answers it.
use Rattle.std.proofs.Common.{◌≡◌, ℕ, List, [], map, Option, Some, None, refl, ap, ◌∙◌}
use Rattle.index_spec.specs.declared.spec.Spec.{Spec}
use Rattle.index_file.specs.Places.{bitmap_look}
use Rattle.part_meta.specs.FileNames.{index_name}
use Rattle.where_plan.specs.declared.plan.PlanAtom.TheVariants as atom
use Rattle.bin_answers.specs.BinRuns.{runs_from}
use Rattle.part_meaning.specs.Bitmaps.{bins_say, bitmap_looks, index_places, looks_under, needed_of, needed_under}
use Rattle.part_meaning.specs.Columns.{PartColumn}

needed_none : (o : Option Spec) (column : PartColumn) (col : ℕ) → needed_under o column (atom.Exists col) ≡ []
unfolding bins_say runs_from
needed_none None column col = refl
needed_none (Some spec) column col = refl

looks_none : (o : Option Spec) (index : List ℕ) (column : PartColumn) (col : ℕ) → looks_under o index column (atom.Exists col) ≡ []
unfolding needed_of
looks_none None index column col = refl
looks_none (Some spec) index column col = ap (λ l. map (bitmap_look index (index_places spec column)) l) (needed_none column.spec column col)

pub exists_looks : (dir : List ℕ) (number : ℕ) (column : PartColumn) (col : ℕ) → bitmap_looks dir number column (atom.Exists col) ≡ []
unfolding bitmap_looks
exists_looks dir number column col = looks_none column.spec (index_name dir number column.name) column col
