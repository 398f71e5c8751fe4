-- What a part means to conditions is sound.
use Rattle.std.proofs.Common.{◌≡◌, ℕ, Bool, true, false, not, List, length, refl, ap, ◌∙◌}
use Rattle.fb_types.specs.declared.schemas.Column.{Column}
use Rattle.where_grammar.specs.Holds.{is_there}
use Rattle.where_plan.specs.Plans.{FitsColumn, place_in}
use Rattle.where_plan.specs.PlanHolds.{cell_at}
use Rattle.stages.specs.Meaning.{IsMeaningOf}
use Rattle.world.specs.World.{IsPartition, Partition}
use Rattle.part_meaning.specs.Meaning.{meaning_of}
use Rattle.part_meaning.specs.Parts.{column_for, record_of}
use Rattle.part_meaning.proofs.ColumnLemmas.{cell_is, is_column}
use Rattle.part_meaning.proofs.KnownLemmas.{null_no, record_sound}

not_true : (b : Bool) → not b ≡ true → b ≡ false
not_true true h = absurd cc
not_true false h = refl

pub is_meaning : (dir : List ℕ) (schema : List Column) (part : Partition) → IsPartition schema part
    → IsMeaningOf (length part.records) (FitsColumn schema) (meaning_of dir schema part)
is_meaning dir schema part valid = record {
  all = refl;
  sound = λ row condition below fits. record_sound schema part row condition valid fits;
  nulls = λ row condition below fits absent.
      null_no (column_for schema part condition) row (is_column schema part (place_in condition) valid) condition
      (ap is_there (cell_is schema part (place_in condition) row)
      ∙ not_true (is_there (cell_at (record_of part row) (place_in condition))) absent);
}
