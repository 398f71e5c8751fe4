-- What a part means to conditions, and which files have it.
use Rattle.std.specs.Prelude.{◌≡◌, ℕ, not, List, length, Option, IsSomeAnd}
use Rattle.fb_outside.specs.Files.{Files}
use Rattle.fb_types.specs.declared.schemas.Column.{Column}
use Rattle.part_meta.specs.declared.part.PartMeta.{PartMeta}
use Rattle.where_grammar.specs.Holds.{is_there}
use Rattle.where_plan.specs.Plans.{place_in}
use Rattle.where_plan.specs.PlanHolds.{cell_at, plan_atom_holds}
use Rattle.stages.specs.Meaning.{Meaning}
use Rattle.world.specs.PartFiles.{part_data}
use Rattle.world.specs.Stands.{PartRests}
use Rattle.world.specs.World.{IsPartition, Partition}
use Rattle.part_meaning.specs.Parts.{column_for, is_bitmap_in, known_in, record_of}
use Rattle.part_meaning.specs.Bitmaps.{bitmap_looks, work_of}
use Rattle.part_meaning.specs.Files.{is_free_of, is_of_rows}

-- what a part of that schema means, whose files are under the path
abbrev pub meaning_of : List ℕ → List Column → Partition → Meaning
meaning_of dir schema part = record {
  rows = length part.records;
  answer = known_in schema part;
  truth = λ row condition. plan_atom_holds condition (record_of part row);
  is_null = λ row condition. not (is_there (cell_at (record_of part row) (place_in condition)));
  fetched = λ condition. bitmap_looks dir part.number (column_for schema part condition) condition;
  is_bitmap = is_bitmap_in dir schema part;
  is_free = λ condition. is_free_of dir part.number (column_for schema part condition);
  covers = λ condition. is_of_rows dir part.number (column_for schema part condition);
  work = λ condition. work_of (column_for schema part condition) condition;
}

-- ---- which files have it

-- The files under the path, which are told, rest for this part, and the part's text is of it.
pub record IsPartAt (files : Option Files) (dir : List ℕ) (meta : PartMeta) (part : Partition) : Type 0 where
  pub is : meta ≡ part_data meta.schema part
  pub valid : IsPartition meta.schema part
  pub rests : IsSomeAnd files (λ m. PartRests m dir meta.schema part)

-- what the files mean: what the part does that they rest for
pub record Means (files : Option Files) (dir : List ℕ) (meta : PartMeta) (m : Meaning) : Type 0 where
  pub part : Partition
  pub has : IsPartAt files dir meta part
  pub meant : m ≡ meaning_of dir meta.schema part
