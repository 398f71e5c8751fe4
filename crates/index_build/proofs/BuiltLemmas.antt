-- What the files stand for after a build.
use Rattle.std.proofs.Common.{◌≡◌, ◌⊎◌, inl, inr, ℕ, ℤ, Bool, List, Option, Some, None, Result, Ok, Err, IsSome, length, map, refl, sym, subst, ◌∙◌}
use Rattle.std.specs.FinMap.{insert}
use Rattle.std.proofs.lemmas.List.{length-map}
use Rattle.fb_outside.specs.Files.{Files, PutLeaves, Puts, SameFiles}
use Rattle.fb_types.specs.declared.cells.Cell.{Cell}
use Rattle.fb_types.specs.declared.schemas.Column.{Column}
use Rattle.fb_types.specs.Types.{width_of}
use Rattle.index_spec.specs.Language.{IsGiven}
use Rattle.index_spec.specs.declared.spec.Spec.{Spec}
use Rattle.part_meta.specs.FileNames.{index_name}
use Rattle.part_meta.specs.declared.part.PartMeta.{PartMeta}
use Rattle.world.specs.Cells.{column_cells, dictionary_of, is_present, stored_numbers}
use Rattle.world.specs.Effects.{Builds, after_one}
use Rattle.world.specs.IndexFiles.{HasBitmaps, index_of}
use Rattle.world.specs.PartFiles.{part_data}
use Rattle.world.specs.Stands.{Stands, StandsFor}
use Rattle.world.specs.World.{Partition, World}
use Rattle.world.proofs.BuiltLemmas.{Stands-built}
use Rattle.dataset.specs.InWorld.{IsColumnOf}
use Rattle.dataset.proofs.ColumnLemmas.{has_numbers, has_words}
use Rattle.index_build.specs.declared.fault.BuildFault.{BuildFault}
use Rattle.index_build.specs.declared.writing.Built.{Built}
use Rattle.index_build.specs.Build.{HasRows, LeavesIndex, bin_count}
use Rattle.index_build.specs.Built.{IsBuild, StandsAfter, built_index}

pub rows_in_world : (files : Files) (world : World) (dir : List ℕ) (part : Partition) (col : ℕ) (column : Column) (schema : List Column)
    → Stands files world → IsColumnOf world dir part col column → IsSome (width_of column.ty)
    → HasRows files dir (part_data schema part) column (map is_present (column_cells col part.records))
    (stored_numbers column.ty (column_cells col part.records))
rows_in_world files world dir part col column schema h of some =
    let has = has_numbers files world dir part col column h of some in
    let cells : List Cell = column_cells col part.records in
    let rows : length cells ≡ length part.records = length-map part.records _ in
    record {
      values = has.values;
      present = has.mask;
      fit = has.fit;
      each = has.each_row ∙ rows;
      long = length-map cells is_present ∙ rows;
      words = λ is. (dictionary_of cells, has_words files world dir part col column h of is);
    }

pub stands_built : (files : Files) (world : World) (dir : List ℕ) (part : Partition) (col : ℕ) (column : Column) (spec : Spec)
    → IsBuild world dir part col column spec → Stands files world
    → Stands (insert files (index_name dir part.number column.name) (built_index part col column spec)) (after_one world (Builds dir part.number col spec))
stands_built files world dir part col column spec build h =
    Stands-built files world dir build.of.content build.of.place part col column spec build.of.there build.of.listed build.of.in_schema h
    (record { column = column; in_schema = build.of.in_schema; width = build.width; given = build.given; bitmaps = build.bitmaps })

pub stands_done : (old new : Option Files) (world : World) (dir : List ℕ) (part : Partition) (col : ℕ) (column : Column) (spec : Spec)
    → IsBuild world dir part col column spec → StandsFor old world
    → Puts old new (index_name dir part.number column.name) (built_index part col column spec)
    → StandsFor new (after_one world (Builds dir part.number col spec))
stands_done None new world dir part col column spec build h put = absurd h
stands_done (Some files) new world dir part col column spec build h put =
    subst (λ (told : Option Files). StandsFor told (after_one world (Builds dir part.number col spec))) (sym put)
    (stands_built files world dir part col column spec build h)

pub stands_stopped : (old new : Option Files) (world : World) (dir : List ℕ) (part : Partition) (col : ℕ) (column : Column) (spec : Spec)
    → IsBuild world dir part col column spec → StandsFor old world
    → PutLeaves (index_name dir part.number column.name) (built_index part col column spec) old new
    → StandsFor new world ⊎ StandsFor new (after_one world (Builds dir part.number col spec))
stands_stopped old new world dir part col column spec build h (inl same) = inl (subst (λ (told : Option Files). StandsFor told world) (sym same) h)
stands_stopped old new world dir part col column spec build h (inr put) = inr (stands_done old new world dir part col column spec build h put)

-- where nothing changed
pub stands_same : (r : Result Built BuildFault) (old new : Option Files) (before after : World) → ((built : Built) → r ≡ Ok built → ⊥) → SameFiles old new
    → StandsFor old before → StandsAfter r new before after
stands_same (Ok built) old new before after never same h = absurd (never built refl)
stands_same (Err fault) old new before after never same h = inl (subst (λ (told : Option Files). StandsFor told before) (sym same) h)

module _ (old new : Option Files) (world : World) (dir : List ℕ) (part : Partition) (col : ℕ) (column : Column) (spec : Spec)
    (given : IsGiven spec) (some : IsSome (width_of column.ty)) (h : StandsFor old world) (of : IsColumnOf world dir part col column) where
  abbrev cells : List Cell
  cells = column_cells col part.records

  abbrev Leaves : ℕ → Result Built BuildFault → List Bool → List ℤ → Type 0
  Leaves number r mask numbers =
      LeavesIndex spec.encoding (bin_count spec mask numbers) (index_name dir number column.name) (index_of spec mask numbers) r old new

  can : HasBitmaps spec column.ty cells → IsBuild world dir part col column spec
  can bitmaps = record { of = of; width = some; given = given; bitmaps = bitmaps }

  by_answer : (r : Result Built BuildFault) → Leaves part.number r (map is_present cells) (stored_numbers column.ty cells)
      → StandsAfter r new world (after_one world (Builds dir part.number col spec))
  by_answer (Ok built) put = stands_done old new world dir part col column spec (can put.1) h put.0
  by_answer (Err fault) (inl same) = inl (subst (λ (told : Option Files). StandsFor told world) (sym same) h)
  by_answer (Err fault) (inr put) = inr (stands_done old new world dir part col column spec (can put.1) h put.0)

  pub stands_after : (r : Result Built BuildFault) (meta : PartMeta) (schema : List Column) → meta ≡ part_data schema part
      → ((m : Files) (mask : List Bool) (numbers : List ℤ) → old ≡ Some m → HasRows m dir meta column mask numbers → Leaves meta.number r mask numbers)
      → StandsAfter r new world (after_one world (Builds dir part.number col spec))
  stands_after r meta schema is leaves = by_answer r (found old refl)
    where
      found : (told : Option Files) → old ≡ told → Leaves part.number r (map is_present cells) (stored_numbers column.ty cells)
      found None at = absurd (subst (λ (o : Option Files). StandsFor o world) at h)
      found (Some m) at =
          subst (λ (p : PartMeta). Leaves p.number r (map is_present cells) (stored_numbers column.ty cells)) is
          (leaves m (map is_present cells) (stored_numbers column.ty cells) at
          (subst (λ (p : PartMeta). HasRows m dir p column (map is_present cells) (stored_numbers column.ty cells)) (sym is)
          (rows_in_world m world dir part col column schema (subst (λ (o : Option Files). StandsFor o world) at h) of some)))
