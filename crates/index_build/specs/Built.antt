-- Builds in a world, and what the files stand for after one.
use Rattle.std.specs.Prelude.{◌⊎◌, ℕ, List, Option, Result, Ok, Err, IsSome}
use Rattle.fb_outside.specs.Files.{Files}
use Rattle.fb_types.specs.declared.schemas.Column.{Column}
use Rattle.fb_types.specs.Types.{width_of}
use Rattle.index_spec.specs.Language.{IsGiven}
use Rattle.index_spec.specs.declared.spec.Spec.{Spec}
use Rattle.world.specs.Cells.{column_cells}
use Rattle.world.specs.IndexFiles.{HasBitmaps, column_index}
use Rattle.world.specs.Stands.{StandsFor}
use Rattle.world.specs.World.{Partition, World}
use Rattle.dataset.specs.InWorld.{IsColumnOf}
use Rattle.index_build.specs.declared.fault.BuildFault.{BuildFault}
use Rattle.index_build.specs.declared.writing.Built.{Built}

-- a column in a part of the world's dataset at the path that can have this index
pub record IsBuild (world : World) (dir : List ℕ) (part : Partition) (col : ℕ) (column : Column) (spec : Spec) : Type 0 where
  pub of : IsColumnOf world dir part col column
  pub width : IsSome (width_of column.ty)
  pub given : IsGiven spec
  pub bitmaps : HasBitmaps spec column.ty (column_cells col part.records)

-- the bytes of that index
abbrev pub built_index : Partition → ℕ → Column → Spec → List ℕ
built_index part col column spec = column_index spec column.ty (column_cells col part.records)

-- Once a build is done the files stand for the world after it; where it stopped, for that or the world before.
abbrev pub StandsAfter : Result Built BuildFault → Option Files → (before after : World) → Type 0
StandsAfter (Ok built) files before after = StandsFor files after
StandsAfter (Err fault) files before after = StandsFor files before ⊎ StandsFor files after
