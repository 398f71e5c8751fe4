-- What a request for indexes reads.
use Rattle.std.specs.Prelude.{◌≡◌, ◌⊎◌, ℕ, List, Option, Some, None, slice_get}
use Rattle.fb_outside.specs.Reads.{Look}
use Rattle.fb_types.specs.declared.schemas.Column.{Column}
use Rattle.fb_types.specs.Names.{IsColumnName}
use Rattle.fb_types.specs.SchemaText.{SpellsName, items_of}
use Rattle.dataset.specs.Opened.{IsTextLook}
use Rattle.dataset.specs.declared.content.Dataset.{Dataset}
use Rattle.index_build.specs.Build.{IsColumnLook}
use Rattle.ibis_build.specs.Causes.{IsAmong}

-- a piece of the list spells this name
pub record IsListed (list name : List ℕ) : Type 0 where
  pub place : ℕ
  pub piece : List ℕ
  pub there : slice_get (items_of list) place ≡ Some piece
  pub spells : SpellsName piece name

-- the name of a column that is asked for: one that the list has, or any where there is no list
abbrev pub IsAskedName : (list : Option (List ℕ)) → List ℕ → Type 0
IsAskedName None name = IsColumnName name
IsAskedName (Some list) name = IsListed list name

-- at the values or the mask of such a column in a part, or at its dictionary where it is a category
pub record IsAskedLook (dir : List ℕ) (list : Option (List ℕ)) (look : Look) : Type 0 where
  pub column : Column
  pub asked : IsAskedName list column.name
  pub file : IsColumnLook dir column look

-- the texts of the dataset, and the columns that are asked for
abbrev pub IsBuildLook : (dir : List ℕ) → (list : Option (List ℕ)) → Look → Type 0
IsBuildLook dir list look = IsTextLook dir look ⊎ IsAskedLook dir list look

-- ---- the steps: the columns at these places

pub record IsLookAmong (dataset : Dataset) (cols : List ℕ) (look : Look) : Type 0 where
  pub column : Column
  pub among : IsAmong dataset.schema cols column
  pub file : IsColumnLook dataset.dir column look
