-- Where a column stands among others.
use Rattle.std.specs.Prelude.{ℕ, Bool, false, List, Option, Some, None, slice_get}
use Rattle.fb_types.specs.declared.schemas.Column.{Column}
use Rattle.dataset.specs.Appended.{is_same_column}

abbrev pub is_same_found : Column → Option Column → Bool
is_same_found wanted None = false
is_same_found wanted (Some column) = is_same_column wanted column

-- the column of that place is there, with this name and type
abbrev pub is_same_at : List Column → ℕ → Column → Bool
is_same_at columns col wanted = is_same_found wanted (slice_get columns col)
