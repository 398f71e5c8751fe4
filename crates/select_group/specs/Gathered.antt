-- What a grouper keeps of records, and when it is that of these records.
use Rattle.std.specs.Prelude.{◌≡◌, ℕ, ◌+◌, ◌-◌, ◌*◌, ◌^◌, ◌≤◌, Bool, true, false, if◌then◌else◌, List, [], ◌∷◌, length, map, filter, Option, Some, None, IfSome, ℤ, pos, ◌+ℤ◌, neg_ℤ, ◌≤ℤ◌}
use Rattle.std.specs.Int.{int_min, int_max}
use Rattle.std.specs.List.{AllByRecursion}
use Rattle.std.specs.Map.{lookup}
use Rattle.fb_types.specs.declared.cells.Cell.{Cell}
use Rattle.fb_types.specs.Slots.{whole_in}
use Rattle.fb_types.specs.declared.cells.Cell.TheVariants.{Null, Whole, Word}
use Rattle.query_grammar.specs.declared.picking.PickItem.{PickItem}
use Rattle.query_grammar.specs.declared.picking.PickItem.TheVariants as pick
use Rattle.query_grammar.specs.declared.picking.Pick.{Pick}
use Rattle.query_grammar.specs.Picks.{is_total}
use Rattle.select_group.specs.Answer.{has_key, total}
use Rattle.select_group.specs.Rows.{cells_eq, first_cell, other_cells}

-- keys, each with the totals of its group
abbrev pub Groups : Type 0
Groups = List (List Cell × List (Option ℤ))

-- the totals of the group with this key
abbrev pub totals_at : Groups → List Cell → Option (List (Option ℤ))
totals_at groups key = lookup (cells_eq key) groups

-- the selection, how many records were added, the rows where there are no groups, and the totals of each group
pub record Held : Type 0 where
  pub pick : Pick
  pub added : ℕ
  pub rows : List (List Cell)
  pub groups : Groups

-- ---- records that can be added

-- a number between -2^63 and 2^64 - 1
abbrev pub IsSmall : ℤ → Type 0
IsSmall n = (neg_ℤ (pos (2 ^ 63)) ≤ℤ n) × (n ≤ℤ pos (2 ^ 64 - 1))

abbrev pub number_is_small : Cell → Type 0
number_is_small c = IfSome (whole_in c) IsSmall

-- one cell for each item, and numbers that are those of some column
pub record CanBeAdded (items : List PickItem) (cells : List Cell) : Type 0 where
  pub one_each : length cells ≡ length items
  pub small : AllByRecursion number_is_small cells

-- ---- totals

-- the totals of a group, one for each item
abbrev pub totals : List PickItem → List (List Cell) → List (Option ℤ)
totals [] group = []
totals (i ∷ items) group = total i (map first_cell group) ∷ totals items (map other_cells group)

-- those of a group that has a record
abbrev pub totals_if : List PickItem → List (List Cell) → Option (List (Option ℤ))
totals_if items [] = None
totals_if items (row ∷ group) = Some (totals items (row ∷ group))

-- under each key, those of the records that have it
abbrev pub AreGroupsOf : List PickItem → Groups → List (List Cell) → Type 0
AreGroupsOf items groups rows = (key : List Cell) → totals_at groups key ≡ totals_if items (filter (has_key items key) rows)

abbrev pub SameTotals : Groups → Groups → Type 0
SameTotals old new = (key : List Cell) → totals_at new key ≡ totals_at old key

-- What is kept is that of these records.
pub record Gathered (held : Held) (rows : List (List Cell)) : Type 0 where
  pub added : held.added ≡ length rows
  pub kept : held.pick.grouped ≡ false → held.rows ≡ rows
  pub groups : held.pick.grouped ≡ true → AreGroupsOf held.pick.items held.groups rows
