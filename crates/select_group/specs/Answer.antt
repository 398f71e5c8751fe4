-- The rows that a query answers of the chosen records. Of a record there is one cell for each item of the select list:
-- that of the item's column, and null for `count(*)`.
use Rattle.std.specs.Prelude.{ℕ, Bool, if◌then◌else◌, List, [], ◌∷◌, length, map, filter, fold, take, Option, Some, None, ℤ, pos, ◌+ℤ◌, slice_index_or}
use Rattle.std.specs.Int.{int_min, int_max}
use Rattle.std.specs.List.{filter_map}
use Rattle.fb_types.specs.declared.cells.Cell.{Cell}
use Rattle.fb_types.specs.Slots.{whole_in}
use Rattle.fb_types.specs.declared.cells.Cell.TheVariants.{Null}
use Rattle.query_grammar.specs.declared.picking.PickItem.{PickItem}
use Rattle.query_grammar.specs.declared.picking.PickItem.TheVariants as pick
use Rattle.query_grammar.specs.declared.picking.Pick.{Pick}
use Rattle.query_grammar.specs.Picks.{is_total}
use Rattle.select_group.specs.Order.{comes_before, rising_keys, sorted}
use Rattle.select_group.specs.Rows.{cells_eq, first_cell, other_cells, number_cell}

-- ---- groups

-- what makes a group: the cells of the plain items, with null in the place of each other
abbrev pub key_of : List PickItem → List Cell → List Cell
key_of [] cells = []
key_of (i ∷ items) [] = []
key_of (i ∷ items) (c ∷ cells) = (if is_total i then Null else c) ∷ key_of items cells

-- the record is of the group with this key
abbrev pub has_key : List PickItem → List Cell → List Cell → Bool
has_key items key row = cells_eq (key_of items row) key

-- all numbers put together, where there is one
abbrev pub together : (ℤ → ℤ → ℤ) → List ℤ → Option ℤ
together f [] = None
together f (n ∷ numbers) = Some (fold f n numbers)

-- what an item says of the group's cells in its place: `count(*)` their number; the others look at the numbers among
-- them, and are null where there are none
abbrev pub total : PickItem → List Cell → Option ℤ
total (pick.Plain col) cells = None
total pick.CountAll cells = Some (pos (length cells))
total (pick.Least col) cells = together int_min (filter_map whole_in cells)
total (pick.Greatest col) cells = together int_max (filter_map whole_in cells)
total (pick.Sum col) cells = together (λ a b. a +ℤ b) (filter_map whole_in cells)

-- the row of a group: the key's cell for a plain item, and the total of its column for each other
abbrev pub group_row : List PickItem → List (List Cell) → List Cell → List Cell
group_row [] group key = []
group_row (i ∷ items) group [] = []
group_row (i ∷ items) group (c ∷ key) =
    (if is_total i then number_cell (total i (map first_cell group)) else c) ∷ group_row items (map other_cells group) key

-- one row for each key that a record has, in rising order of key
abbrev pub groups_of : List PickItem → List (List Cell) → List (List Cell)
groups_of items rows = map (λ key. group_row items (filter (has_key items key) rows) key) (rising_keys (map (key_of items) rows))

-- ---- the whole

abbrev pub first_rows : Option ℕ → List (List Cell) → List (List Cell)
first_rows None rows = rows
first_rows (Some n) rows = take n rows

-- the records' rows or those of their groups, in the order of the order items, the first of them
abbrev pub answer_of : Pick → List (List Cell) → List (List Cell)
answer_of p rows = first_rows p.limit (sorted (comes_before p.order) (if p.grouped then groups_of p.items rows else rows))
