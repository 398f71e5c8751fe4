-- Rows in the order of a query, and the keys of groups in theirs.
use Rattle.std.specs.Prelude.{ℕ, Bool, if◌then◌else◌, List, [], ◌∷◌, slice_index_or}
use Rattle.std.specs.Ordering.{is_lt, ordering_reverse, ordering_then}
use Rattle.std.specs.BTreeSet.{insert_key}
use Rattle.std.specs.declared.cmp.Ordering.{Ordering}
use Rattle.std.specs.declared.cmp.Ordering.TheVariants.{Equal}
use Rattle.fb_types.specs.declared.cells.Cell.{Cell}
use Rattle.fb_types.specs.declared.cells.Cell.TheVariants.{Null}
use Rattle.query_grammar.specs.declared.picking.OrderPlace.{OrderPlace}
use Rattle.select_group.specs.Rows.{cell_cmp, cells_cmp}

-- ---- keys

-- the keys of a list in rising order, each once
abbrev pub rising_keys : List (List Cell) → List (List Cell)
rising_keys [] = []
rising_keys (key ∷ keys) = insert_key cells_cmp (rising_keys keys) key

-- ---- rows

-- the greatest comes first, or the least
abbrev pub in_direction : Bool → Ordering → Ordering
in_direction down by = if down then ordering_reverse by else by

-- by the cells in the places of the order, the first two that differ decide
abbrev pub row_cmp : List OrderPlace → List Cell → List Cell → Ordering
row_cmp [] a b = Equal
row_cmp (by ∷ order) a b =
    ordering_then (in_direction by.down (cell_cmp (slice_index_or a by.place Null) (slice_index_or b by.place Null))) (row_cmp order a b)

abbrev pub comes_before : List OrderPlace → List Cell → List Cell → Bool
comes_before order a b = is_lt (row_cmp order a b)

-- ---- sorting

-- x put into a list in order, behind those that come before it
abbrev pub put_in : {X : Type 0} → (X → X → Bool) → X → List X → List X
put_in before x [] = x ∷ []
put_in before x (y ∷ ys) = if before y x then y ∷ put_in before x ys else x ∷ y ∷ ys

-- a list in order; those that tie stay in theirs
abbrev pub sorted : {X : Type 0} → (X → X → Bool) → List X → List X
sorted before [] = []
sorted before (x ∷ xs) = put_in before x (sorted before xs)
