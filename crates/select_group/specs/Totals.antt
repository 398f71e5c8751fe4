-- The totals of a group with one more record, and how great they are.
use Rattle.std.specs.Prelude.{◌≡◌, ℕ, ◌+◌, ◌*◌, ◌^◌, if◌then◌else◌, List, [], ◌∷◌, length, Option, Some, None, IfSome, option_map, ℤ, pos, neg_ℤ, ◌+ℤ◌, ◌≤ℤ◌}
use Rattle.std.specs.Int.{int_min, int_max}
use Rattle.std.specs.List.{AllByRecursion}
use Rattle.fb_types.specs.declared.cells.Cell.{Cell}
use Rattle.fb_types.specs.Slots.{whole_in}
use Rattle.query_grammar.specs.declared.picking.PickItem.{PickItem}
use Rattle.query_grammar.specs.declared.picking.PickItem.TheVariants as pick
use Rattle.query_grammar.specs.Picks.{is_total}
use Rattle.select_group.specs.Answer.{key_of}
use Rattle.select_group.specs.Gathered.{Groups, totals_at}
use Rattle.select_group.specs.Rows.{cells_eq, number_cell}

-- the numbers of a row in the places of the items that are over a group
abbrev pub numbers_of : List PickItem → List Cell → List (Option ℤ)
numbers_of [] cells = []
numbers_of (i ∷ items) [] = []
numbers_of (i ∷ items) (c ∷ cells) = (if is_total i then whole_in c else None) ∷ numbers_of items cells

abbrev pub both : (ℤ → ℤ → ℤ) → Option ℤ → Option ℤ → Option ℤ
both f None number = number
both f (Some n) None = Some n
both f (Some n) (Some m) = Some (f n m)

-- one record more
abbrev pub counted : Option ℤ → Option ℤ
counted None = Some (pos 1)
counted (Some n) = Some (n +ℤ pos 1)

-- a total with the number of one more record; None before the first
abbrev pub total_with : PickItem → Option ℤ → Option ℤ → Option ℤ
total_with (pick.Plain col) t number = None
total_with pick.CountAll t number = counted t
total_with (pick.Least col) t number = both int_min t number
total_with (pick.Greatest col) t number = both int_max t number
total_with (pick.Sum col) t number = both (λ a b. a +ℤ b) t number

abbrev pub totals_with : List PickItem → List (Option ℤ) → List (Option ℤ) → List (Option ℤ)
totals_with [] ts numbers = []
totals_with (i ∷ items) [] numbers = []
totals_with (i ∷ items) (t ∷ ts) [] = []
totals_with (i ∷ items) (t ∷ ts) (n ∷ numbers) = total_with i t n ∷ totals_with items ts numbers

-- the totals of a group's first record
abbrev pub first_totals : List PickItem → List (Option ℤ) → List (Option ℤ)
first_totals [] numbers = []
first_totals (i ∷ items) [] = []
first_totals (i ∷ items) (n ∷ numbers) = total_with i None n ∷ first_totals items numbers

-- those of a group that has been there or hasn't
abbrev pub grown : List PickItem → Option (List (Option ℤ)) → List (Option ℤ) → List (Option ℤ)
grown items None numbers = first_totals items numbers
grown items (Some ts) numbers = totals_with items ts numbers

-- the totals under this key grown by these numbers, and those under each other key as they were
abbrev pub GrowsAt : List PickItem → List Cell → List (Option ℤ) → Groups → Groups → Type 0
GrowsAt items key numbers old new =
    (q : List Cell) → totals_at new q ≡ (if cells_eq key q then Some (grown items (totals_at old key) numbers) else totals_at old q)

-- the totals of the record's group with it, and of each other group as they were
abbrev pub OneMore : List PickItem → List Cell → Groups → Groups → Type 0
OneMore items cells old new =
    (key : List Cell) → totals_at new key ≡ (if cells_eq (key_of items cells) key then Some (grown items (totals_at old key) (numbers_of items cells)) else totals_at old key)

-- the row of a group
abbrev pub row_of_totals : List PickItem → List Cell → List (Option ℤ) → List Cell
row_of_totals [] key ts = []
row_of_totals (i ∷ items) [] ts = []
row_of_totals (i ∷ items) (c ∷ key) [] = []
row_of_totals (i ∷ items) (c ∷ key) (t ∷ ts) = (if is_total i then number_cell t else c) ∷ row_of_totals items key ts

-- the rows of groups, in their order
abbrev pub rows_of : List PickItem → Groups → List (List Cell)
rows_of items [] = []
rows_of items (g ∷ groups) = row_of_totals items g.0 g.1 ∷ rows_of items groups

-- ---- sizes

-- a cell in the key and a total for each item
abbrev pub HasOneEach : List PickItem → List Cell × List (Option ℤ) → Type 0
HasOneEach items g = (length g.0 ≡ length items) × (length g.1 ≡ length items)

-- a total of n records, whose numbers lie between -2^64 and 2^64
abbrev pub IsWithin : ℕ → ℤ → Type 0
IsWithin n z = (neg_ℤ (pos (n * 2 ^ 64)) ≤ℤ z) × (z ≤ℤ pos (n * 2 ^ 64))

abbrev pub IsTotalWithin : ℕ → Option ℤ → Type 0
IsTotalWithin n t = IfSome t (IsWithin n)

-- One total for each item, each within what so many records can give.
pub record FitsItems (items : List PickItem) (n : ℕ) (key : List Cell) (ts : List (Option ℤ)) : Type 0 where
  pub cells : length key ≡ length items
  pub one_each : length ts ≡ length items
  pub within : AllByRecursion (IsTotalWithin n) ts

-- each group's key and totals fit
abbrev pub AllFit : List PickItem → ℕ → Groups → Type 0
AllFit items n groups = (key : List Cell) → IfSome (totals_at groups key) (FitsItems items n key)
