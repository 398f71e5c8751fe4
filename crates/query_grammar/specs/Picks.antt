-- What a query selects, under a schema.
use Rattle.std.specs.Prelude.{◌≡◌, ◌<◌, ℕ, Bool, true, false, is_some, List, [], ◌∷◌, length, Option, Some, None, option_map, slice_get, position}
use Rattle.std.specs.List.{AllByRecursion, AllZip, list_any}
use Rattle.std.specs.Option.{option_and_then}
use Rattle.std.specs.Str.{bytes_eq}
use Rattle.fb_types.specs.declared.schemas.Column.{Column}
use Rattle.fb_types.specs.declared.types.ColType.{ColType}
use Rattle.fb_types.specs.Schemas.{place_of}
use Rattle.fb_types.specs.Types.{ends_of}
use Rattle.query_grammar.specs.declared.query.Item.{Item}
use Rattle.query_grammar.specs.declared.query.Item.TheVariants as item
use Rattle.query_grammar.specs.declared.query.OrderItem.{OrderItem}
use Rattle.query_grammar.specs.declared.query.Query.{Query}
use Rattle.query_grammar.specs.declared.picking.PickItem.{PickItem}
use Rattle.query_grammar.specs.declared.picking.PickItem.TheVariants as pick
use Rattle.query_grammar.specs.declared.picking.OrderPlace.{OrderPlace}
use Rattle.query_grammar.specs.declared.picking.Pick.{Pick}

-- ---- items

abbrev pub is_aggregate : Item → Bool
is_aggregate (item.Plain name) = false
is_aggregate item.CountAll = true
is_aggregate (item.Least name) = true
is_aggregate (item.Greatest name) = true
is_aggregate (item.Sum name) = true

-- both show the same
abbrev pub same_item : Item → Item → Bool
same_item (item.Plain name) (item.Plain other) = bytes_eq name other
same_item item.CountAll item.CountAll = true
same_item (item.Least name) (item.Least other) = bytes_eq name other
same_item (item.Greatest name) (item.Greatest other) = bytes_eq name other
same_item (item.Sum name) (item.Sum other) = bytes_eq name other
same_item _ _ = false

-- the place and the type of the column of that name
abbrev pub column_named : List Column → List ℕ → Option (ℕ × ColType)
column_named columns name = option_and_then (λ col. option_map (λ column. (col, column.ty)) (slice_get columns col)) (place_of columns name)

-- the column of that name stands there and is one of whole numbers
pub record IsOfNumbers (columns : List Column) (name : List ℕ) (col : ℕ) : Type 0 where
  pub ty : ColType
  pub named : column_named columns name ≡ Some (col, ty)
  pub number : is_some (ends_of ty) ≡ true

-- an item with its column's place for the name
abbrev pub IsPicked : List Column → Item → PickItem → Type 0
IsPicked columns (item.Plain name) (pick.Plain col) = place_of columns name ≡ Some col
IsPicked columns item.CountAll pick.CountAll = Unit {0}
IsPicked columns (item.Least name) (pick.Least col) = IsOfNumbers columns name col
IsPicked columns (item.Greatest name) (pick.Greatest col) = IsOfNumbers columns name col
IsPicked columns (item.Sum name) (pick.Sum col) = IsOfNumbers columns name col
IsPicked columns _ _ = ⊥

abbrev pub ArePicked : List Column → List Item → List PickItem → Type 0
ArePicked columns items picks = AllZip (IsPicked columns) items picks

-- ---- orders

-- the first place of the select list that shows the order item, and the direction
abbrev pub IsPlaced : List Item → OrderItem → OrderPlace → Type 0
IsPlaced items by at = (position (same_item by.item) items ≡ Some at.place) × (at.down ≡ by.down)

abbrev pub ArePlaced : List Item → List OrderItem → List OrderPlace → Type 0
ArePlaced items order places = AllZip (IsPlaced items) order places

-- ---- the whole

pub record IsPick (columns : List Column) (items : List Item) (order : List OrderItem) (limit : Option ℕ) (p : Pick) : Type 0 where
  pub items_picked : ArePicked columns items p.items
  pub order_placed : ArePlaced items order p.order
  pub same_limit : p.limit ≡ limit
  pub groups : p.grouped ≡ list_any is_aggregate items

abbrev pub IsPickIn : List Column → Option (List Item) → List OrderItem → Option ℕ → Option Pick → Type 0
IsPickIn columns None order limit None = Unit {0}
IsPickIn columns None order limit (Some p) = ⊥
IsPickIn columns (Some items) order limit None = ⊥
IsPickIn columns (Some items) order limit (Some p) = IsPick columns items order limit p

-- what the query selects; None exactly where it has no select list
abbrev pub IsPickOf : List Column → Query → Option Pick → Type 0
IsPickOf columns q picked = IsPickIn columns q.select q.order q.limit picked

-- ---- picks by themselves

abbrev pub is_total : PickItem → Bool
is_total (pick.Plain col) = false
is_total pick.CountAll = true
is_total (pick.Least col) = true
is_total (pick.Greatest col) = true
is_total (pick.Sum col) = true

-- the order names places of the items, and groups are made exactly where an item is over a group
pub record IsSoundPick (p : Pick) : Type 0 where
  pub within : AllByRecursion (λ at. at.place < length p.items) p.order
  pub groups : p.grouped ≡ list_any is_total p.items
