-- Why a query selects nothing under a schema: the first item that doesn't fit.
use Rattle.std.specs.Prelude.{◌≡◌, ℕ, is_some, if◌then◌else◌, List, [], ◌∷◌, ◌++◌, map, Option, Some, None, Result, IfErr}
use Rattle.std.specs.List.{list_any}
use Rattle.answers.specs.Answers.{Tells}
use Rattle.fb_types.specs.declared.schemas.Column.{Column}
use Rattle.fb_types.specs.declared.types.ColType.{ColType}
use Rattle.fb_types.specs.Schemas.{place_of}
use Rattle.fb_types.specs.Types.{ends_of}
use Rattle.query_grammar.specs.declared.query.Item.{Item}
use Rattle.query_grammar.specs.declared.query.Item.TheVariants as item
use Rattle.query_grammar.specs.declared.query.OrderItem.{OrderItem}
use Rattle.query_grammar.specs.declared.query.Query.{Query}
use Rattle.query_grammar.specs.declared.picking.SelectKind.{SelectKind}
use Rattle.query_grammar.specs.declared.picking.SelectKind.TheVariants as kind
use Rattle.query_grammar.specs.declared.picking.SelectFault.{SelectFault}
use Rattle.query_grammar.specs.declared.picking.SelectFault.TheVariants as fault
use Rattle.query_grammar.specs.Picks.{column_named, same_item}

-- the schema has no column of the name
abbrev pub unknown_refusal : List Column → List ℕ → Option SelectKind
unknown_refusal columns name = if is_some (place_of columns name) then None else Some (kind.Unknown name)

-- the schema has no column of the name, or one that isn't of whole numbers
abbrev pub number_refusal : List Column → List ℕ → Option SelectKind
number_refusal columns name = refusal_at (column_named columns name)
  where
    refusal_at : Option (ℕ × ColType) → Option SelectKind
    refusal_at None = Some (kind.Unknown name)
    refusal_at (Some found) = if is_some (ends_of found.1) then None else Some (kind.WrongType name)

abbrev pub item_refusal : List Column → Item → Option SelectKind
item_refusal columns (item.Plain name) = unknown_refusal columns name
item_refusal columns item.CountAll = None
item_refusal columns (item.Least name) = number_refusal columns name
item_refusal columns (item.Greatest name) = number_refusal columns name
item_refusal columns (item.Sum name) = number_refusal columns name

-- the order item isn't in the select list
abbrev pub order_refusal : List Item → OrderItem → Option SelectKind
order_refusal items by = if list_any (same_item by.item) items then None else Some kind.NotSelected

-- the first that is there
abbrev pub first_some : {A : Type 0} → List (Option A) → Option A
first_some [] = None
first_some (None ∷ rest) = first_some rest
first_some (Some x ∷ rest) = Some x

abbrev pub list_refusal : List Column → Option (List Item) → List OrderItem → Option SelectKind
list_refusal columns None order = None
list_refusal columns (Some items) order = first_some (map (item_refusal columns) items ++ map (order_refusal items) order)

-- the refusal of the first item that doesn't fit, and then of the first order item
abbrev pub select_refusal : List Column → Query → Option SelectKind
select_refusal columns q = list_refusal columns q.select q.order

-- the refusal that a fault tells of a query; want of memory tells none
abbrev pub refusal : SelectFault → Option SelectKind
refusal (fault.Bad k) = Some k
refusal fault.OutOfMemory = None

-- a refusal that is answered is this one
abbrev pub TellsRefusal : {T : Type 0} → Option SelectKind → Result T SelectFault → Type 0
TellsRefusal told result = IfErr result (Tells refusal (λ k. told ≡ Some k))
