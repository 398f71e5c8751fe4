-- The grammar of queries, over tokens.
use Rattle.std.specs.Prelude.{◌≡◌, ℕ, Bool, true, false, List, [], ◌∷◌, ◌++◌, Option, Some, None, ℤ, codes}
use Rattle.fb_types.specs.Names.{column_name}
use Rattle.where_grammar.specs.declared.clause.Clause.{Clause}
use Rattle.where_grammar.specs.declared.token.Sign.TheVariants as sign
use Rattle.where_grammar.specs.declared.token.Token.{Token}
use Rattle.where_grammar.specs.declared.token.Token.TheVariants as t
use Rattle.where_grammar.specs.Grammar.{IsClause, closing, comma, keyword, opening}
use Rattle.query_grammar.specs.declared.query.Item.{Item}
use Rattle.query_grammar.specs.declared.query.Item.TheVariants as item
use Rattle.query_grammar.specs.declared.query.OrderItem.{OrderItem}
use Rattle.query_grammar.specs.declared.query.Asked.{Asked}

-- ---- items

abbrev pub star : Token
star = t.Sign sign.Star

-- a name behind a word, in parentheses
abbrev pub called : List ℕ → List ℕ → List Token
called word name = keyword word ∷ opening ∷ t.Word name ∷ closing ∷ []

pub data IsItem : Item → List Token → Type 0 where
  plain : (word name : List ℕ) → column_name word ≡ Some name → IsItem (item.Plain name) (t.Word word ∷ [])
  counted : IsItem item.CountAll (keyword (codes "count") ∷ opening ∷ star ∷ closing ∷ [])
  least : (word name : List ℕ) → column_name word ≡ Some name → IsItem (item.Least name) (called (codes "min") word)
  greatest : (word name : List ℕ) → column_name word ≡ Some name → IsItem (item.Greatest name) (called (codes "max") word)
  summed : (word name : List ℕ) → column_name word ≡ Some name → IsItem (item.Sum name) (called (codes "sum") word)

abbrev pub ordered_by : Item → Bool → OrderItem
ordered_by i down = record { item = i; down = down }

-- an item, and behind it `asc`, which may be left out, or `desc`
pub data IsOrderItem : OrderItem → List Token → Type 0 where
  unsaid : (i : Item) (tokens : List Token) → IsItem i tokens → IsOrderItem (ordered_by i false) tokens
  rising : (i : Item) (tokens : List Token) → IsItem i tokens → IsOrderItem (ordered_by i false) (tokens ++ keyword (codes "asc") ∷ [])
  falling : (i : Item) (tokens : List Token) → IsItem i tokens → IsOrderItem (ordered_by i true) (tokens ++ keyword (codes "desc") ∷ [])

-- one or more, with commas between
pub data AreListed {A : Type 0} (IsOne : A → List Token → Type 0) : List A → List Token → Type 0 where
  last : (one : A) (tokens : List Token) → IsOne one tokens → AreListed IsOne (one ∷ []) tokens
  more : (one : A) (others : List A) (front back : List Token) → IsOne one front → AreListed IsOne others back → AreListed IsOne (one ∷ others) (front ++ (comma ∷ back))

-- ---- the parts of a query, each of which may be left out

pub data IsSelect : Option (List Item) → List Token → Type 0 where
  count_alone : IsSelect None []
  rows : (items : List Item) (tokens : List Token) → AreListed IsItem items tokens → IsSelect (Some items) (keyword (codes "select") ∷ tokens)

pub data IsWhere : Option Clause → List Token → Type 0 where
  all_records : IsWhere None []
  those_of : (c : Clause) (tokens : List Token) → IsClause c tokens → IsWhere (Some c) (keyword (codes "where") ∷ tokens)

pub data IsOrder : List OrderItem → List Token → Type 0 where
  as_they_come : IsOrder [] []
  sorted_by : (items : List OrderItem) (tokens : List Token) → AreListed IsOrderItem items tokens → IsOrder items (keyword (codes "order") ∷ keyword (codes "by") ∷ tokens)

pub data IsLimit : Option ℤ → List Token → Type 0 where
  all_rows : IsLimit None []
  first_rows : (n : ℤ) → IsLimit (Some n) (keyword (codes "limit") ∷ t.Number n ∷ [])

-- only rows that are shown are ordered or limited
abbrev pub OnlyRows : Option (List Item) → List OrderItem → Option ℤ → Type 0
OnlyRows None order limit = (order ≡ []) × (limit ≡ None)
OnlyRows (Some items) order limit = Unit {0}

-- The tokens are a query: its parts in this order.
pub record IsQuery (asked : Asked) (tokens : List Token) : Type 0 where
  pub selecting : List Token
  pub choosing : List Token
  pub sorting : List Token
  pub ending : List Token
  pub cut : tokens ≡ selecting ++ (choosing ++ (sorting ++ ending))
  pub select : IsSelect asked.select selecting
  pub clause : IsWhere asked.clause choosing
  pub order : IsOrder asked.order sorting
  pub limit : IsLimit asked.limit ending
  pub shown : OnlyRows asked.select asked.order asked.limit
