-- Where a text that spells no schema has its first fault.
use Rattle.std.specs.Prelude.{◌≡◌, ◌≢◌, ℕ, ◌+◌, ◌<◌, ◌≤◌, true, false, List, ◌∷◌, ◌++◌, length, map}
use Rattle.std.specs.List.{AllPairs, AllZip, Contains, after_first, before_first, list_all}
use Rattle.fb_types.specs.declared.types.ColType.{ColType}
use Rattle.fb_types.specs.declared.schemas.Column.{Column}
use Rattle.fb_types.specs.declared.schema_text.MetaFault.{MetaFault}
use Rattle.fb_types.specs.declared.schema_text.MetaFault.TheVariants.{Bad, OutOfMemory}
use Rattle.fb_types.specs.declared.schema_text.SchemaKind.{SchemaKind}
use Rattle.fb_types.specs.declared.schema_text.SchemaKind.TheVariants.{Empty, TooMany, BadName, BadType, Repeated}
use Rattle.fb_types.specs.Field.{is_blank}
use Rattle.fb_types.specs.SchemaText.{SpellsName, SpellsType, Writes, is_colon, items_of}

-- An item after these columns has a fault: no name stands before its first colon; or a name does, but no type follows;
-- or it writes a column whose name one of these has. An item without a colon is all before it.
abbrev pub HasFault : List Column → List ℕ → SchemaKind → Type 0
HasFault earlier item Empty = ⊥
HasFault earlier item TooMany = ⊥
HasFault earlier item BadName = (name : List ℕ) → ¬ (SpellsName (before_first is_colon item) name)
HasFault earlier item BadType =
    ((name : List ℕ) × SpellsName (before_first is_colon item) name) × ((ty : ColType) → ¬ (SpellsType (after_first is_colon item) ty))
HasFault earlier item Repeated = (column : Column) × (Writes item column × Contains (map (λ c. c.name) earlier) column.name)

-- the items before the fault write columns with distinct names, and its item, which has the column's number, has it
pub record HasFaultAt (items : List (List ℕ)) (column : ℕ) (kind : SchemaKind) : Type 0 where
  pub before : List (List ℕ)
  pub item : List ℕ
  pub after : List (List ℕ)
  pub columns : List Column
  pub cut : items ≡ before ++ item ∷ after
  pub counted : column ≡ length before + 1
  pub written : AllZip Writes before columns
  pub distinct : AllPairs (λ a b. a.name ≢ b.name) columns
  pub fault : HasFault columns item kind

-- a blank text has its fault at column 0, one of too many items at column 256, and another one at an item
abbrev pub FaultLies : List ℕ → ℕ → SchemaKind → Type 0
FaultLies text column Empty = (column ≡ 0) × (list_all is_blank text ≡ true)
FaultLies text column TooMany = (column ≡ 256) × (list_all is_blank text ≡ false) × (255 < length (items_of text))
FaultLies text column BadName = (list_all is_blank text ≡ false) × (length (items_of text) ≤ 255) × HasFaultAt (items_of text) column BadName
FaultLies text column BadType = (list_all is_blank text ≡ false) × (length (items_of text) ≤ 255) × HasFaultAt (items_of text) column BadType
FaultLies text column Repeated = (list_all is_blank text ≡ false) × (length (items_of text) ≤ 255) × HasFaultAt (items_of text) column Repeated

-- the fault of `parse_schema` lies there, unless memory ran out
abbrev pub IsFirstFault : MetaFault → List ℕ → Type 0
IsFirstFault (Bad column kind) text = FaultLies text column kind
IsFirstFault OutOfMemory text = Unit {0}
