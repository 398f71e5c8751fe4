-- Schemas, and the texts that spell them.
use Rattle.std.specs.Prelude.{◌≡◌, ℕ, zero, suc, Bool, true, ◌==◌, nat_lt, Option, Some, None, Result, Ok, Err, List, [], ◌∷◌, ◌++◌, length, map, if◌then◌else◌}
use Rattle.std.specs.List.{AllZip, after_first, before_first, filter_map, find, join_with_byte, list_all, list_any, slice_split}
use Rattle.std.specs.Str.{bytes_eq, str_to_ascii_lowercase}
use Rattle.fb_types.specs.declared.types.ColType.{ColType}
use Rattle.fb_types.specs.declared.types.TheConstants.{TYPES}
use Rattle.fb_types.specs.declared.schemas.Column.{Column}
use Rattle.fb_types.specs.declared.schema_text.MetaFault.{MetaFault}
use Rattle.fb_types.specs.declared.schema_text.MetaFault.TheVariants.{Bad, OutOfMemory}
use Rattle.fb_types.specs.declared.schema_text.SchemaKind.{SchemaKind}
use Rattle.fb_types.specs.declared.schema_text.SchemaKind.TheVariants.{Empty, TooMany, BadName, BadType, Repeated}
use Rattle.fb_types.specs.AllOrFirst.{all_or_first}
use Rattle.fb_types.specs.Field.{is_blank, trimmed}
use Rattle.fb_types.specs.Names.{IsColumnName, column_name}
use Rattle.fb_types.specs.Types.{type_name}

-- ---- the printed form: `name:type`, joined by commas (58 and 44)

abbrev pub column_text : Column → List ℕ
column_text column = column.name ++ (58 ∷ type_name column.ty)

abbrev pub schema_text : List Column → List ℕ
schema_text columns = join_with_byte 44 (map column_text columns)

-- what stands before the item at a place, from 0
abbrev pub separator_before : ℕ → List ℕ
separator_before zero = []
separator_before (suc at) = 44 ∷ []

-- ---- which columns a text spells

-- the bytes are the piece, with blanks round it
pub record IsPadded (bytes piece : List ℕ) : Type 0 where
  pub front : List ℕ
  pub back : List ℕ
  pub cut : bytes ≡ front ++ (piece ++ back)
  pub blank_front : list_all is_blank front ≡ true
  pub blank_back : list_all is_blank back ≡ true

-- the bytes are a column name in letters of either case, with blanks round it
pub record SpellsName (bytes kept : List ℕ) : Type 0 where
  pub name : List ℕ
  pub padded : IsPadded bytes name
  pub lower : str_to_ascii_lowercase name ≡ kept
  pub named : IsColumnName kept

-- the bytes are a type's word, with blanks round it
abbrev pub SpellsType : List ℕ → ColType → Type 0
SpellsType bytes ty = IsPadded bytes (type_name ty)

-- an item is a name, a colon and a type
pub record Writes (item : List ℕ) (column : Column) : Type 0 where
  pub left : List ℕ
  pub right : List ℕ
  pub cut : item ≡ left ++ 58 ∷ right
  pub named : SpellsName left column.name
  pub typed : SpellsType right column.ty

-- a text is an item for each column, joined by commas
pub record Spells (text : List ℕ) (columns : List Column) : Type 0 where
  pub items : List (List ℕ)
  pub joined : text ≡ join_with_byte 44 items
  pub each : AllZip Writes items columns

-- ---- the same as a function, which tells the first fault of a text that spells no schema

abbrev pub is_comma : ℕ → Bool
is_comma b = b == 44

abbrev pub is_colon : ℕ → Bool
is_colon b = b == 58

-- the items of a text: what stands between its commas
abbrev pub items_of : List ℕ → List (List ℕ)
items_of text = slice_split is_comma text

-- the type of that word
unfoldable pub type_named : List ℕ → Option ColType
type_named word = find (λ ty. bytes_eq (type_name ty) word) TYPES

-- the name before the first colon of an item, and the type after it
abbrev pub name_in : List ℕ → Option (List ℕ)
name_in item = column_name (trimmed (before_first is_colon item))

abbrev pub type_in : List ℕ → Option ColType
type_in item = type_named (trimmed (after_first is_colon item))

-- a column, where there is a name that isn't taken, and a type
abbrev pub column_or_fault : List (List ℕ) → Option (List ℕ) → Option ColType → Result Column SchemaKind
column_or_fault taken None ty = Err BadName
column_or_fault taken (Some name) None = Err BadType
column_or_fault taken (Some name) (Some ty) =
    if list_any (bytes_eq name) taken then Err Repeated else Ok (record { name = name; ty = ty })

-- the column of an item that stands after these, or what is wrong with it
unfoldable pub column_after : List (List ℕ) → List ℕ → Result Column SchemaKind
column_after earlier item = column_or_fault (filter_map name_in earlier) (name_in item) (type_in item)

-- the same of each item, where the first of them stands after these
unfoldable pub each_column : List (List ℕ) → List (List ℕ) → List (Result Column SchemaKind)
each_column earlier [] = []
each_column earlier (item ∷ items) = column_after earlier item ∷ each_column (earlier ++ item ∷ []) items

-- the first fault of a text that spells no schema: the column, from 1, and what is wrong there;
-- a blank text has it at column 0, and one of too many columns at the first that is too many
pub record SchemaFault : Type 0 where
  pub column : ℕ
  pub kind : SchemaKind

abbrev pub schema_or_fault : Result (List Column) (ℕ × SchemaKind) → Result (List Column) SchemaFault
schema_or_fault (Ok columns) = Ok columns
schema_or_fault (Err (column, kind)) = Err (record { column = column; kind = kind })

-- the columns of the items, or the first fault among them
abbrev pub columns_of : List (List ℕ) → Result (List Column) SchemaFault
columns_of items = schema_or_fault (all_or_first 1 (each_column [] items))

-- the schema that a text spells, or its first fault
unfoldable pub read_schema : List ℕ → Result (List Column) SchemaFault
read_schema text =
    if list_all is_blank text then Err (record { column = 0; kind = Empty })
    else (if nat_lt 255 (length (items_of text)) then Err (record { column = 256; kind = TooMany })
    else columns_of (items_of text))

-- ---- answers of `parse_schema`

-- the fault is the one that is defined, unless memory ran out
abbrev pub IsFaultIn : MetaFault → Result (List Column) SchemaFault → Type 0
IsFaultIn (Bad column kind) defined = defined ≡ Err (record { column = column; kind = kind })
IsFaultIn OutOfMemory defined = Unit {0}

abbrev pub IsFaultOf : MetaFault → List ℕ → Type 0
IsFaultOf fault text = IsFaultIn fault (read_schema text)

-- these columns were read, unless memory ran out
abbrev pub AreRead : List Column → Result (List Column) MetaFault → Type 0
AreRead columns (Ok schema) = schema ≡ columns
AreRead columns (Err (Bad column kind)) = ⊥
AreRead columns (Err OutOfMemory) = Unit {0}
