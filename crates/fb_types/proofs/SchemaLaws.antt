-- A text is read as a schema exactly where it spells it.
use Rattle.std.proofs.Common.{◌≡◌, ◌≢◌, get_or, ℕ, ◌<◌, ◌≤◌, Bool, true, false, ◌&&◌, not, List, [], ◌∷◌, ◌++◌, length, map, refl, ap, sym, ◌∙◌, arith}
use Rattle.std.specs.Prelude.{Result, Ok, Err, IfOk, IfErr, count_by, ◌==◌, nat_lt, if◌then◌else◌}
use Rattle.std.specs.List.{All, AllZip, join_with_byte, list_all}
use Rattle.std.proofs.lemmas.Bool.{ltb-false, lt-ltb}
use Rattle.std.proofs.lemmas.List.Folds.{list_all-append}
use Rattle.std.proofs.lemmas.List.Splits.{join_with_byte-slice_split, length-slice_split, slice_split_at, slice_split_none}
use Rattle.std.proofs.lemmas.List.Sums.{AllPass-from_list_all}
use Rattle.std.proofs.lemmas.Slice.Zip.{AllZip-long}
use Rattle.fb_types.specs.declared.schemas.Column.{Column}
use Rattle.fb_types.specs.declared.schema_text.MetaFault.{MetaFault}
use Rattle.fb_types.specs.declared.schema_text.MetaFault.TheVariants.{Bad, OutOfMemory}
use Rattle.fb_types.specs.declared.schema_text.SchemaKind.TheVariants.{Empty, TooMany}
use Rattle.fb_types.specs.AllOrFirst.{all_or_first}
use Rattle.fb_types.specs.Field.{is_blank}
use Rattle.fb_types.specs.Schemas.{IsSchema}
use Rattle.fb_types.specs.SchemaText.{AreRead, IsFaultIn, SchemaFault, Spells, Writes, column_text, columns_of, each_column, is_comma, items_of, read_schema, schema_or_fault, schema_text}
use Rattle.fb_types.specs.Names.{IsColumnName}
use Rattle.fb_types.specs.Types.{type_name}
use Rattle.lexing.proofs.Runs.{append_all}
use Rattle.fb_types.proofs.BlankFacts.{not_false}
use Rattle.fb_types.proofs.AllOrFirstFacts.{all-found, all-ok}
use Rattle.fb_types.proofs.EachFacts.{EachSo, each-so, schema_ok, so-each, so-free, so-written, written-so}
use Rattle.fb_types.proofs.ItemFacts.{item_whole, name-line, printed_item, type-line}
use Rattle.fb_types.proofs.SchemaFacts.{AreFree, free-schema, schema-free}

-- ---- the tests of a whole text

if_ok : {A : Type 0} (test : Bool) (why : SchemaFault) (rest : Result A SchemaFault) (value : A) → (if test then Err why else rest) ≡ Ok value → (test ≡ false) × (rest ≡ Ok value)
if_ok true why rest value is = cc
if_ok false why rest value is = (refl, is)

few_items : (text : List ℕ) → nat_lt 255 (length (items_of text)) ≡ false → length (items_of text) ≤ 255
few_items text few = ltb-false 255 (length (items_of text)) few

some_item : (text : List ℕ) → 1 ≤ length (items_of text)
some_item text = omega (arith, length-slice_split is_comma text)

pub reads-columns : (text : List ℕ) (items : List (List ℕ)) (told : Result (List Column) SchemaFault) → list_all is_blank text ≡ false → count_by is_comma text < 255 → items ≡ items_of text → columns_of items ≡ told → read_schema text ≡ told
unfolding read_schema
reads-columns text items told shown few cut is =
    let within : nat_lt 255 (length (items_of text)) ≡ false = ltb-false-from (omega (arith, length-slice_split is_comma text)) in
    rw (shown, within) (ap columns_of (sym cut) ∙ is)
  where
    ltb-false-from : {n : ℕ} → n ≤ 255 → nat_lt 255 n ≡ false
    ltb-false-from h = search (arith)

pub reads_blank : (text : List ℕ) → list_all is_blank text ≡ true → read_schema text ≡ Err (record { column = 0; kind = Empty })
unfolding read_schema
reads_blank text blank = rw blank refl

pub reads_many : (text : List ℕ) → list_all is_blank text ≡ false → 255 ≤ count_by is_comma text → read_schema text ≡ Err (record { column = 256; kind = TooMany })
unfolding read_schema
reads_many text shown many =
    let beyond : nat_lt 255 (length (items_of text)) ≡ true = lt-ltb 255 (length (items_of text)) (omega (arith, length-slice_split is_comma text)) in
    rw (shown, beyond) refl

-- ---- what is read is spelled

read-each : (text : List ℕ) (columns : List Column) → read_schema text ≡ Ok columns → (length (items_of text) ≤ 255) × EachSo [] (items_of text) columns
unfolding read_schema
read-each text columns is =
    let outer = if_ok (list_all is_blank text) _ _ columns is in
    let inner = if_ok (nat_lt 255 (length (items_of text))) _ _ columns outer.1 in
    let told = schema_ok (all_or_first 1 (each_column [] (items_of text))) columns inner.1 in
    (few_items text inner.0, each-so [] (items_of text) columns (all-ok 1 (each_column [] (items_of text)) columns told))

pub read_spelled : (text : List ℕ) (columns : List Column) → read_schema text ≡ Ok columns → Spells text columns
read_spelled text columns is = record {
  items = items_of text;
  joined = sym (join_with_byte-slice_split 44 text);
  each = so-written [] (items_of text) columns (read-each text columns is).1;
}

-- what is read is a schema
pub valid : (text : List ℕ) (columns : List Column) → read_schema text ≡ Ok columns → IsSchema columns
valid text columns is =
    let each = read-each text columns is in
    let long = AllZip-long Writes (items_of text) columns (so-written [] (items_of text) columns each.1) in
    free-schema columns (so-free [] (items_of text) columns each.1) (omega (arith, some_item text)) (omega (arith, each.0))

-- ---- and what is spelled is read

no_comma : (item : List ℕ) → list_all (λ b. not (is_comma b)) item ≡ true → All (λ b. is_comma b ≡ false) item
no_comma item whole = λ k d within. not_false _ (AllPass-from_list_all (λ b. not (is_comma b)) item whole k d within)

items_again : (items : List (List ℕ)) (columns : List Column) → AllZip Writes items columns → (taken : List (List ℕ)) → AreFree taken columns → 1 ≤ length items → items_of (join_with_byte 44 items) ≡ items
unfolding AreFree
items_again [] columns written taken free some = absurd (omega arith)
items_again (item ∷ items) [] written taken free some = absurd written
items_again (item ∷ []) (column ∷ columns) written taken free some =
    slice_split_none is_comma item (no_comma item (item_whole item column written.0))
items_again (item ∷ next ∷ items) (column ∷ columns) written taken free some =
    let later = items_again (next ∷ items) columns written.1 (taken ++ column.name ∷ []) free.2 (omega arith) in
    slice_split_at is_comma item 44 (join_with_byte 44 (next ∷ items)) (no_comma item (item_whole item column written.0)) refl ∙ ap (λ r. item ∷ r) later

and_false : (a b : Bool) → b ≡ false → (a && b) ≡ false
and_false true b is = is
and_false false b is = refl

front_shown : (item rest : List ℕ) → list_all is_blank item ≡ false → list_all is_blank (item ++ rest) ≡ false
front_shown item rest shown = rw (list_all-append is_blank item rest, shown) refl

item_shown : (item : List ℕ) (column : Column) → Writes item column → list_all is_blank item ≡ false
item_shown item column w =
    rw (w.cut, list_all-append is_blank w.left (58 ∷ w.right)) (and_false (list_all is_blank w.left) false refl)

text_shown : (items : List (List ℕ)) (columns : List Column) → AllZip Writes items columns → 1 ≤ length items → list_all is_blank (join_with_byte 44 items) ≡ false
text_shown [] columns written some = absurd (omega arith)
text_shown (item ∷ items) [] written some = absurd written
text_shown (item ∷ []) (column ∷ columns) written some = item_shown item column written.0
text_shown (item ∷ next ∷ items) (column ∷ columns) written some =
    front_shown item (44 ∷ join_with_byte 44 (next ∷ items)) (item_shown item column written.0)

pub spelled_read : (text : List ℕ) (columns : List Column) → IsSchema columns → Spells text columns → read_schema text ≡ Ok columns
spelled_read text columns schema spelled =
    let items = spelled.items in
    let long = AllZip-long Writes items columns spelled.each in
    let some : 1 ≤ length items = omega (arith, schema.some) in
    let free = schema-free columns schema in
    let again : items ≡ items_of text = sym (ap items_of spelled.joined ∙ items_again items columns spelled.each [] free some) in
    let shown : list_all is_blank text ≡ false = ap (list_all is_blank) spelled.joined ∙ text_shown items columns spelled.each some in
    let few : count_by is_comma text < 255 = omega (arith, length-slice_split is_comma text, ap length again, schema.few) in
    let each : each_column [] items ≡ map Ok columns = so-each [] items columns (written-so [] items columns spelled.each free) in
    let all : columns_of items ≡ Ok columns = ap (λ answers. schema_or_fault (all_or_first 1 answers)) each ∙ ap schema_or_fault (all-found 1 columns) in
    reads-columns text items (Ok columns) shown few again all

abbrev told : List Column → Result (List Column) SchemaFault
told columns = Ok columns

ok_same : (a b : List Column) → told a ≡ told b → a ≡ b
ok_same a b same = cc

-- an answer that is the definition's is spelled by the text
pub spelled_so : (text : List ℕ) (result : Result (List Column) MetaFault) → IfOk result (λ schema. read_schema text ≡ Ok schema) → IfOk result (λ schema. Spells text schema)
spelled_so text (Ok schema) ok = read_spelled text schema ok
spelled_so text (Err fault) ok = tt

-- and reads what is spelled, unless memory ran out
pub only_so : (text : List ℕ) (result : Result (List Column) MetaFault) → IfOk result (λ schema. read_schema text ≡ Ok schema) → IfErr result (λ fault. IsFaultIn fault (read_schema text)) → (columns : List Column) → IsSchema columns → Spells text columns → AreRead columns result
only_so text (Ok schema) ok bad columns valid spelled = ok_same schema columns (sym ok ∙ spelled_read text columns valid spelled)
only_so text (Err (Bad column kind)) ok bad columns valid spelled =
    let clash : Err (record { column = column; kind = kind }) ≡ told columns = sym bad ∙ spelled_read text columns valid spelled in cc
only_so text (Err OutOfMemory) ok bad columns valid spelled = tt

-- ---- the printed form

printed_items : (columns : List Column) (taken : List (List ℕ)) → AreFree taken columns → AllZip Writes (map column_text columns) columns
unfolding AreFree
printed_items [] taken free = tt
printed_items (column ∷ columns) taken free =
    (printed_item column free.0, printed_items columns (taken ++ column.name ∷ []) free.2)

pub schema_text-spells : (columns : List Column) → IsSchema columns → Spells (schema_text columns) columns
schema_text-spells columns schema = record {
  items = map column_text columns;
  joined = refl;
  each = printed_items columns [] (schema-free columns schema);
}

-- the printed text of a schema is read as that schema
pub read_schema-schema_text : (columns : List Column) → IsSchema columns → read_schema (schema_text columns) ≡ Ok columns
read_schema-schema_text columns schema = spelled_read (schema_text columns) columns schema (schema_text-spells columns schema)

-- schemas with one printed text are one
pub schema_text-injective : (a b : List Column) → IsSchema a → IsSchema b → schema_text a ≡ schema_text b → a ≡ b
schema_text-injective a b left right same =
    ok_same a b (sym (read_schema-schema_text a left) ∙ ap read_schema same ∙ read_schema-schema_text b right)

-- ---- a printed schema is one line

pub column_text-line : (column : Column) → IsColumnName column.name → list_all (λ b. not (b == 10)) (column_text column) ≡ true
column_text-line column named = append_all (λ b. not (b == 10)) column.name (58 ∷ type_name column.ty) (name-line column.name named) (type-line column.ty)

join-line : (columns : List Column) (taken : List (List ℕ)) → AreFree taken columns → list_all (λ b. not (b == 10)) (join_with_byte 44 (map column_text columns)) ≡ true
unfolding AreFree
join-line [] taken free = refl
join-line (column ∷ []) taken free = column_text-line column free.0
join-line (column ∷ next ∷ columns) taken free =
    append_all (λ b. not (b == 10)) (column_text column) (44 ∷ join_with_byte 44 (map column_text (next ∷ columns))) (column_text-line column free.0)
    (join-line (next ∷ columns) (taken ++ column.name ∷ []) free.2)

-- the printed text of a schema has no line feed
pub schema_text-line : (columns : List Column) → IsSchema columns → list_all (λ b. not (b == 10)) (schema_text columns) ≡ true
schema_text-line columns schema = join-line columns [] (schema-free columns schema)

feed_shown : (b : ℕ) → b ≡ 10 → (b == 10) ≡ true
feed_shown b is = rw is refl

-- the same, as a fact of each byte
pub schema_text-unbroken : (columns : List Column) → IsSchema columns → All (λ b. b ≢ 10) (schema_text columns)
schema_text-unbroken columns schema = λ k d within is.
    let none = not_false _ (AllPass-from_list_all (λ b. not (b == 10)) (schema_text columns) (schema_text-line columns schema) k d within) in
    let there = feed_shown (get_or (schema_text columns) k d) is in
    cc
