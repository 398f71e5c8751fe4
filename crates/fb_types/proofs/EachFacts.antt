-- The columns of items, one after the other.
use Rattle.std.proofs.Common.{◌≡◌, ℕ, ◌+◌, ◌<◌, ◌≤◌, Bool, true, false, ◌||◌, List, [], ◌∷◌, ◌++◌, length, get_or, take, drop, map, refl, ap, sym, subst, ◌∙◌, arith, Option, Some, None, append_assoc, append-nil}
use Rattle.std.specs.Prelude.{Result, Ok, Err, if◌then◌else◌}
use Rattle.std.specs.List.{AllZip, before_first, cons_option, filter_map, list_any}
use Rattle.std.specs.Str.{bytes_eq}
use Rattle.std.proofs.lemmas.List.{drop_more, map-append, take-append-drop, take_all, take_more}
use Rattle.std.proofs.lemmas.List.Elements.{filter_map-append}
use Rattle.fb_types.specs.declared.schemas.Column.{Column}
use Rattle.fb_types.specs.declared.schema_text.SchemaKind.{SchemaKind}
use Rattle.fb_types.specs.declared.schema_text.SchemaKind.TheVariants.{Repeated}
use Rattle.fb_types.specs.declared.types.ColType.{ColType}
use Rattle.fb_types.specs.Field.{trimmed}
use Rattle.fb_types.specs.AllOrFirst.{all_or_first}
use Rattle.fb_types.specs.SchemaText.{Writes, column_after, column_or_fault, columns_of, each_column, is_colon, name_in, schema_or_fault, type_in}
use Rattle.fb_types.proofs.AllOrFirstFacts.{all-found, stops-found}
use Rattle.fb_types.proofs.ItemFacts.{Reads, item_read, item_written}
use Rattle.fb_types.proofs.NameFacts.{column_name-named}
use Rattle.fb_types.proofs.SchemaFacts.{AreFree}

-- ---- one item

pub record IsColumnOf (taken : List (List ℕ)) (name : Option (List ℕ)) (ty : Option ColType) (column : Column) : Type 0 where
  pub name_is : name ≡ Some column.name
  pub ty_is : ty ≡ Some column.ty
  pub untaken : list_any (bytes_eq column.name) taken ≡ false

column_so : (taken : List (List ℕ)) (name : Option (List ℕ)) (ty : Option ColType) (column : Column) → column_or_fault taken name ty ≡ Ok column → IsColumnOf taken name ty column
column_so taken None ty column is = cc
column_so taken (Some name) None column is = cc
column_so taken (Some name) (Some ty) column is = by (list_any (bytes_eq name) taken) refl is
  where
    made : Column
    made = record { name = name; ty = ty }

    by : (test : Bool) → list_any (bytes_eq name) taken ≡ test → (if test then Err Repeated else Ok made) ≡ Ok column → IsColumnOf taken (Some name) (Some ty) column
    by true same found = cc
    by false same found =
        let here : made ≡ column = cc in
        let P : Column → Type 0 = λ c. IsColumnOf taken (Some name) (Some ty) c in
        let base : P made = record { name_is = refl; ty_is = refl; untaken = same } in
        subst P here base

column_is : (taken : List (List ℕ)) (name : Option (List ℕ)) (ty : Option ColType) (column : Column) → IsColumnOf taken name ty column → column_or_fault taken name ty ≡ Ok column
column_is taken name ty column h = rw (h.name_is, h.ty_is, h.untaken) refl

-- ---- items one after the other

-- each item is read as its column, whose name isn't taken
unfoldable pub EachSo : List (List ℕ) → List (List ℕ) → List Column → Type 0
EachSo taken [] [] = Unit {0}
EachSo taken [] (column ∷ columns) = ⊥
EachSo taken (item ∷ items) [] = ⊥
EachSo taken (item ∷ items) (column ∷ columns) =
    IsColumnOf taken (name_in item) (type_in item) column × EachSo (taken ++ column.name ∷ []) items columns

names-more : (earlier : List (List ℕ)) (item name : List ℕ) → name_in item ≡ Some name → filter_map name_in (earlier ++ item ∷ []) ≡ filter_map name_in earlier ++ name ∷ []
names-more earlier item name is =
    let one : filter_map name_in (item ∷ []) ≡ name ∷ [] = ap (λ o. cons_option o []) is in
    filter_map-append name_in earlier (item ∷ []) ∙ ap (λ n. filter_map name_in earlier ++ n) one

ok_front : (first : Result Column SchemaKind) (rest : List (Result Column SchemaKind)) (column : Column) (columns : List Column) → first ∷ rest ≡ map Ok (column ∷ columns) → (first ≡ Ok column) × (rest ≡ map Ok columns)
ok_front first rest column columns is = (cc, cc)

pub each-so : (earlier items : List (List ℕ)) (columns : List Column) → each_column earlier items ≡ map Ok columns → EachSo (filter_map name_in earlier) items columns
unfolding EachSo each_column column_after
each-so earlier [] [] is = tt
each-so earlier [] (column ∷ columns) is = cc
each-so earlier (item ∷ items) [] is = cc
each-so earlier (item ∷ items) (column ∷ columns) is =
    let both = ok_front (column_after earlier item) (each_column (earlier ++ item ∷ []) items) column columns is in
    let here = column_so (filter_map name_in earlier) (name_in item) (type_in item) column both.0 in
    let later = each-so (earlier ++ item ∷ []) items columns both.1 in
    (here, subst (λ taken. EachSo taken items columns) (names-more earlier item column.name here.name_is) later)

pub so-each : (earlier items : List (List ℕ)) (columns : List Column) → EachSo (filter_map name_in earlier) items columns → each_column earlier items ≡ map Ok columns
unfolding EachSo each_column column_after
so-each earlier [] [] h = refl
so-each earlier [] (column ∷ columns) h = absurd h
so-each earlier (item ∷ items) [] h = absurd h
so-each earlier (item ∷ items) (column ∷ columns) h =
    let first : column_after earlier item ≡ Ok column = column_is (filter_map name_in earlier) (name_in item) (type_in item) column h.0 in
    let later = so-each (earlier ++ item ∷ []) items columns (subst (λ taken. EachSo taken items columns) (sym (names-more earlier item column.name h.0.name_is)) h.1) in
    rw (first, later) refl

pub so-names : (taken items : List (List ℕ)) (columns : List Column) → EachSo taken items columns → filter_map name_in items ≡ map (λ column. column.name) columns
unfolding EachSo
so-names taken [] [] h = refl
so-names taken [] (column ∷ columns) h = absurd h
so-names taken (item ∷ items) [] h = absurd h
so-names taken (item ∷ items) (column ∷ columns) h =
    ap (λ o. cons_option o (filter_map name_in items)) h.0.name_is ∙ ap (λ ns. column.name ∷ ns) (so-names (taken ++ column.name ∷ []) items columns h.1)

pub so-free : (taken items : List (List ℕ)) (columns : List Column) → EachSo taken items columns → AreFree taken columns
unfolding EachSo AreFree
so-free taken [] [] h = tt
so-free taken [] (column ∷ columns) h = absurd h
so-free taken (item ∷ items) [] h = absurd h
so-free taken (item ∷ items) (column ∷ columns) h =
    (column_name-named (trimmed (before_first is_colon item)) column.name h.0.name_is, h.0.untaken, so-free (taken ++ column.name ∷ []) items columns h.1)

pub so-written : (taken items : List (List ℕ)) (columns : List Column) → EachSo taken items columns → AllZip Writes items columns
unfolding EachSo
so-written taken [] [] h = tt
so-written taken [] (column ∷ columns) h = absurd h
so-written taken (item ∷ items) [] h = absurd h
so-written taken (item ∷ items) (column ∷ columns) h =
    let reads : Reads item column = record { name = h.0.name_is; ty = h.0.ty_is } in
    (item_written item column reads, so-written (taken ++ column.name ∷ []) items columns h.1)

pub written-so : (taken items : List (List ℕ)) (columns : List Column) → AllZip Writes items columns → AreFree taken columns → EachSo taken items columns
unfolding EachSo AreFree
written-so taken [] [] written free = tt
written-so taken [] (column ∷ columns) written free = absurd written
written-so taken (item ∷ items) [] written free = absurd written
written-so taken (item ∷ items) (column ∷ columns) written free =
    let reads = item_read item column written.0 in
    (record { name_is = reads.name; ty_is = reads.ty; untaken = free.1 }, written-so (taken ++ column.name ∷ []) items columns written.1 free.2)

-- ---- a walk over the items

pub schema_ok : (told : Result (List Column) (ℕ × SchemaKind)) (columns : List Column) → schema_or_fault told ≡ Ok columns → told ≡ Ok columns
schema_ok (Ok found) columns is = cc
schema_ok (Err (column, kind)) columns is = cc

-- so many items, then one more
each-split : (earlier xs ys : List (List ℕ)) → each_column earlier (xs ++ ys) ≡ each_column earlier xs ++ each_column (earlier ++ xs) ys
unfolding each_column
each-split earlier [] ys = ap (λ e. each_column e ys) (sym (append-nil earlier))
each-split earlier (x ∷ xs) ys =
    let later = each-split (earlier ++ x ∷ []) xs ys in
    let joined : (earlier ++ x ∷ []) ++ xs ≡ earlier ++ x ∷ xs = append_assoc earlier (x ∷ []) xs in
    ap (λ r. column_after earlier x ∷ r) (later ∙ ap (λ e. each_column (earlier ++ x ∷ []) xs ++ each_column e ys) joined)

pub each-step : (front : List (List ℕ)) (item : List ℕ) (columns : List Column) (column : Column) → each_column [] front ≡ map Ok columns → column_after front item ≡ Ok column → each_column [] (front ++ item ∷ []) ≡ map Ok (columns ++ column ∷ [])
unfolding each_column
each-step front item columns column before here =
    rw (each-split [] front (item ∷ []), before, here) (sym (map-append Ok columns (column ∷ [])))

-- what is said of an item after items that were read as these columns
pub after_columns : (front : List (List ℕ)) (item : List ℕ) (columns : List Column) → each_column [] front ≡ map Ok columns → column_after front item ≡ column_or_fault (map (λ column. column.name) columns) (name_in item) (type_in item)
unfolding column_after
after_columns front item columns before =
    ap (λ taken. column_or_fault taken (name_in item) (type_in item)) (so-names [] front columns (each-so [] front columns before))

pub walk_step : (all : List (List ℕ)) (at : ℕ) (item : List ℕ) (columns : List Column) (column : Column) → at < length all → item ≡ get_or all at item → each_column [] (take at all) ≡ map Ok columns → column_or_fault (map (λ c. c.name) columns) (name_in item) (type_in item) ≡ Ok column → each_column [] (take (at + 1) all) ≡ map Ok (columns ++ column ∷ [])
walk_step all at item columns column within is before here =
    let said : column_after (take at all) item ≡ Ok column = after_columns (take at all) item columns before ∙ here in
    let more : take (at + 1) all ≡ take at all ++ item ∷ [] = take_more all at item within ∙ ap (λ i. take at all ++ i ∷ []) (sym is) in
    ap (each_column []) more ∙ each-step (take at all) item columns column before said

fault_at : (items front rest : List (List ℕ)) (item : List ℕ) (columns : List Column) (kind : SchemaKind) → items ≡ front ++ item ∷ rest → each_column [] front ≡ map Ok columns → column_after front item ≡ Err kind → columns_of items ≡ Err (record { column = 1 + length columns; kind = kind })
unfolding each_column
fault_at items front rest item columns kind cut before here =
    let all : each_column [] items ≡ map Ok columns ++ Err kind ∷ each_column (front ++ item ∷ []) rest =
    rw (cut, each-split [] front (item ∷ rest), before, here) refl in
    ap (λ answers. schema_or_fault (all_or_first 1 answers)) all ∙ ap schema_or_fault (stops-found 1 columns kind (each_column (front ++ item ∷ []) rest))

pub walk_stops : (all : List (List ℕ)) (at : ℕ) (item : List ℕ) (columns : List Column) (kind : SchemaKind) → at < length all → item ≡ get_or all at item → length columns ≡ at → each_column [] (take at all) ≡ map Ok columns → column_or_fault (map (λ c. c.name) columns) (name_in item) (type_in item) ≡ Err kind → columns_of all ≡ Err (record { column = at + 1; kind = kind })
walk_stops all at item columns kind within is count before here =
    let said : column_after (take at all) item ≡ Err kind = after_columns (take at all) item columns before ∙ here in
    let rest : drop at all ≡ item ∷ drop (at + 1) all = drop_more all at item within ∙ ap (λ i. i ∷ drop (at + 1) all) (sym is) in
    let cut : all ≡ take at all ++ item ∷ drop (at + 1) all = sym (take-append-drop at all) ∙ ap (λ r. take at all ++ r) rest in
    let place : 1 + length columns ≡ at + 1 = omega arith in
    fault_at all (take at all) (drop (at + 1) all) item columns kind cut before said ∙ ap (λ n. Err (record { column = n; kind = kind })) place

-- a name among those of columns
pub taken_of : (name : List ℕ) (columns : List Column) → list_any (bytes_eq name) (map (λ c. c.name) columns) ≡ list_any (λ c. bytes_eq name c.name) columns
taken_of name [] = refl
taken_of name (column ∷ columns) = ap (λ rest. bytes_eq name column.name || rest) (taken_of name columns)

pub walk_from : (columns : List Column) → columns ≡ [] → each_column [] [] ≡ map Ok columns
unfolding each_column
walk_from columns none = rw none refl

pub walk_ends : (all : List (List ℕ)) (at : ℕ) (columns : List Column) → length all ≤ at → each_column [] (take at all) ≡ map Ok columns → columns_of all ≡ Ok columns
walk_ends all at columns past read =
    let whole : each_column [] all ≡ map Ok columns = ap (each_column []) (sym (take_all at all past)) ∙ read in
    ap (λ answers. schema_or_fault (all_or_first 1 answers)) whole ∙ ap schema_or_fault (all-found 1 columns)
