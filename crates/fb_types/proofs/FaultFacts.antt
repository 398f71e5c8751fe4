-- The first fault of a text, in the words of its items.
use Rattle.std.proofs.Common.{◌≡◌, ℕ, ◌≤◌, Bool, true, false, List, [], ◌∷◌, ◌++◌, length, map, refl, ap, sym, subst, ◌∙◌, arith, Option, Some, None, append_assoc, append-nil}
use Rattle.std.specs.Prelude.{Result, Ok, Err, nat_lt, if◌then◌else◌}
use Rattle.std.specs.List.{Contains, after_first, before_first, list_all, list_any}
use Rattle.std.specs.Str.{bytes_eq}
use Rattle.std.proofs.lemmas.Bool.{ltb-false, ltb-true}
use Rattle.std.proofs.lemmas.List.{get_or_default}
use Rattle.std.proofs.lemmas.List.Folds.{Any-from_list_any}
use Rattle.std.proofs.lemmas.Slice.Eq.{bytes_eq-Decides}
use Rattle.fb_types.specs.declared.schemas.Column.{Column}
use Rattle.fb_types.specs.declared.types.ColType.{ColType}
use Rattle.fb_types.specs.declared.schema_text.MetaFault.{MetaFault}
use Rattle.fb_types.specs.declared.schema_text.MetaFault.TheVariants.{Bad, OutOfMemory}
use Rattle.fb_types.specs.declared.schema_text.SchemaKind.{SchemaKind}
use Rattle.fb_types.specs.declared.schema_text.SchemaKind.TheVariants.{Empty, TooMany, BadName, BadType, Repeated}
use Rattle.fb_types.specs.AllOrFirst.{all_or_first}
use Rattle.fb_types.specs.Field.{is_blank}
use Rattle.fb_types.specs.FirstFault.{FaultLies, HasFault, HasFaultAt, IsFirstFault}
use Rattle.fb_types.specs.SchemaText.{IsFaultIn, SchemaFault, column_after, column_or_fault, columns_of, each_column, is_colon, items_of, name_in, read_schema, schema_or_fault, type_in}
use Rattle.fb_types.proofs.AllOrFirstFacts.{all-stops}
use Rattle.fb_types.proofs.EachFacts.{after_columns, each-so, so-free, so-written}
use Rattle.fb_types.proofs.ItemFacts.{Reads, item_written, name_found, name_spelled, type_found}
use Rattle.fb_types.proofs.SchemaFacts.{free-valid}

-- ---- the item that it stands at

record Cut (earlier items : List (List ℕ)) (columns : List Column) (kind : SchemaKind) : Type 0 where
  pub front : List (List ℕ)
  pub item : List ℕ
  pub rest : List (List ℕ)
  pub cut : items ≡ front ++ item ∷ rest
  pub count : length front ≡ length columns
  pub read : each_column earlier front ≡ map Ok columns
  pub fault : column_after (earlier ++ front) item ≡ Err kind

cut_at : (earlier items : List (List ℕ)) (columns : List Column) (kind : SchemaKind) (rest : List (Result Column SchemaKind)) → each_column earlier items ≡ map Ok columns ++ Err kind ∷ rest → Cut earlier items columns kind
unfolding each_column
cut_at earlier [] [] kind rest is = cc
cut_at earlier [] (column ∷ columns) kind rest is = cc
cut_at earlier (item ∷ items) [] kind rest is =
    let here : column_after earlier item ≡ Err kind = cc in
    record { front = []; item = item; rest = items; cut = refl; count = refl; read = refl; fault = ap (λ e. column_after e item) (append-nil earlier) ∙ here }
cut_at earlier (item ∷ items) (column ∷ columns) kind rest is =
    let first : column_after earlier item ≡ Ok column = cc in
    let others : each_column (earlier ++ item ∷ []) items ≡ map Ok columns ++ Err kind ∷ rest = cc in
    let c = cut_at (earlier ++ item ∷ []) items columns kind rest others in
    let joined : (earlier ++ item ∷ []) ++ c.front ≡ earlier ++ item ∷ c.front = append_assoc earlier (item ∷ []) c.front in
    record {
      front = item ∷ c.front;
      item = c.item;
      rest = c.rest;
      cut = ap (λ r. item ∷ r) c.cut;
      count = omega (arith, c.count);
      read = rw (first, c.read) refl;
      fault = ap (λ e. column_after e c.item) (sym joined) ∙ c.fault;
    }

-- ---- what is wrong there

among : (name : List ℕ) (names : List (List ℕ)) → list_any (bytes_eq name) names ≡ true → Contains names name
among name names there =
    let any = Any-from_list_any (bytes_eq name) names there in
    let same : name ≡ any.1 = (bytes_eq-Decides name any.1).0 any.4 in
    (any.0, any.2, get_or_default names any.0 name any.1 any.2 ∙ any.3 ∙ sym same)

fault_so : (columns : List Column) (item : List ℕ) (kind : SchemaKind) (name : Option (List ℕ)) (ty : Option ColType) → name_in item ≡ name → type_in item ≡ ty → column_or_fault (map (λ c. c.name) columns) name ty ≡ Err kind → HasFault columns item kind
fault_so columns item kind None ty named typed is =
    let here : BadName ≡ kind = cc in
    let F : SchemaKind → Type 0 = λ k. HasFault columns item k in
    let none : F BadName = λ name s. let found = sym named ∙ name_found (before_first is_colon item) name s in cc in
    subst F here none
fault_so columns item kind (Some name) None named typed is =
    let here : BadType ≡ kind = cc in
    let F : SchemaKind → Type 0 = λ k. HasFault columns item k in
    let none : F BadType = ((name, name_spelled (before_first is_colon item) name named), λ ty s. let found = sym typed ∙ type_found (after_first is_colon item) ty s in cc) in
    subst F here none
fault_so columns item kind (Some name) (Some ty) named typed is = by (list_any (bytes_eq name) (map (λ c. c.name) columns)) refl is
  where
    column : Column
    column = record { name = name; ty = ty }

    by : (test : Bool) → list_any (bytes_eq name) (map (λ c. c.name) columns) ≡ test → (if test then Err Repeated else Ok column) ≡ Err kind → HasFault columns item kind
    by false same told = cc
    by true same told =
        let here : Repeated ≡ kind = cc in
        let F : SchemaKind → Type 0 = λ k. HasFault columns item k in
        let reads : Reads item column = record { name = named; ty = typed } in
        let again : F Repeated = (column, (item_written item column reads, among name (map (λ c. c.name) columns) same)) in
        subst F here again

fault_at : (items : List (List ℕ)) (column : ℕ) (kind : SchemaKind) → all_or_first 1 (each_column [] items) ≡ Err (column, kind) → HasFaultAt items column kind
fault_at items column kind is =
    let s = all-stops 1 (each_column [] items) column kind is in
    let c = cut_at [] items s.before kind s.after s.split in
    let so = each-so [] c.front s.before c.read in
    let said : column_or_fault (map (λ d. d.name) s.before) (name_in c.item) (type_in c.item) ≡ Err kind = sym (after_columns c.front c.item s.before c.read) ∙ c.fault in
    record {
      before = c.front;
      item = c.item;
      after = c.rest;
      columns = s.before;
      cut = c.cut;
      counted = omega (arith, s.counted, c.count);
      written = so-written [] c.front s.before so;
      distinct = (free-valid [] s.before (so-free [] c.front s.before so)).distinct;
      fault = fault_so s.before c.item kind (name_in c.item) (type_in c.item) refl refl said;
    }

lies : (text : List ℕ) (column : ℕ) (kind : SchemaKind) → list_all is_blank text ≡ false → length (items_of text) ≤ 255 → HasFaultAt (items_of text) column kind → FaultLies text column kind
lies text column Empty shown few h = absurd h.fault
lies text column TooMany shown few h = absurd h.fault
lies text column BadName shown few h = (shown, few, h)
lies text column BadType shown few h = (shown, few, h)
lies text column Repeated shown few h = (shown, few, h)

abbrev fault_of : ℕ → SchemaKind → SchemaFault
fault_of column kind = record { column = column; kind = kind }

abbrev told : ℕ → SchemaKind → Result (List Column) SchemaFault
told column kind = Err (fault_of column kind)

same_fault : (a b : ℕ) (j k : SchemaKind) → told a j ≡ told b k → (a ≡ b) × (j ≡ k)
same_fault a b j k is =
    let same : fault_of a j ≡ fault_of b k = cc in
    (ap (λ (f : SchemaFault). f.column) same, ap (λ (f : SchemaFault). f.kind) same)

not_found : (found : Result (List Column) (ℕ × SchemaKind)) (column : ℕ) (kind : SchemaKind) → schema_or_fault found ≡ told column kind → found ≡ Err (column, kind)
not_found (Ok columns) column kind is = cc
not_found (Err (at, why)) column kind is = let same = same_fault at column why kind is in rw (same.0, same.1) refl

pub first-fault : (text : List ℕ) (column : ℕ) (kind : SchemaKind) → read_schema text ≡ told column kind → FaultLies text column kind
unfolding read_schema
first-fault text column kind is = by (list_all is_blank text) (nat_lt 255 (length (items_of text))) refl refl is
  where
    F : ℕ → SchemaKind → Type 0
    F n k = FaultLies text n k

    by : (blank many : Bool) → list_all is_blank text ≡ blank → nat_lt 255 (length (items_of text)) ≡ many → (if blank then told 0 Empty else (if many then told 256 TooMany else columns_of (items_of text))) ≡ told column kind → FaultLies text column kind
    by true many shown few here = let same = same_fault 0 column Empty kind here in rw (← same.0, ← same.1) (refl, shown)
    by false true shown few here = let same = same_fault 256 column TooMany kind here in rw (← same.0, ← same.1) (refl, shown, ltb-true 255 (length (items_of text)) few)
    by false false shown few here =
        lies text column kind shown (ltb-false 255 (length (items_of text)) few) (fault_at (items_of text) column kind (not_found (all_or_first 1 (each_column [] (items_of text))) column kind here))

pub first_so : (text : List ℕ) (fault : MetaFault) → IsFaultIn fault (read_schema text) → IsFirstFault fault text
first_so text (Bad column kind) is = first-fault text column kind is
first_so text OutOfMemory is = tt
