-- The columns that are indexed: each can have an index and is one that is asked for, and a list is taken where it names such columns.
use Rattle.std.proofs.Common.{◌≡◌, ◌≢◌, ◌+◌, ◌<◌, ◌≤◌, ◌==◌, ◌||◌, nat_lt, ℕ, zero, suc, Bool, true, false, cond, eqb, not, if◌then◌else◌, List, [], ◌∷◌, ◌++◌, length, map, drop, get_or, Bor, Option, Some, None, option_map, IsSome, is_some, refl, sym, ap, subst, ◌∙◌, arith, append_assoc, append-nil}
use Rattle.std.specs.List.{All, AllByRecursion, AllPairs, AllZip, IsDistinct, enumerate_from, filter, list_any, position_or_len, slice_get}
use Rattle.std.specs.Option.{option_and_then, option_map_or}
use Rattle.std.specs.Prelude.{Result, Ok, Err}
use Rattle.std.specs.Str.{bytes_eq}
use Rattle.std.proofs.lemmas.Bool.Decides.{Decides-eqb, nat_tests}
use Rattle.std.proofs.Math.ListN.{drop_of_length-le}
use Rattle.std.proofs.lemmas.List.{drop_more, get_or-map, length-append, length-map}
use Rattle.std.proofs.lemmas.List.Elements.{All-cons, All-nil, All-tail}
use Rattle.std.proofs.lemmas.List.Quantifiers.{all_pairs_push, position-Some}
use Rattle.std.proofs.lemmas.List.FromFn.{length-enumerate_from}
use Rattle.std.proofs.lemmas.List.Sums.{count_by-le-length, length-filter, position_or_len_is}
use Rattle.std.proofs.lemmas.Map.Steps.{length-le_from_distinct_below}
use Rattle.std.proofs.lemmas.Option.{get_or_from_slice_get, slice_get-get_or, slice_get_within}
use Rattle.std.proofs.lemmas.Slice.Eq.{bytes_eq-Decides}
use Rattle.fb_types.specs.declared.schemas.Column.{Column}
use Rattle.fb_types.specs.Field.{trimmed}
use Rattle.fb_types.specs.Names.{IsColumnName, column_name}
use Rattle.fb_types.specs.SchemaText.{SpellsName, items_of}
use Rattle.fb_types.specs.Schemas.{IsSchema, place_of}
use Rattle.fb_types.specs.Types.{width_of}
use Rattle.fb_types.proofs.ItemFacts.{name_found, name_spelled}
use Rattle.world.proofs.PlaceLemmas.{All-at}
use Rattle.statuses.specs.declared.Status.{Status}
use Rattle.statuses.specs.declared.Status.TheVariants.{BadSpec}
use Rattle.index_spec.specs.declared.spec.SpecKind.TheVariants.{Repeated, WrongType}
use Rattle.statuses.specs.Outcome.{◌>>=◌}
use Rattle.statuses.specs.declared.stop.Unanswered.{Unanswered}
use Rattle.statuses.specs.declared.stop.Unanswered.TheVariants.{Refused, StoreFault, OutOfMemory}
use Rattle.ibis_build.specs.Causes.{IsAmong, RefusesBy}
use Rattle.ibis_build.specs.Columns.{Lists, NamesColumn, can_have_index, can_have_index_at, chosen_columns, column_or_refusal, columns_behind, every_column, listed_columns, place_in}
use Rattle.ibis_build.specs.Looks.{IsAskedName, IsListed}

-- ---- one piece

pub record IsTaken (schema : List Column) (before : List ℕ) (named : Option ℕ) (col : ℕ) : Type 0 where
  pub is : named ≡ Some col
  pub can : can_have_index_at schema col ≡ true
  pub free : list_any (λ other. other == col) before ≡ false

taken : (schema : List Column) (before : List ℕ) (named : Option ℕ) (col : ℕ) → column_or_refusal schema before named ≡ Ok col → IsTaken schema before named col
taken schema before None col e = absurd (cc)
taken schema before (Some c) col e = by (can_have_index_at schema c) refl e
  where
    last : (b : Bool) → list_any (λ other. other == c) before ≡ b → can_have_index_at schema c ≡ true
        → (if b then Err (BadSpec Repeated) else Ok c) ≡ Ok col → IsTaken schema before (Some c) col
    last true f can k = absurd (cc)
    last false f can k =
        let same : c ≡ col = cc in
        let P : ℕ → Type 0 = λ x. IsTaken schema before (Some c) x in
        let base : P c = record { is = refl; can = can; free = f } in
        subst P same base

    by : (b : Bool) → can_have_index_at schema c ≡ b
        → (if not b then Err (BadSpec WrongType) else (if list_any (λ other. other == c) before then Err (BadSpec Repeated) else Ok c)) ≡ Ok col
        → IsTaken schema before (Some c) col
    by true can k = last (list_any (λ other. other == c) before) refl can k
    by false can k = absurd (cc)

takes : (schema : List Column) (before : List ℕ) (named : Option ℕ) (col : ℕ) → IsTaken schema before named col → column_or_refusal schema before named ≡ Ok col
takes schema before named col h = ap (column_or_refusal schema before) h.is ∙ rw (h.can, h.free) refl

-- ---- pieces one after another

unfoldable AreTaken : List Column → (before : List ℕ) → List (List ℕ) → List ℕ → Type 0
AreTaken schema before [] [] = Unit {0}
AreTaken schema before [] (col ∷ cols) = ⊥
AreTaken schema before (piece ∷ pieces) [] = ⊥
AreTaken schema before (piece ∷ pieces) (col ∷ cols) =
    IsTaken schema before (place_in schema piece) col × AreTaken schema (before ++ col ∷ []) pieces cols

record Behind (schema : List Column) (before : List ℕ) (pieces : List (List ℕ)) (cols : List ℕ) : Type 0 where
  pub rest : List ℕ
  pub are : cols ≡ before ++ rest
  pub each : AreTaken schema before pieces rest

behind-step : (schema : List Column) (before : List ℕ) (piece : List ℕ) (pieces : List (List ℕ)) (col : ℕ)
    → column_or_refusal schema before (place_in schema piece) ≡ Ok col
    → columns_behind schema before (piece ∷ pieces) ≡ columns_behind schema (before ++ col ∷ []) pieces
unfolding columns_behind
behind-step schema before piece pieces col e =
    ap (λ (r : Result ℕ Status). r >>= (λ c. columns_behind schema (before ++ c ∷ []) pieces)) e

behind-stop : (schema : List Column) (before : List ℕ) (piece : List ℕ) (pieces : List (List ℕ)) (status : Status)
    → column_or_refusal schema before (place_in schema piece) ≡ Err status → columns_behind schema before (piece ∷ pieces) ≡ Err status
unfolding columns_behind
behind-stop schema before piece pieces status e =
    ap (λ (r : Result ℕ Status). r >>= (λ c. columns_behind schema (before ++ c ∷ []) pieces)) e

behind-end : (schema : List Column) (before : List ℕ) → columns_behind schema before [] ≡ Ok before
unfolding columns_behind
behind-end schema before = refl

-- ---- the pieces of a list, one after another

abbrev bytes-of : List (Bor (List ℕ)) → List (List ℕ)
bytes-of xs = map {B = List ℕ} (λ (p : Bor (List ℕ)). p.now) xs

pieces-at : (xs : List (Bor (List ℕ))) (k : ℕ) (d : Bor (List ℕ)) → k < length xs
    → drop k (bytes-of xs) ≡ (get_or xs k d).now ∷ drop (k + 1) (bytes-of xs)
pieces-at xs k d less =
    drop_more (bytes-of xs) k (get_or xs k d).now (omega (arith, less, length-map {B = List ℕ} xs (λ (p : Bor (List ℕ)). p.now)))
    ∙ ap (λ (b : List ℕ). b ∷ drop (k + 1) (bytes-of xs)) (get_or-map (λ (p : Bor (List ℕ)). p.now) xs k d (get_or xs k d).now less)

module _ (schema : List Column) (before : List ℕ) (xs : List (Bor (List ℕ))) (k : ℕ) (defined : Result (List ℕ) Status)
    (so-far : defined ≡ columns_behind schema before (drop k (bytes-of xs))) where
  -- the column of the next piece stands behind those before it
  pub piece-taken : (d : Bor (List ℕ)) (col : ℕ) → k < length xs → column_or_refusal schema before (place_in schema (get_or xs k d).now) ≡ Ok col
      → defined ≡ columns_behind schema (before ++ col ∷ []) (drop (k + 1) (bytes-of xs))
  piece-taken d col less e =
      so-far ∙ ap (columns_behind schema before) (pieces-at xs k d less)
      ∙ behind-step schema before (get_or xs k d).now (drop (k + 1) (bytes-of xs)) col e

  -- or it is the refusal
  pub piece-refused : (d : Bor (List ℕ)) (stop : Unanswered) → k < length xs
      → RefusesBy (column_or_refusal schema before (place_in schema (get_or xs k d).now)) stop → RefusesBy defined stop
  piece-refused d (Refused status) less e =
      so-far ∙ ap (columns_behind schema before) (pieces-at xs k d less)
      ∙ behind-stop schema before (get_or xs k d).now (drop (k + 1) (bytes-of xs)) status e
  piece-refused d StoreFault less e = e
  piece-refused d OutOfMemory less e = tt

  -- behind the last piece all are there
  pub pieces-end : length xs ≤ k → defined ≡ Ok before
  pieces-end past =
      so-far
      ∙ ap (columns_behind schema before)
      (drop_of_length-le (bytes-of xs) (omega (arith, past, length-map {B = List ℕ} xs (λ (p : Bor (List ℕ)). p.now))))
      ∙ behind-end schema before

ok_same : (r : Result (List ℕ) Status) (a b : List ℕ) → r ≡ Ok a → r ≡ Ok b → a ≡ b
ok_same r a b e h = cc

behind-by : (schema : List Column) (before : List ℕ) (piece : List ℕ) (pieces : List (List ℕ)) (cols : List ℕ) (r : Result ℕ Status)
    → column_or_refusal schema before (place_in schema piece) ≡ r → columns_behind schema before (piece ∷ pieces) ≡ Ok cols
    → ((col : ℕ) → columns_behind schema (before ++ col ∷ []) pieces ≡ Ok cols → Behind schema (before ++ col ∷ []) pieces cols)
    → Behind schema before (piece ∷ pieces) cols
unfolding AreTaken
behind-by schema before piece pieces cols (Ok col) h e rest =
    let more = rest col (sym (behind-step schema before piece pieces col h) ∙ e) in
    record {
      rest = col ∷ more.rest;
      are = more.are ∙ append_assoc before (col ∷ []) more.rest;
      each = (taken schema before (place_in schema piece) col h, more.each);
    }
behind-by schema before piece pieces cols (Err status) h e rest =
    let bad : Err status ≡ Ok cols = sym (behind-stop schema before piece pieces status h) ∙ e in absurd (cc)

behind : (schema : List Column) (before : List ℕ) (pieces : List (List ℕ)) (cols : List ℕ) → columns_behind schema before pieces ≡ Ok cols
    → Behind schema before pieces cols
unfolding AreTaken
behind schema before [] cols e =
    let same : before ≡ cols = ok_same (columns_behind schema before []) before cols (behind-end schema before) e in
    record { rest = []; are = sym same ∙ sym (append-nil before); each = tt }
behind schema before (piece ∷ pieces) cols e =
    behind-by schema before piece pieces cols (column_or_refusal schema before (place_in schema piece)) refl e
    (λ col h. behind schema (before ++ col ∷ []) pieces cols h)

ahead : (schema : List Column) (before : List ℕ) (pieces : List (List ℕ)) (rest : List ℕ) → AreTaken schema before pieces rest
    → columns_behind schema before pieces ≡ Ok (before ++ rest)
unfolding AreTaken
ahead schema before [] [] h = behind-end schema before ∙ ap Ok (sym (append-nil before))
ahead schema before [] (col ∷ cols) h = absurd h
ahead schema before (piece ∷ pieces) [] h = absurd h
ahead schema before (piece ∷ pieces) (col ∷ cols) h =
    behind-step schema before piece pieces col (takes schema before (place_in schema piece) col h.0)
    ∙ ahead schema (before ++ col ∷ []) pieces cols h.1 ∙ ap Ok (append_assoc before (col ∷ []) cols)

-- ---- each can have an index

all-can : (schema : List Column) (before : List ℕ) (pieces : List (List ℕ)) (rest : List ℕ) → AreTaken schema before pieces rest
    → All (λ col. can_have_index_at schema col ≡ true) rest
unfolding AreTaken
all-can schema before [] [] h = All-nil (λ col. can_have_index_at schema col ≡ true)
all-can schema before [] (col ∷ cols) h = absurd h
all-can schema before (piece ∷ pieces) [] h = absurd h
all-can schema before (piece ∷ pieces) (col ∷ cols) h =
    All-cons (λ (c : ℕ). can_have_index_at schema c ≡ true) col cols h.0.can (all-can schema (before ++ col ∷ []) pieces cols h.1)

at-end : (front : List Column) (column : Column) (columns : List Column) → slice_get (front ++ column ∷ columns) (length front) ≡ Some column
at-end [] column columns = refl
at-end (first ∷ front) column columns = at-end front column columns

abbrev places : List (ℕ × Column) → List ℕ
places cs = map (λ c. c.0) (filter (λ c. can_have_index c.1) cs)

every-by : (schema : List Column) (column : Column) (columns : List Column) (n : ℕ) (b : Bool) → can_have_index column ≡ b
    → slice_get schema n ≡ Some column → All (λ col. can_have_index_at schema col ≡ true) (places (enumerate_from (n + 1) columns))
    → All (λ col. can_have_index_at schema col ≡ true) (places (enumerate_from n (column ∷ columns)))
every-by schema column columns n true can here more =
    let split : places (enumerate_from n (column ∷ columns)) ≡ n ∷ places (enumerate_from (n + 1) columns) =
    ap (λ (b : Bool). map (λ (c : ℕ × Column). c.0) (cond b ((n, column) ∷ filter (λ (c : ℕ × Column). can_have_index c.1) (enumerate_from (n + 1) columns)) (filter (λ (c : ℕ × Column). can_have_index c.1) (enumerate_from (n + 1) columns)))) can in
    subst (All (λ (col : ℕ). can_have_index_at schema col ≡ true)) (sym split)
    (All-cons (λ (col : ℕ). can_have_index_at schema col ≡ true) n (places (enumerate_from (n + 1) columns))
    (ap (λ (o : Option Column). option_map_or can_have_index o false) here ∙ can) more)
every-by schema column columns n false can here more =
    let split : places (enumerate_from n (column ∷ columns)) ≡ places (enumerate_from (n + 1) columns) =
    ap (λ (b : Bool). map (λ (c : ℕ × Column). c.0) (cond b ((n, column) ∷ filter (λ (c : ℕ × Column). can_have_index c.1) (enumerate_from (n + 1) columns)) (filter (λ (c : ℕ × Column). can_have_index c.1) (enumerate_from (n + 1) columns)))) can in
    subst (All (λ (col : ℕ). can_have_index_at schema col ≡ true)) (sym split) more

at-next : (schema front : List Column) (column : Column) (columns : List Column) (n : ℕ) → schema ≡ front ++ column ∷ columns → n ≡ length front
    → slice_get schema n ≡ Some column
at-next schema front column columns n e size =
    ap (λ (k : ℕ). slice_get schema k) size ∙ ap (λ (s : List Column). slice_get s (length front)) e ∙ at-end front column columns

one-more : (front : List Column) (column : Column) (n : ℕ) → n ≡ length front → n + 1 ≡ length (front ++ column ∷ [])
one-more front column n size = let both = length-append front (column ∷ []) in omega (arith, size, both)

every-can : (schema front columns : List Column) (n : ℕ) → schema ≡ front ++ columns → n ≡ length front
    → All (λ col. can_have_index_at schema col ≡ true) (places (enumerate_from n columns))
every-can schema front [] n e size = All-nil (λ (col : ℕ). can_have_index_at schema col ≡ true)
every-can schema front (column ∷ columns) n e size =
    every-by schema column columns n (can_have_index column) refl (at-next schema front column columns n e size)
    (every-can schema (front ++ column ∷ []) columns (n + 1) (e ∙ sym (append_assoc front (column ∷ []) columns)) (one-more front column n size))

pub chosen-can : (schema : List Column) (list : Option (List ℕ)) (cols : List ℕ) → chosen_columns schema list ≡ Ok cols
    → All (λ col. can_have_index_at schema col ≡ true) cols
chosen-can schema None cols e =
    subst (All (λ (col : ℕ). can_have_index_at schema col ≡ true)) (ok_same (chosen_columns schema None) (every_column schema) cols refl e)
    (every-can schema [] schema 0 refl refl)
chosen-can schema (Some list) cols e =
    let h = behind schema [] (items_of list) cols e in
    subst (All (λ (col : ℕ). can_have_index_at schema col ≡ true)) (sym h.are) (all-can schema [] (items_of list) h.rest h.each)

-- a column that can have an index is there, and has a width
pub record HasColumn (schema : List Column) (col : ℕ) : Type 0 where
  pub column : Column
  pub in_schema : slice_get schema col ≡ Some column
  pub width : IsSome (width_of column.ty)

pub can-column : (schema : List Column) (col : ℕ) → can_have_index_at schema col ≡ true → HasColumn schema col
can-column schema col can = by (slice_get schema col) refl
  where
    by : (o : Option Column) → slice_get schema col ≡ o → HasColumn schema col
    by None e = let bad : false ≡ true = sym (ap (λ (o : Option Column). option_map_or can_have_index o false) e) ∙ can in absurd (cc)
    by (Some column) e = record { column = column; in_schema = e; width = sym (ap (λ (o : Option Column). option_map_or can_have_index o false) e) ∙ can }

-- ---- the names of a list

record IsPlace (schema : List Column) (name : List ℕ) (col : ℕ) : Type 0 where
  pub column : Column
  pub in_schema : slice_get schema col ≡ Some column
  pub named : column.name ≡ name

column-placed : (schema : List Column) (name : List ℕ) (col : ℕ) (d : Column) → place_of schema name ≡ Some col → IsPlace schema name col
column-placed schema name col d e =
    let test = position-Some (λ (c : Column). bytes_eq c.name name) schema col d e in
    record {
      column = get_or schema col d;
      in_schema = slice_get-get_or schema col d test.0;
      named = (bytes_eq-Decides (get_or schema col d).name name).0 test.1;
    }

names-column : (schema : List Column) (before : List ℕ) (piece : List ℕ) (col : ℕ) → IsTaken schema before (place_in schema piece) col → NamesColumn schema piece col
names-column schema before piece col h = by (column_name (trimmed piece)) refl
  where
    has : HasColumn schema col
    has = can-column schema col h.can

    by : (o : Option (List ℕ)) → column_name (trimmed piece) ≡ o → NamesColumn schema piece col
    by None e = let bad : None ≡ Some col = sym (ap (option_and_then (place_of schema)) e) ∙ h.is in absurd (cc)
    by (Some name) e =
        let at : place_of schema name ≡ Some col = sym (ap (option_and_then (place_of schema)) e) ∙ h.is in
        let placed = column-placed schema name col has.column at in
        let both : Some placed.column ≡ Some has.column = sym placed.in_schema ∙ has.in_schema in
        let same : placed.column ≡ has.column = cc in
        record {
          column = has.column;
          in_schema = has.in_schema;
          named = name_spelled piece has.column.name (e ∙ ap Some (sym placed.named ∙ ap (λ (c : Column). c.name) same));
          width = has.width;
        }

names-each : (schema : List Column) (before : List ℕ) (pieces : List (List ℕ)) (rest : List ℕ) → AreTaken schema before pieces rest
    → AllZip (NamesColumn schema) pieces rest
unfolding AreTaken
names-each schema before [] [] h = tt
names-each schema before [] (col ∷ cols) h = absurd h
names-each schema before (piece ∷ pieces) [] h = absurd h
names-each schema before (piece ∷ pieces) (col ∷ cols) h =
    (names-column schema before piece col h.0, names-each schema (before ++ col ∷ []) pieces cols h.1)

-- none that stands before
not-by : (first : ℕ) (before : List ℕ) (col : ℕ) (b : Bool) (k d : ℕ) → (first == col) ≡ b → list_any (λ other. other == col) (first ∷ before) ≡ false
    → k < length (first ∷ before)
    → ((i : ℕ) → list_any (λ other. other == col) before ≡ false → i < length before → get_or before i d ≢ col) → get_or (first ∷ before) k d ≢ col
not-by first before col true k d e free within rest =
    let bad : true ≡ false = sym (ap (λ (t : Bool). t || list_any (λ other. other == col) before) e) ∙ free in absurd (cc)
not-by first before col false zero d e free within rest = λ same. let t : (first == col) ≡ true = (Decides-eqb first col).1 same in cc
not-by first before col false (suc k) d e free within rest =
    rest k (sym (ap (λ (t : Bool). t || list_any (λ other. other == col) before) e) ∙ free) (omega (arith, within))

not-among : (before : List ℕ) (col k d : ℕ) → list_any (λ other. other == col) before ≡ false → k < length before → get_or before k d ≢ col
not-among [] col k d free within = absurd (omega arith)
not-among (first ∷ before) col k d free within =
    not-by first before col (first == col) k d refl free within (λ i later less. not-among before col i d later less)

distinct-more : (schema : List Column) (before : List ℕ) (pieces : List (List ℕ)) (rest : List ℕ) → AreTaken schema before pieces rest
    → AllPairs (λ a b. a ≢ b) before → AllPairs (λ a b. a ≢ b) (before ++ rest)
unfolding AreTaken
distinct-more schema before [] [] h k = subst (AllPairs (λ (a b : ℕ). a ≢ b)) (sym (append-nil before)) k
distinct-more schema before [] (col ∷ cols) h k = absurd h
distinct-more schema before (piece ∷ pieces) [] h k = absurd h
distinct-more schema before (piece ∷ pieces) (col ∷ cols) h k =
    subst (AllPairs (λ (a b : ℕ). a ≢ b)) (append_assoc before (col ∷ []) cols)
    (distinct-more schema (before ++ col ∷ []) pieces cols h.1
    (all_pairs_push (λ (a b : ℕ). a ≢ b) before col k (λ i d within. not-among before col i d h.0.free within)))

pub listed-lists : (schema : List Column) (list cols : List ℕ) → listed_columns schema list ≡ Ok cols → Lists schema list cols
listed-lists schema list cols e =
    let h = behind schema [] (items_of list) cols e in
    record {
      each = subst (AllZip (NamesColumn schema) (items_of list)) (sym h.are) (names-each schema [] (items_of list) h.rest h.each);
      distinct = subst (AllPairs (λ (a b : ℕ). a ≢ b)) (sym h.are)
          (distinct-more schema [] (items_of list) h.rest h.each (λ i j d less within. absurd (omega arith)));
    }

-- ---- the name of a column that is indexed is one that is asked for

record Named (schema : List Column) (pieces : List (List ℕ)) (place col : ℕ) : Type 0 where
  pub piece : List ℕ
  pub there : slice_get pieces place ≡ Some piece
  pub names : NamesColumn schema piece col

named-at : (schema : List Column) (pieces : List (List ℕ)) (cols : List ℕ) (place col : ℕ) → AllZip (NamesColumn schema) pieces cols
    → slice_get cols place ≡ Some col → Named schema pieces place col
named-at schema [] [] place col h e = absurd (cc)
named-at schema [] (c ∷ cols) place col h e = absurd h
named-at schema (piece ∷ pieces) [] place col h e = absurd h
named-at schema (piece ∷ pieces) (c ∷ cols) zero col h e =
    let same : c ≡ col = cc in
    record { piece = piece; there = refl; names = subst (NamesColumn schema piece) same h.0 }
named-at schema (piece ∷ pieces) (c ∷ cols) (suc place) col h e =
    let more = named-at schema pieces cols place col h.1 e in record { piece = more.piece; there = more.there; names = more.names }

pub asked-name : (schema : List Column) (list : Option (List ℕ)) (cols : List ℕ) (column : Column) → IsSchema schema → chosen_columns schema list ≡ Ok cols
    → IsAmong schema cols column → IsAskedName list column.name
asked-name schema None cols column valid e among = All-at (λ (c : Column). IsColumnName c.name) schema among.col column among.in_schema valid.named
asked-name schema (Some list) cols column valid e among =
    let at = named-at schema (items_of list) cols among.place among.col (listed-lists schema list cols e).each among.asked in
    let both : Some at.names.column ≡ Some column = sym at.names.in_schema ∙ among.in_schema in
    let same : at.names.column ≡ column = cc in
    record { place = among.place; piece = at.piece; there = at.there; spells = subst (λ (c : Column). SpellsName at.piece c.name) same at.names.named }

-- ---- a list that names columns is taken

lt-test : (i n : ℕ) (b : Bool) → nat_lt i n ≡ b → i < n → b ≡ true
lt-test i n true e h = refl
lt-test i n false e h = let past : n ≤ i = grind (arith, nat_tests) in absurd (omega (arith, past, h))

first-place : (schema : List Column) (col : ℕ) (column : Column) → IsSchema schema → slice_get schema col ≡ Some column → place_of schema column.name ≡ Some col
first-place schema col column valid there =
    ap (λ (n : ℕ). cond (nat_lt n (length schema)) (Some n) None) at ∙ ap (λ (b : Bool). cond b (Some col) None) within
  where
    inside : col < length schema
    inside = slice_get_within schema col column there

    is : get_or schema col column ≡ column
    is = get_or_from_slice_get schema col column column there

    fails : (k : ℕ) → k < col → bytes_eq (get_or schema k column).name column.name ≡ false
    fails k less = by (bytes_eq (get_or schema k column).name column.name) refl
      where
        by : (b : Bool) → bytes_eq (get_or schema k column).name column.name ≡ b → bytes_eq (get_or schema k column).name column.name ≡ false
        by false e = e
        by true e =
            absurd (valid.distinct k col column less inside
            ((bytes_eq-Decides (get_or schema k column).name column.name).0 e ∙ ap (λ (c : Column). c.name) (sym is)))

    at : position_or_len (λ (c : Column). bytes_eq c.name column.name) schema ≡ col
    at =
        position_or_len_is (λ (c : Column). bytes_eq c.name column.name) schema col column (omega (arith, inside)) fails
        (λ _. ap (λ (c : Column). bytes_eq c.name column.name) is ∙ (bytes_eq-Decides column.name column.name).1 refl)

    within : nat_lt col (length schema) ≡ true
    within = lt-test col (length schema) (nat_lt col (length schema)) refl inside

column-taken : (schema : List Column) (before : List ℕ) (piece : List ℕ) (col : ℕ) → IsSchema schema → NamesColumn schema piece col
    → list_any (λ other. other == col) before ≡ false → IsTaken schema before (place_in schema piece) col
column-taken schema before piece col valid n free =
    record {
      is = ap (option_and_then (place_of schema)) (name_found piece n.column.name n.named) ∙ first-place schema col n.column valid n.in_schema;
      can = ap (λ (o : Option Column). option_map_or can_have_index o false) n.in_schema ∙ n.width;
      free = free;
    }

free-by : (first : ℕ) (before : List ℕ) (col : ℕ) (b : Bool) → (first == col) ≡ b → (first ≡ col → ⊥)
    → list_any (λ other. other == col) before ≡ false → list_any (λ other. other == col) (first ∷ before) ≡ false
free-by first before col true e apart rest = absurd (apart ((Decides-eqb first col).0 e))
free-by first before col false e apart rest = ap (λ (t : Bool). t || list_any (λ other. other == col) before) e ∙ rest

free-of : (before : List ℕ) (col : ℕ) → ((k d : ℕ) → k < length before → get_or before k d ≢ col) → list_any (λ other. other == col) before ≡ false
free-of [] col h = refl
free-of (first ∷ before) col h =
    free-by first before col (first == col) refl (h 0 0 (omega arith)) (free-of before col (λ k d within. h (suc k) d (omega (arith, within))))

get_or-left : (xs ys : List ℕ) (k d : ℕ) → k < length xs → get_or (xs ++ ys) k d ≡ get_or xs k d
get_or-left [] ys k d within = absurd (omega arith)
get_or-left (x ∷ xs) ys zero d within = refl
get_or-left (x ∷ xs) ys (suc k) d within = get_or-left xs ys k d (omega arith)

get_or-right : (xs : List ℕ) (y : ℕ) (ys : List ℕ) (d : ℕ) → get_or (xs ++ y ∷ ys) (length xs) d ≡ y
get_or-right [] y ys d = refl
get_or-right (x ∷ xs) y ys d = get_or-right xs y ys d

all-taken : (schema : List Column) (before : List ℕ) (pieces : List (List ℕ)) (rest : List ℕ) → IsSchema schema → AllZip (NamesColumn schema) pieces rest
    → AllPairs (λ a b. a ≢ b) (before ++ rest) → AreTaken schema before pieces rest
unfolding AreTaken
all-taken schema before [] [] valid h apart = tt
all-taken schema before [] (col ∷ cols) valid h apart = absurd h
all-taken schema before (piece ∷ pieces) [] valid h apart = absurd h
all-taken schema before (piece ∷ pieces) (col ∷ cols) valid h apart = (
  column-taken schema before piece col valid h.0 (free-of before col free),
  all-taken schema (before ++ col ∷ []) pieces cols valid h.1 (subst (AllPairs (λ (a b : ℕ). a ≢ b)) (sym (append_assoc before (col ∷ []) cols)) apart),
)
  where
    free : (k d : ℕ) → k < length before → get_or before k d ≢ col
    free k d within e =
        let size = length-append before (col ∷ cols) in
        apart k (length before) d within (omega (arith, size)) (get_or-left before (col ∷ cols) k d within ∙ e ∙ sym (get_or-right before col cols d))

pub lists-listed : (schema : List Column) (list cols : List ℕ) → IsSchema schema → Lists schema list cols → listed_columns schema list ≡ Ok cols
lists-listed schema list cols valid h = ahead schema [] (items_of list) cols (all-taken schema [] (items_of list) cols valid h.each h.distinct)

-- ---- there are at most as many as the schema has columns

differ : (x y : ℕ) (b : Bool) → (x == y) ≡ b → x ≢ y → (x == y) ≡ false
differ x y true e apart = absurd (apart ((Decides-eqb x y).0 e))
differ x y false e apart = e

below-by : (n x : ℕ) (xs : List ℕ) (q : ℕ) (b : Bool) → eqb q x ≡ b → list_any (eqb q) (x ∷ xs) ≡ true → x < n → (list_any (eqb q) xs ≡ true → q < n) → q < n
below-by n x xs q true e any less rest = let same : q ≡ x = (Decides-eqb q x).0 e in omega (arith, same, less)
below-by n x xs q false e any less rest = rest (sym (ap (λ (t : Bool). t || list_any (eqb q) xs) e) ∙ any)

apart-all : (x : ℕ) (xs : List ℕ) → ((k d : ℕ) → k < length xs → x ≢ get_or xs k d) → AllByRecursion (λ y. (x == y) ≡ false) xs
apart-all x [] h = tt
apart-all x (y ∷ ys) h = (differ x y (x == y) refl (h 0 0 (omega arith)), apart-all x ys (λ k d within. h (suc k) d (omega (arith, within))))

distinct-of : (xs : List ℕ) → AllPairs (λ a b. a ≢ b) xs → IsDistinct eqb xs
unfolding IsDistinct
distinct-of [] h = tt
distinct-of (x ∷ xs) h = (
  apart-all x xs (λ k d within. h 0 (suc k) d (omega arith) (omega (arith, within))),
  distinct-of xs (λ i j d less within. h (suc i) (suc j) d (omega (arith, less)) (omega (arith, within))),
)

below-all : (n : ℕ) (xs : List ℕ) → All (λ x. x < n) xs → (q : ℕ) → list_any (eqb q) xs ≡ true → q < n
below-all n [] h q e = absurd (cc)
below-all n (x ∷ xs) h q e = below-by n x xs q (eqb q x) refl e (h 0 x (omega arith)) (below-all n xs (All-tail (λ (y : ℕ). y < n) x xs h) q)

can-below : (schema : List Column) (cols : List ℕ) → All (λ col. can_have_index_at schema col ≡ true) cols → All (λ col. col < length schema) cols
can-below schema cols h k d within =
    let has = can-column schema (get_or cols k d) (h k d within) in slice_get_within schema (get_or cols k d) has.column has.in_schema

pub chosen-few : (schema : List Column) (list : Option (List ℕ)) (cols : List ℕ) → IsSchema schema → chosen_columns schema list ≡ Ok cols → length cols ≤ 255
chosen-few schema None cols valid e =
    let is = ok_same (chosen_columns schema None) (every_column schema) cols refl e in
    let kept = filter (λ (c : ℕ × Column). can_have_index c.1) (enumerate_from 0 schema) in
    let mapped : length (every_column schema) ≡ length kept = length-map kept (λ (c : ℕ × Column). c.0) in
    let counted = length-filter (λ (c : ℕ × Column). can_have_index c.1) (enumerate_from 0 schema) in
    let most = count_by-le-length (λ (c : ℕ × Column). can_have_index c.1) (enumerate_from 0 schema) in
    let all = length-enumerate_from 0 schema in
    omega (arith, ap length is, mapped, counted, most, all, valid.few)
chosen-few schema (Some list) cols valid e =
    let most =
    length-le_from_distinct_below cols (length schema) (distinct-of cols (listed-lists schema list cols e).distinct)
    (below-all (length schema) cols (can-below schema cols (chosen-can schema (Some list) cols e))) in
    omega (arith, most, valid.few)
