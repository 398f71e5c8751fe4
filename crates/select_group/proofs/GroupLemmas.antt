-- The groups of records: grown by one record, and their rows in order.
use Rattle.std.proofs.Common.{◌≡◌, ℕ, zero, suc, ◌+◌, ◌<◌, ◌≤◌, Bool, true, false, cond, ◌||◌, List, [], ◌∷◌, ◌++◌, length, length-append, map, filter, Option, Some, None, is_some, ℤ, refl, sym, ap, subst, ◌∙◌, append-nil, append_assoc, arith}
use Rattle.std.specs.Prelude.{slice_get, IfSome}
use Rattle.std.specs.List.{AllByRecursion, IsDistinct, list_any}
use Rattle.std.specs.List.Sorted.{IsSorted, IsStrictlySortedBy}
use Rattle.std.specs.Map.{keys_of, lookup}
use Rattle.std.proofs.lemmas.Map.Entries.{lookup_from_place}
use Rattle.std.proofs.lemmas.Map.Made.{is_some-lookup}
use Rattle.fb_types.specs.declared.cells.Cell.{Cell}
use Rattle.query_grammar.specs.declared.picking.PickItem.{PickItem}
use Rattle.query_grammar.specs.declared.picking.Pick.{Pick}
use Rattle.query_grammar.specs.Picks.{is_total}
use Rattle.select_group.specs.Answer.{group_row, groups_of, has_key, key_of, total}
use Rattle.select_group.specs.Gathered.{AreGroupsOf, CanBeAdded, Gathered, Groups, Held, SameTotals, totals, totals_at, totals_if}
use Rattle.select_group.specs.Keys.{cells_cmp-same, cells_cmp-total, cells_eq-equivalence, cells_eq-same}
use Rattle.select_group.specs.Order.{rising_keys}
use Rattle.select_group.specs.Rows.{cells_cmp, cells_eq, first_cell, number_cell, other_cells}
use Rattle.select_group.specs.Totals.{AllFit, FitsItems, GrowsAt, HasOneEach, OneMore, grown, numbers_of, row_of_totals, rows_of}
use Rattle.select_group.proofs.Rising.{insert_members, insert_rises, rises_from_sorted, rising_same}
use Rattle.select_group.proofs.TotalLemmas.{fits_more, group_push, grown_fits, length-key_of}

abbrev Totals : Type 0
Totals = List (Option ℤ)

-- ---- rising keys

pub keys_rise : (keys : List (List Cell)) → IsStrictlySortedBy cells_cmp (rising_keys keys)
unfolding IsStrictlySortedBy
keys_rise [] = tt
keys_rise (key ∷ keys) = insert_rises cells_cmp-total cells_cmp-same key (rising_keys keys) (keys_rise keys)

pub keys_members : (q : List Cell) (keys : List (List Cell)) → list_any (cells_eq q) (rising_keys keys) ≡ list_any (cells_eq q) keys
keys_members q [] = refl
keys_members q (key ∷ keys) = insert_members cells_cmp-total cells_cmp-same q key (rising_keys keys) ∙ ap (λ b. cells_eq q key || b) (keys_members q keys)

-- ---- which groups there are

totals_there : (items : List PickItem) (q : List Cell) (rows : List (List Cell)) → is_some (totals_if items (filter (has_key items q) rows)) ≡ list_any (cells_eq q) (map (key_of items) rows)
totals_there items q [] = refl
totals_there items q (row ∷ rows) = by (totals_there items q rows) (has_key items q row) refl
  where
    by : is_some (totals_if items (filter (has_key items q) rows)) ≡ list_any (cells_eq q) (map (key_of items) rows) → (b : Bool) → has_key items q row ≡ b → is_some (totals_if items (cond b (row ∷ filter (has_key items q) rows) (filter (has_key items q) rows))) ≡ (cells_eq q (key_of items row) || list_any (cells_eq q) (map (key_of items) rows))
    by rest true e = let t : cells_eq q (key_of items row) ≡ true = cells_eq-equivalence.symm q (key_of items row) ∙ e in rw t refl
    by rest false e = let f : cells_eq q (key_of items row) ≡ false = cells_eq-equivalence.symm q (key_of items row) ∙ e in rw f rest

-- ---- the rows of groups

row_is : (items : List PickItem) (group : List (List Cell)) (key : List Cell) → row_of_totals items key (totals items group) ≡ group_row items group key
row_is [] group key = refl
row_is (i ∷ items) group [] = refl
row_is (i ∷ items) group (c ∷ key) = ap (λ cells. cond (is_total i) (number_cell (total i (map first_cell group))) c ∷ cells) (row_is items (map other_cells group) key)

some_totals : (items : List PickItem) (group : List (List Cell)) (ts : Totals) → Some ts ≡ totals_if items group → ts ≡ totals items group
some_totals items [] ts e = absurd cc
some_totals items (row ∷ group) ts e = cc

abbrev pub row_of : List PickItem → List (List Cell) → List Cell → List Cell
row_of items rows key = group_row items (filter (has_key items key) rows) key

entry_row : (items : List PickItem) (rows : List (List Cell)) (key : List Cell) (ts : Totals) → Some ts ≡ totals_if items (filter (has_key items key) rows) → row_of_totals items key ts ≡ row_of items rows key
entry_row items rows key ts e = ap (row_of_totals items key) (some_totals items (filter (has_key items key) rows) ts e) ∙ row_is items (filter (has_key items key) rows) key

get_at : {X : Type 0} (front : List X) (x : X) (back : List X) → slice_get (front ++ x ∷ back) (length front) ≡ Some x
get_at [] x back = refl
get_at (y ∷ front) x back = get_at front x back

-- each entry is found by its key
pub found_at : (es : List (List Cell × Totals)) (i : ℕ) (key : List Cell) (ts : Totals) → IsDistinct cells_eq (keys_of es) → slice_get es i ≡ Some (key, ts) → lookup (cells_eq key) es ≡ Some ts
found_at es i key ts distinct at = lookup_from_place cells_eq-equivalence es i key ts distinct at

rows_from : (items : List PickItem) (rows : List (List Cell)) (front back : List (List Cell × Totals)) → IsDistinct cells_eq (keys_of (front ++ back)) → ((q : List Cell) → lookup (cells_eq q) (front ++ back) ≡ totals_if items (filter (has_key items q) rows))
    → rows_of items back ≡ map (row_of items rows) (keys_of back)
rows_from items rows front [] distinct found = refl
rows_from items rows front (e ∷ back) distinct found =
    let here = found_at (front ++ e ∷ back) (length front) e.0 e.1 distinct (get_at front e back) in
    let one = entry_row items rows e.0 e.1 (sym here ∙ found e.0) in
    let cut : (front ++ e ∷ []) ++ back ≡ front ++ e ∷ back = append_assoc front (e ∷ []) back in
    let rest = rows_from items rows (front ++ e ∷ []) back (subst (λ es. IsDistinct cells_eq (keys_of es)) (sym cut) distinct) (λ q. ap (lookup (cells_eq q)) cut ∙ found q) in
    rw (one, rest) refl

-- entries in order of their keys are the groups
pub groups_told : (items : List PickItem) (rows : List (List Cell)) (es : List (List Cell × Totals)) → IsSorted cells_cmp (keys_of es) → IsDistinct cells_eq (keys_of es) → ((q : List Cell) → lookup (cells_eq q) es ≡ totals_if items (filter (has_key items q) rows))
    → rows_of items es ≡ groups_of items rows
groups_told items rows es sorted distinct found =
    let rises = rises_from_sorted cells_cmp-total cells_cmp-same (keys_of es) [] sorted distinct in
    let keys : keys_of es ≡ rising_keys (map (key_of items) rows) =
    rising_same cells_cmp-total cells_cmp-same (keys_of es) (rising_keys (map (key_of items) rows)) rises (keys_rise (map (key_of items) rows))
    (λ q. sym (is_some-lookup (cells_eq q) es) ∙ (ap is_some (found q) ∙ (totals_there items q rows ∙ sym (keys_members q (map (key_of items) rows))))) in
    rows_from items rows [] es distinct found ∙ ap (map (row_of items rows)) keys

-- ---- one record more

pub grows_fits : (n : ℕ) (items : List PickItem) (cells : List Cell) (old new : Groups) → CanBeAdded items cells → AllFit items n old → OneMore items cells old new → AllFit items (n + 1) new
grows_fits n items cells old new can fits grows = λ key. subst (λ o. IfSome o (FitsItems items (n + 1) key)) (sym (grows key)) (by key (cells_eq (key_of items cells) key) refl)
  where
    by : (key : List Cell) (b : Bool) → cells_eq (key_of items cells) key ≡ b → IfSome (cond b (Some (grown items (totals_at old key) (numbers_of items cells))) (totals_at old key)) (FitsItems items (n + 1) key)
    by key true e =
        let long : length key ≡ length items = ap length (sym (cells_eq-same (key_of items cells) key e)) ∙ length-key_of items cells can.one_each in
        grown_fits n items cells key (totals_at old key) can long (fits key)
    by key false e = fits_more n (n + 1) items key (totals_at old key) (omega arith) (fits key)

pub grows_gathered : (items : List PickItem) (cells : List Cell) (rows : List (List Cell)) (old new : Groups) → length cells ≡ length items → AreGroupsOf items old rows → OneMore items cells old new
    → AreGroupsOf items new (rows ++ cells ∷ [])
grows_gathered items cells rows old new long gathered grows key =
    grows key ∙ (ap (λ o. cond (cells_eq (key_of items cells) key) (Some (grown items o (numbers_of items cells))) o) (gathered key) ∙ sym (group_push items rows cells key long))

-- ---- what fits

each_from : (items : List PickItem) (n : ℕ) (front back : List (List Cell × Totals)) → IsDistinct cells_eq (keys_of (front ++ back)) → AllFit items n (front ++ back) → AllByRecursion (HasOneEach items) back
each_from items n front [] distinct fits = tt
each_from items n front (e ∷ back) distinct fits =
    let here = found_at (front ++ e ∷ back) (length front) e.0 e.1 distinct (get_at front e back) in
    let one : FitsItems items n e.0 e.1 = subst (λ o. IfSome o (FitsItems items n e.0)) here (fits e.0) in
    let cut : (front ++ e ∷ []) ++ back ≡ front ++ e ∷ back = append_assoc front (e ∷ []) back in
    let rest = each_from items n (front ++ e ∷ []) back (subst (λ es. IsDistinct cells_eq (keys_of es)) (sym cut) distinct) (subst (λ es. AllFit items n es) (sym cut) fits) in
    ((one.cells, one.one_each), rest)

-- each entry of groups that fit, whatever their order, has a cell and a total for each item
pub each_fits : (items : List PickItem) (n : ℕ) (old new : Groups) → IsDistinct cells_eq (keys_of new) → ((q : List Cell) → lookup (cells_eq q) new ≡ lookup (cells_eq q) old) → AllFit items n old → AllByRecursion (HasOneEach items) new
each_fits items n old new distinct same fits = each_from items n [] new distinct (λ q. subst (λ o. IfSome o (FitsItems items n q)) (sym (same q)) (fits q))

pub all_fit_more : (items more : List PickItem) (n m : ℕ) (groups : Groups) → more ≡ items → n ≤ m → AllFit items n groups → AllFit more m groups
all_fit_more items more n m groups same less fits = subst (λ is. AllFit is m groups) (sym same) (λ q. fits_more n m items q (totals_at groups q) less (fits q))

-- grown by the record's numbers at the record's key, groups have one record more
pub one_more_by : (items : List PickItem) (cells : List Cell) (numbers : List (Option ℤ)) (old new : Groups) → numbers ≡ numbers_of items cells → GrowsAt items (key_of items cells) numbers old new → OneMore items cells old new
one_more_by items cells numbers old new e grows q = grows q ∙ by (cells_eq (key_of items cells) q) refl
  where
    by : (b : Bool) → cells_eq (key_of items cells) q ≡ b → cond b (Some (grown items (totals_at old (key_of items cells)) numbers)) (totals_at old q) ≡ cond b (Some (grown items (totals_at old q) (numbers_of items cells))) (totals_at old q)
    by true t =
        let same : key_of items cells ≡ q = cells_eq-same (key_of items cells) q t in
        ap (λ k. Some (grown items (totals_at old k) numbers)) same ∙ ap (λ ns. Some (grown items (totals_at old q) ns)) e
    by false t = refl

-- ---- rows one after the other

pub step_rows : (items : List PickItem) (done more : List (List Cell)) (left rest : Groups) (key : List Cell) (ts : Totals) (row : List Cell) (all : List (List Cell)) → left ≡ (key, ts) ∷ rest → more ≡ done ++ row ∷ [] → row ≡ row_of_totals items key ts
    → done ++ rows_of items left ≡ all → more ++ rows_of items rest ≡ all
step_rows items done more left rest key ts row all steps pushed is e =
    ap (λ rs. rs ++ rows_of items rest) pushed ∙ (append_assoc done (row ∷ []) (rows_of items rest) ∙ (ap (λ r. done ++ r ∷ rows_of items rest) is ∙ (ap (λ es. done ++ rows_of items es) (sym steps) ∙ e)))

pub end_rows : (items : List PickItem) (done : List (List Cell)) (left : Groups) (all : List (List Cell)) → left ≡ [] → done ++ rows_of items left ≡ all → done ≡ all
end_rows items done left all none e = sym (append-nil done) ∙ (ap (λ es. done ++ rows_of items es) (sym none) ∙ e)

-- ---- what is gathered

clash : (b : Bool) → b ≡ true → b ≡ false → ⊥
clash b t f = let both : true ≡ false = sym t ∙ f in absurd cc

-- a record more where there are no groups
pub gathered_row : (old new : Held) (row : List Cell) → new.pick ≡ old.pick → new.added ≡ old.added + 1 → old.pick.grouped ≡ false → new.rows ≡ old.rows ++ row ∷ []
    → (rows : List (List Cell)) → Gathered old rows → Gathered new (rows ++ row ∷ [])
gathered_row old new row pick added plain more rows g = record {
  added = added ∙ (ap (λ n. n + 1) g.added ∙ sym (length-append rows (row ∷ [])));
  kept = λ is. more ∙ ap (λ rs. rs ++ row ∷ []) (g.kept plain);
  groups = λ is. absurd (clash old.pick.grouped (ap (λ p. p.grouped) (sym pick) ∙ is) plain);
}

-- a record more in its group
pub gathered_group : (old new : Held) (row : List Cell) → new.pick ≡ old.pick → new.added ≡ old.added + 1 → old.pick.grouped ≡ true → length row ≡ length old.pick.items → OneMore old.pick.items row old.groups new.groups
    → (rows : List (List Cell)) → Gathered old rows → Gathered new (rows ++ row ∷ [])
gathered_group old new row pick added grouped long more rows g = record {
  added = added ∙ (ap (λ n. n + 1) g.added ∙ sym (length-append rows (row ∷ [])));
  kept = λ is. absurd (clash old.pick.grouped grouped (ap (λ p. p.grouped) (sym pick) ∙ is));
  groups = λ is. subst (λ p. AreGroupsOf p.items new.groups (rows ++ row ∷ [])) (sym pick) (grows_gathered old.pick.items row rows old.groups new.groups long (g.groups grouped) more);
}

-- no record more
pub gathered_still : (old new : Held) → new.pick ≡ old.pick → new.added ≡ old.added → new.rows ≡ old.rows → SameTotals old.groups new.groups → (rows : List (List Cell)) → Gathered old rows → Gathered new rows
gathered_still old new pick added kept same rows g = record {
  added = added ∙ g.added;
  kept = λ is. kept ∙ g.kept (ap (λ p. p.grouped) (sym pick) ∙ is);
  groups = λ is. subst (λ p. AreGroupsOf p.items new.groups rows) (sym pick) (λ q. same q ∙ g.groups (ap (λ p. p.grouped) (sym pick) ∙ is) q);
}
