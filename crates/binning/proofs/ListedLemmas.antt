-- Listed rows: their values in order, run by run, and the groups that they stand for.
use Rattle.std.proofs.Common.{◌≡◌, ℕ, zero, suc, ◌+◌, ◌-◌, ◌<◌, ◌≤◌, Bool, true, false, not, ◌&&◌, ◌||◌, cond, List, [], ◌∷◌, ◌++◌, length, get_or, map, take, drop, Option, Some, None, ℤ, ◌≤ℤ◌, ◌<ℤ◌, int_lt, refl, sym, ap, subst, ◌∙◌, append_assoc, append-nil, length-append, arith}
use Rattle.std.specs.List.{AllByRecursion, list_any, fold, filter}
use Rattle.std.specs.List.Sorted.{IsPermutation, IsSortedByKey, IsStableByKey, ties}
use Rattle.std.specs.Int.{int_min, int_max}
use Rattle.std.specs.Ordering.{int_eq, int_cmp, is_lt}
use Rattle.std.proofs.lemmas.Int.{ints}
use Rattle.std.proofs.lemmas.List.{drop-drop, take_all}
use Rattle.std.proofs.lemmas.List.Sorted.{list_any-IsPermutation}
use Rattle.wah_words.specs.Limits.{most_bits}
use Rattle.wah_iter.specs.Rows.{rows_of, rows_from}
use Rattle.binning.specs.Keys.{key, put, rising, Rises, Weak}
use Rattle.binning.specs.Bins.{cells, present, has_key, rows_with, values_with, least_of, greatest_of, bin_of, bins_of}
use Rattle.binning.specs.Gathered.{Held, Gathered, is_in, AreDistinct, keys_in, group_of, place_in, place_of}
use Rattle.binning.specs.Listed.{values_at, row_values, values_in, rows_having, run_length, run_of_first, InOrder, held_of}
use Rattle.binning.specs.declared.groups.Group.{Group}
use Rattle.binning.specs.declared.gathering.Bin.{Bin}
use Rattle.binning.specs.declared.listed.RowValue.{RowValue}
use Rattle.binning.specs.declared.rules.Keying.TheVariants.{Each}
use Rattle.binning.proofs.TestLemmas.{either, not_both}
use Rattle.binning.proofs.KeyLemmas.{eq_from, eq_true, eq_self, eq_false, eq_swap, or_left, or_right, strict, weak_tail, not_later, rises_cons, rises_tail, rising-Rises, is_in-rising, rising_from, rises_same}
use Rattle.binning.proofs.GroupLemmas.{place_within}
use Rattle.binning.proofs.GatherLemmas.{place_get}
use Rattle.binning.proofs.OrderLemmas.{weak_keys, rows_below, vector_same}
use Rattle.binning.proofs.ColumnLemmas.{length-cells}

-- ---- the values, each with its row

pub row_values_push : (n : ℕ) (column : List (Option ℤ)) (c : Option ℤ) → row_values n (column ++ c ∷ []) ≡ row_values n column ++ values_at (n + length column) c
row_values_push n [] c = let e : n + 0 ≡ n = omega arith in append-nil (values_at n c) ∙ ap (λ m. values_at m c) (sym e)
row_values_push n (x ∷ column) c =
    let e : n + 1 + length column ≡ n + suc (length column) = omega arith in
    ap (λ ps. values_at n x ++ ps) (row_values_push (n + 1) column c ∙ ap (λ m. row_values (n + 1) column ++ values_at m c) e)
    ∙ sym (append_assoc (values_at n x) (row_values (n + 1) column) (values_at (n + suc (length column)) c))

rows_all : (v : ℤ) (n : ℕ) (column : List (Option ℤ)) → rows_having v (row_values n column) ≡ rows_from n (rows_with Each v column)
unfolding rows_from
rows_all v n [] = refl
rows_all v n (None ∷ column) = rows_all v (n + 1) column
rows_all v n (Some w ∷ column) =
    either (int_eq w v)
    (λ t. rw t (ap (λ rows. n ∷ rows) (rows_all v (n + 1) column)))
    (λ f. rw f (rows_all v (n + 1) column))

values_all : (n : ℕ) (column : List (Option ℤ)) → values_in (row_values n column) ≡ present column
values_all n [] = refl
values_all n (None ∷ column) = values_all (n + 1) column
values_all n (Some v ∷ column) = ap (λ vs. v ∷ vs) (values_all (n + 1) column)

any_value : (v : ℤ) (ps : List RowValue) → is_in v (values_in ps) ≡ list_any (λ p. int_eq v p.value) ps
any_value v [] = refl
any_value v (p ∷ ps) = ap (λ b. int_eq v p.value || b) (any_value v ps)

abbrev comes_first : RowValue → RowValue → Bool
comes_first x y = is_lt (int_cmp x.value y.value)

tie_is : (v w : ℤ) → (not (is_lt (int_cmp v w)) && not (is_lt (int_cmp w v))) ≡ int_eq w v
tie_is v w = grind (arith, ints)

ties_filter : (x : RowValue) (ps : List RowValue) → filter (ties comes_first x) ps ≡ filter (λ p. int_eq p.value x.value) ps
ties_filter x [] = refl
ties_filter x (p ∷ ps) = rw (tie_is x.value p.value, ties_filter x ps) refl

pub in_order_from : (column : List (Option ℤ)) (ps : List RowValue) → IsPermutation (row_values 0 column) ps → IsSortedByKey (λ p. p.value) int_cmp ps → IsStableByKey (λ p. p.value) int_cmp (row_values 0 column) ps → InOrder column ps
in_order_from column ps moved up stable = record {
  weak = weak_keys (λ p. p.value) ps up;
  values = λ v. any_value v ps ∙ sym (list_any-IsPermutation (λ p. int_eq v p.value) (row_values 0 column) ps moved) ∙ sym (any_value v (row_values 0 column)) ∙ ap (λ vs. is_in v vs) (values_all 0 column);
  rows = λ v. rows v;
}
  where
    rows : (v : ℤ) → rows_having v ps ≡ rows_of (rows_with Each v column)
    rows v =
        let x : RowValue = record { value = v; row = 0 } in
        ap (map (λ (p : RowValue). p.row)) (sym (ties_filter x ps) ∙ stable x ∙ ties_filter x (row_values 0 column)) ∙ rows_all v 0 column

-- ---- a run of one value

twice : (a b : Bool) → (a || b) ≡ (a || (a || b))
twice true b = refl
twice false b = refl

weak_skip : (k x : ℤ) (xs : List ℤ) → Weak (k ∷ x ∷ xs) → Weak (k ∷ xs)
weak_skip k x [] w = tt
weak_skip k x (y ∷ xs) w = (omega (arith, ints, w.0, w.1.0), w.1.1)

weak_above : (x : ℤ) (xs : List ℤ) → Weak (x ∷ xs) → (y : ℤ) → is_in y xs ≡ true → x ≤ℤ y
weak_above x [] w y h = absurd (not_both h refl)
weak_above x (z ∷ xs) w y h =
    either (int_eq y z)
    (λ t. rw (eq_from y z t) w.0)
    (λ f. weak_above x xs (weak_skip x z xs w) y (sym (or_right (int_eq y z) (is_in y xs) f) ∙ h))

run_above : (k : ℤ) (ps : List RowValue) → Weak (k ∷ values_in ps) → (y : ℤ) → is_in y (values_in (drop (run_length k ps) ps)) ≡ true → k <ℤ y
run_above k [] w y h = absurd (not_both h refl)
run_above k (p ∷ ps) w y h =
    either (int_eq p.value k)
    (λ t. run_above k ps (weak_skip k p.value (values_in ps) w) y (rw t at h))
    (λ f. later (strict k p.value w.0 f) (rw f at h))
  where
    later : k <ℤ p.value → is_in y (values_in (p ∷ ps)) ≡ true → k <ℤ y
    later less i =
        either (int_eq y p.value)
        (λ t. rw (eq_from y p.value t) less)
        (λ f. let up = weak_above p.value (values_in ps) w.1 y (sym (or_right (int_eq y p.value) (is_in y (values_in ps)) f) ∙ i) in omega (arith, ints, up, less))

none_having : (k : ℤ) (ps : List RowValue) → is_in k (values_in ps) ≡ false → rows_having k ps ≡ []
none_having k [] h = refl
none_having k (p ∷ ps) h =
    either (int_eq k p.value)
    (λ t. absurd (not_both (or_left (int_eq k p.value) (is_in k (values_in ps)) t) h))
    (λ f. let g : int_eq p.value k ≡ false = eq_swap p.value k ∙ f in rw g (none_having k ps (sym (or_right (int_eq k p.value) (is_in k (values_in ps)) f) ∙ h)))

run_rows : (k : ℤ) (ps : List RowValue) → Weak (k ∷ values_in ps) → map (λ p. p.row) (take (run_length k ps) ps) ≡ rows_having k ps
run_rows k [] w = refl
run_rows k (p ∷ ps) w =
    either (int_eq p.value k)
    (λ t. rw t (ap (λ rows. p.row ∷ rows) (run_rows k ps (weak_skip k p.value (values_in ps) w))))
    (λ f. rw f (sym (none_having k ps (absent (strict k p.value w.0 f)))))
  where
    absent : k <ℤ p.value → is_in k (values_in ps) ≡ false
    absent less = either (is_in k (values_in ps)) (λ t. let up = weak_above p.value (values_in ps) w.1 k t in absurd (omega (arith, ints, up, less))) (λ f. f)

run_others : (k j : ℤ) (ps : List RowValue) → int_eq k j ≡ false → rows_having j (drop (run_length k ps) ps) ≡ rows_having j ps
run_others k j [] other = refl
run_others k j (p ∷ ps) other =
    either (int_eq p.value k)
    (λ t. let g : int_eq p.value j ≡ false = ap (λ z. int_eq z j) (eq_from p.value k t) ∙ other in rw (t, g) (run_others k j ps other))
    (λ f. rw f refl)

run_in : (k v : ℤ) (ps : List RowValue) → (int_eq v k || is_in v (values_in (drop (run_length k ps) ps))) ≡ (int_eq v k || is_in v (values_in ps))
run_in k v [] = refl
run_in k v (p ∷ ps) =
    either (int_eq p.value k)
    (λ t. let e : int_eq v p.value ≡ int_eq v k = ap (λ z. int_eq v z) (eq_from p.value k t) in rw (t, e) (run_in k v ps ∙ twice (int_eq v k) (is_in v (values_in ps))))
    (λ f. rw f refl)

weak_drop : (n : ℕ) (ps : List RowValue) → Weak (values_in ps) → Weak (values_in (drop n ps))
weak_drop zero ps w = w
weak_drop (suc n) [] w = tt
weak_drop (suc n) (p ∷ ps) w = weak_drop n ps (weak_tail p.value (values_in ps) w)

run_rising : (p : RowValue) (ps : List RowValue) → Weak (values_in (p ∷ ps)) → p.value ∷ rising (values_in (drop (run_length p.value (p ∷ ps)) (p ∷ ps))) ≡ rising (values_in (p ∷ ps))
run_rising p ps w =
    let rest = values_in (drop (run_length p.value (p ∷ ps)) (p ∷ ps)) in
    let low : Weak (p.value ∷ values_in (p ∷ ps)) = (omega (arith, ints), w) in
    rising_from (p.value ∷ rising rest) (values_in (p ∷ ps))
    (rises_cons p.value (rising rest) (rising-Rises rest) (λ y h. run_above p.value (p ∷ ps) low y (sym (is_in-rising y rest) ∙ h)))
    (λ v. ap (λ b. int_eq v p.value || b) (is_in-rising v rest) ∙ run_in p.value v (p ∷ ps) ∙ sym (twice (int_eq v p.value) (is_in v (values_in ps))))

-- ---- the bin of a value

fold_same : (f : ℤ → ℤ → ℤ) (v : ℤ) (vs : List ℤ) → f v v ≡ v → fold f v (filter (λ w. int_eq w v) vs) ≡ v
fold_same f v [] e = refl
fold_same f v (w ∷ vs) e =
    either (int_eq w v)
    (λ t. rw t (ap (λ a. fold f a (filter (λ w. int_eq w v) vs)) (ap (f v) (eq_from w v t) ∙ e) ∙ fold_same f v vs e))
    (λ g. rw g (fold_same f v vs e))

least_same : (v : ℤ) (vs : List ℤ) → is_in v vs ≡ true → least_of (filter (λ w. int_eq w v) vs) ≡ v
least_same v [] h = absurd (not_both h refl)
least_same v (w ∷ vs) h =
    either (int_eq w v)
    (λ t. rw t (ap (λ a. fold int_min a (filter (λ w. int_eq w v) vs)) (eq_from w v t) ∙ fold_same int_min v vs (grind (arith, ints))))
    (λ f. rw f (least_same v vs (sym (or_right (int_eq v w) (is_in v vs) (eq_swap v w ∙ f)) ∙ h)))

greatest_same : (v : ℤ) (vs : List ℤ) → is_in v vs ≡ true → greatest_of (filter (λ w. int_eq w v) vs) ≡ v
greatest_same v [] h = absurd (not_both h refl)
greatest_same v (w ∷ vs) h =
    either (int_eq w v)
    (λ t. rw t (ap (λ a. fold int_max a (filter (λ w. int_eq w v) vs)) (eq_from w v t) ∙ fold_same int_max v vs (grind (arith, ints))))
    (λ f. rw f (greatest_same v vs (sym (or_right (int_eq v w) (is_in v vs) (eq_swap v w ∙ f)) ∙ h)))

bin_of_value : (column : List (Option ℤ)) (v : ℤ) (rows : List Bool) → is_in v (present column) ≡ true → rows ≡ rows_with Each v column → record { least = v; greatest = v; rows = rows } ≡ bin_of Each column v
bin_of_value column v rows there e = rw (e, least_same v (present column) there, greatest_same v (present column) there) refl

-- ---- the loop over the runs

-- the bins so far, with those of the pairs that are left, are the column's
pub record Left (column : List (Option ℤ)) (bins : List Bin) (rest : List RowValue) : Type 0 where
  pub weak : Weak (values_in rest)
  pub there : (v : ℤ) → is_in v (values_in rest) ≡ true → is_in v (present column) ≡ true
  pub rows : (v : ℤ) → is_in v (values_in rest) ≡ true → rows_having v rest ≡ rows_of (rows_with Each v column)
  pub whole : bins ++ map (bin_of Each column) (rising (values_in rest)) ≡ bins_of Each column

map_each : (vs : List ℤ) → map (key Each) vs ≡ vs
map_each [] = refl
map_each (v ∷ vs) = ap (λ ws. v ∷ ws) (map_each vs)

pub left_first : (column : List (Option ℤ)) (ps : List RowValue) → InOrder column ps → Left column [] ps
left_first column ps o = record {
  weak = o.weak;
  there = λ v h. sym (o.values v) ∙ h;
  rows = λ v h. o.rows v;
  whole = ap (map (bin_of Each column)) (rises_same (rising (values_in ps)) (rising (map (key Each) (present column))) (rising-Rises (values_in ps)) (rising-Rises (map (key Each) (present column))) same);
}
  where
    same : (v : ℤ) → is_in v (rising (values_in ps)) ≡ is_in v (rising (map (key Each) (present column)))
    same v = is_in-rising v (values_in ps) ∙ o.values v ∙ ap (λ vs. is_in v vs) (sym (map_each (present column))) ∙ sym (is_in-rising v (map (key Each) (present column)))

pub left_none : (column : List (Option ℤ)) (bins : List Bin) (rest : List RowValue) → rest ≡ [] → Left column bins rest → bins ≡ bins_of Each column
left_none column bins rest e l = sym (append-nil bins) ∙ ap (λ (ps : List RowValue). bins ++ map (bin_of Each column) (rising (values_in ps))) (sym e) ∙ l.whole

first_in : (p : RowValue) (ps : List RowValue) → is_in p.value (values_in (p ∷ ps)) ≡ true
first_in p ps = or_left (int_eq p.value p.value) (is_in p.value (values_in ps)) (eq_self p.value)

-- the rows of the first run are those of its value
pub run_is : (column : List (Option ℤ)) (bins : List Bin) (rest : List RowValue) (d : RowValue) → 0 < length rest → Left column bins rest → map (λ p. p.row) (take (run_of_first rest) rest) ≡ rows_of (rows_with Each (get_or rest 0 d).value column)
run_is column bins [] d some l = absurd (omega arith)
run_is column bins (p ∷ ps) d some l =
    let low : Weak (p.value ∷ values_in (p ∷ ps)) = (omega (arith, ints), l.weak) in
    run_rows p.value (p ∷ ps) low ∙ l.rows p.value (first_in p ps)

pub run_some : (rest : List RowValue) → 0 < length rest → 0 < run_of_first rest
run_some [] some = absurd (omega arith)
run_some (p ∷ ps) some = rw (eq_self p.value) (omega arith)

run_short : (k : ℤ) (ps : List RowValue) → run_length k ps ≤ length ps
run_short k [] = omega arith
run_short k (p ∷ ps) =
    either (int_eq p.value k)
    (λ t. rw t (let r = run_short k ps in omega (arith, r)))
    (λ f. rw f (omega arith))

pub run_within : (rest : List RowValue) → run_of_first rest ≤ length rest
run_within [] = omega arith
run_within (p ∷ ps) = run_short p.value (p ∷ ps)

-- one run less is left
pub left_less : (column : List (Option ℤ)) (bins : List Bin) (rest : List RowValue) (d : RowValue) (rows : List Bool) → 0 < length rest → Left column bins rest → rows ≡ rows_with Each (get_or rest 0 d).value column → Left column (bins ++ record { least = (get_or rest 0 d).value; greatest = (get_or rest 0 d).value; rows = rows } ∷ []) (drop (run_of_first rest) rest)
left_less column bins [] d rows some l e = absurd (omega arith)
left_less column bins (p ∷ ps) d rows some l e = record {
  weak = weak_drop n (p ∷ ps) l.weak;
  there = λ v h. l.there v (before v h);
  rows = λ v h. run_others p.value v (p ∷ ps) (other v h) ∙ l.rows v (before v h);
  whole =
      append_assoc bins (bin ∷ []) (map (bin_of Each column) (rising (values_in (drop n (p ∷ ps)))))
      ∙ ap (λ (b : Bin). bins ++ b ∷ map (bin_of Each column) (rising (values_in (drop n (p ∷ ps))))) (bin_of_value column p.value rows (l.there p.value (first_in p ps)) e)
      ∙ ap (λ vs. bins ++ map (bin_of Each column) vs) (run_rising p ps l.weak)
      ∙ l.whole;
}
  where
    n : ℕ
    n = run_length p.value (p ∷ ps)

    bin : Bin
    bin = record { least = p.value; greatest = p.value; rows = rows }

    above : (v : ℤ) → is_in v (values_in (drop n (p ∷ ps))) ≡ true → p.value <ℤ v
    above v h = run_above p.value (p ∷ ps) (omega (arith, ints), l.weak) v h

    other : (v : ℤ) → is_in v (values_in (drop n (p ∷ ps))) ≡ true → int_eq p.value v ≡ false
    other v h = let up = above v h in eq_false p.value v (λ same. let z : p.value ≡ v = same in omega (arith, ints, up))

    before : (v : ℤ) → is_in v (values_in (drop n (p ∷ ps))) ≡ true → is_in v (values_in (p ∷ ps)) ≡ true
    before v h =
        let f : int_eq v p.value ≡ false = eq_swap v p.value ∙ other v h in
        twice (int_eq v p.value) (is_in v (values_in ps)) ∙ sym (run_in p.value v (p ∷ ps)) ∙ or_right (int_eq v p.value) (is_in v (values_in (drop n (p ∷ ps)))) f ∙ h

-- ---- the groups that listed rows stand for

keys_of_groups : (column : List (Option ℤ)) (ks : List ℤ) → keys_in (map (group_of Each column) ks) ≡ ks
keys_of_groups column [] = refl
keys_of_groups column (k ∷ ks) = ap (λ xs. k ∷ xs) (keys_of_groups column ks)

rises_distinct : (ks : List ℤ) → Rises ks → AreDistinct ks
rises_distinct [] r = tt
rises_distinct (k ∷ ks) r = (not_later k ks r, rises_distinct ks (rises_tail k ks r))

groups_each : (column : List (Option ℤ)) (ks : List ℤ) → AllByRecursion (λ g. g ≡ group_of Each column g.key) (map (group_of Each column) ks)
groups_each column [] = tt
groups_each column (k ∷ ks) = (refl, groups_each column ks)

pub gathered_of : (column : List (Option ℤ)) → Gathered (held_of column) column
gathered_of column =
    let ks = rising (present column) in
    let e : keys_in (map (group_of Each column) ks) ≡ ks = keys_of_groups column ks in
    record {
      distinct = subst AreDistinct (sym e) (rises_distinct ks (rising-Rises (present column)));
      keys = λ k. ap (λ xs. is_in k xs) e ∙ is_in-rising k (present column) ∙ ap (λ xs. is_in k xs) (sym (map_each (present column)));
      groups = groups_each column ks;
      places = ap (λ xs. map (place_of Each xs) column) (sym e);
    }

length-put : (k : ℤ) (xs : List ℤ) → length (put k xs) ≤ suc (length xs)
length-put k [] = omega arith
length-put k (x ∷ xs) =
    either (int_lt k x)
    (λ t. rw t (omega arith))
    (λ f. either (int_lt x k)
    (λ t. rw (f, t) (let r = length-put k xs in omega (arith, r)))
    (λ g. rw (f, g) (omega arith)))

length-rising : (xs : List ℤ) → length (rising xs) ≤ length xs
length-rising [] = omega arith
length-rising (x ∷ xs) = let a = length-put x (rising xs) in let b = length-rising xs in omega (arith, a, b)

length-present : (column : List (Option ℤ)) → length (present column) ≤ length column
length-present [] = omega arith
length-present (None ∷ column) = let r = length-present column in omega (arith, r)
length-present (Some v ∷ column) = let r = length-present column in omega (arith, r)

-- a cell is told by its place
same_cell : (ks : List ℤ) (a b : Option ℤ) → length ks ≤ most_bits → ((v : ℤ) → a ≡ Some v → is_in v ks ≡ true) → ((v : ℤ) → b ≡ Some v → is_in v ks ≡ true) → place_of Each ks a ≡ place_of Each ks b → a ≡ b
same_cell ks None None few ina inb e = refl
same_cell ks None (Some w) few ina inb e = let h = place_within w ks (inb w refl) in absurd (omega (arith, h, e, few))
same_cell ks (Some v) None few ina inb e = let h = place_within v ks (ina v refl) in absurd (omega (arith, h, e, few))
same_cell ks (Some v) (Some w) few ina inb e =
    let a = place_get v ks v (place_within v ks (ina v refl)) in
    let b = place_get w ks v (place_within w ks (inb w refl)) in
    ap Some (sym a ∙ ap (λ n. get_or ks n v) e ∙ b)

same_cells : (ks : List ℤ) (xs ys : List (Option ℤ)) → length ks ≤ most_bits → ((v : ℤ) → is_in v (present xs) ≡ true → is_in v ks ≡ true) → ((v : ℤ) → is_in v (present ys) ≡ true → is_in v ks ≡ true) → map (place_of Each ks) xs ≡ map (place_of Each ks) ys → xs ≡ ys
same_cells ks [] [] few inx iny e = refl
same_cells ks [] (y ∷ ys) few inx iny e = absurd (cc)
same_cells ks (x ∷ xs) [] few inx iny e = absurd (cc)
same_cells ks (x ∷ xs) (y ∷ ys) few inx iny e =
    let a : x ≡ y = same_cell ks x y few (λ v h. inx v (head_in v x xs h)) (λ v h. iny v (head_in v y ys h)) (heads e) in
    let b : xs ≡ ys = same_cells ks xs ys few (λ v h. inx v (tail_in v x xs h)) (λ v h. iny v (tail_in v y ys h)) (tails e) in
    ap (λ z. z ∷ xs) a ∙ ap (λ zs. y ∷ zs) b
  where
    heads : {m n : ℕ} {ms ns : List ℕ} → m ∷ ms ≡ n ∷ ns → m ≡ n
    heads e = cc

    tails : {m n : ℕ} {ms ns : List ℕ} → m ∷ ms ≡ n ∷ ns → ms ≡ ns
    tails e = cc

    head_in : (v : ℤ) (z : Option ℤ) (zs : List (Option ℤ)) → z ≡ Some v → is_in v (present (z ∷ zs)) ≡ true
    head_in v z zs h = rw h (or_left (int_eq v v) (is_in v (present zs)) (eq_self v))

    tail_in : (v : ℤ) (z : Option ℤ) (zs : List (Option ℤ)) → is_in v (present zs) ≡ true → is_in v (present (z ∷ zs)) ≡ true
    tail_in v None zs h = h
    tail_in v (Some w) zs h = either (int_eq v w) (λ t. or_left (int_eq v w) (is_in v (present zs)) t) (λ f. or_right (int_eq v w) (is_in v (present zs)) f ∙ h)

-- listed rows stand for no other column
pub column_again : (column other : List (Option ℤ)) → length column ≤ most_bits → Gathered (held_of column) other → column ≡ other
column_again column other short g =
    let ks = rising (present column) in
    let e : keys_in (map (group_of Each column) ks) ≡ ks = keys_of_groups column ks in
    let a = length-rising (present column) in
    let b = length-present column in
    same_cells ks column other (omega (arith, a, b, short))
    (λ v h. is_in-rising v (present column) ∙ h)
    (λ v h. ap (λ xs. is_in v xs) (sym e) ∙ g.keys v ∙ ap (λ xs. is_in v xs) (map_each (present other)) ∙ h)
    (g.places ∙ ap (λ xs. map (place_of Each xs) other) e)

length-map_any : {X Y : Type 0} (f : X → Y) (xs : List X) → length (map f xs) ≡ length xs
length-map_any f [] = refl
length-map_any f (x ∷ xs) = ap suc (length-map_any f xs)

pub rows_gathered : (held : Held) (column : List (Option ℤ)) → Gathered held column → length held.places ≡ length column
rows_gathered held column g = ap length g.places ∙ length-map_any (place_of held.rule (keys_in held.groups)) column

pub cells-append : (mask : List Bool) (vs : List ℤ) (more : List Bool) (ws : List ℤ) → length mask ≡ length vs → cells (mask ++ more) (vs ++ ws) ≡ cells mask vs ++ cells more ws
cells-append [] [] more ws e = refl
cells-append [] (v ∷ vs) more ws e = absurd (omega arith)
cells-append (b ∷ mask) [] more ws e = absurd (omega arith)
cells-append (true ∷ mask) (v ∷ vs) more ws e = ap (λ cs. Some v ∷ cs) (cells-append mask vs more ws (omega arith))
cells-append (false ∷ mask) (v ∷ vs) more ws e = ap (λ cs. None ∷ cs) (cells-append mask vs more ws (omega arith))

-- ---- parts of a list

pub all_append : (P : ℤ → Type 0) (vs ws : List ℤ) → AllByRecursion P vs → AllByRecursion P ws → AllByRecursion P (vs ++ ws)
all_append P [] ws a b = b
all_append P (v ∷ vs) ws a b = (a.0, all_append P vs ws a.1 b)

pub run_first : (ps : List RowValue) (d : RowValue) → 0 < length ps → run_of_first ps ≡ 1 + run_length (get_or ps 0 d).value (drop 1 ps)
run_first [] d some = absurd (omega arith)
run_first (p ∷ ps) d some = rw (eq_self p.value) (omega arith)

pub run_more : (ps : List RowValue) (i : ℕ) (d : RowValue) (k : ℤ) → i < length ps → int_eq (get_or ps i d).value k ≡ true → run_length k (drop i ps) ≡ 1 + run_length k (drop (i + 1) ps)
run_more [] i d k h t = absurd (omega arith)
run_more (p ∷ ps) zero d k h t = rw t (omega arith)
run_more (p ∷ ps) (suc i) d k h t = let e : suc i + 1 ≡ suc (i + 1) = omega arith in rw e (run_more ps i d k (omega arith) t)

pub run_past : (ps : List RowValue) (i : ℕ) (d : RowValue) (k : ℤ) → i < length ps → int_eq (get_or ps i d).value k ≡ false → run_length k (drop i ps) ≡ 0
run_past [] i d k h f = absurd (omega arith)
run_past (p ∷ ps) zero d k h f = rw f refl
run_past (p ∷ ps) (suc i) d k h f = run_past ps i d k (omega arith) f

-- ---- what a gatherer of listed rows says of its column

pub rows_of_held : (column : List (Option ℤ)) → length (held_of column).places ≡ length column
rows_of_held column = length-map_any (place_of Each (rising (present column))) column

pub rows_put : (all : Held) (column : List (Option ℤ)) (mask : List Bool) (vs : List ℤ) → length mask ≡ length vs → Gathered all (column ++ cells mask vs) → length all.places ≡ length (held_of column).places + length vs
rows_put all column mask vs e g =
    let a = rows_gathered all (column ++ cells mask vs) g in
    let b = length-append column (cells mask vs) in
    let c = rows_of_held column in
    let d = length-cells mask vs e in
    omega (arith, a, b, c, d, e)

pub gathered_put : (all : Held) (column other more : List (Option ℤ)) → length column ≤ most_bits → Gathered all (column ++ more) → Gathered (held_of column) other → Gathered all (other ++ more)
gathered_put all column other more few g h = subst (λ (cs : List (Option ℤ)). Gathered all (cs ++ more)) (column_again column other few h) g

pub bins_again : (column other : List (Option ℤ)) (bins : List Bin) → length column ≤ most_bits → bins ≡ bins_of Each column → Gathered (held_of column) other → bins ≡ bins_of Each other
bins_again column other bins few e h = e ∙ ap (bins_of Each) (column_again column other few h)

-- ---- a run within all pairs

rest_first : (ps : List RowValue) (i : ℕ) (d : RowValue) → get_or (drop i ps) 0 d ≡ get_or ps i d
rest_first ps zero d = refl
rest_first [] (suc i) d = refl
rest_first (p ∷ ps) (suc i) d = rest_first ps i d

rest_long : (ps : List RowValue) (i : ℕ) → length (drop i ps) ≡ length ps - i
rest_long ps zero = omega arith
rest_long [] (suc i) = omega arith
rest_long (p ∷ ps) (suc i) = let r = rest_long ps i in omega (arith, r)

rows_part : (n m : ℕ) (ps : List RowValue) → take n (drop m (map (λ p. p.row) ps)) ≡ map (λ p. p.row) (take n (drop m ps))
rows_part zero zero ps = refl
rows_part (suc n) zero [] = refl
rows_part (suc n) zero (p ∷ ps) = ap (λ rows. p.row ∷ rows) (rows_part n zero ps)
rows_part zero (suc m) [] = refl
rows_part (suc n) (suc m) [] = refl
rows_part zero (suc m) (p ∷ ps) = rows_part zero m ps
rows_part (suc n) (suc m) (p ∷ ps) = rows_part (suc n) m ps

pub run_ends : (ps : List RowValue) (done run : ℕ) → done < length ps → run ≡ run_of_first (drop done ps) → done + run ≤ length ps
run_ends ps done run h e =
    let a = run_within (drop done ps) in
    let b = rest_long ps done in
    omega (arith, a, b, e, h)

pub run_told : (ps : List RowValue) (done run : ℕ) → run ≡ run_of_first (take (length ps - done) (drop done ps)) → run ≡ run_of_first (drop done ps)
run_told ps done run e =
    let b = rest_long ps done in
    e ∙ ap run_of_first (take_all (length ps - done) (drop done ps) (omega (arith, b)))

pub rows_as_many : (ps : List RowValue) (rows : List ℕ) → rows ≡ map (λ p. p.row) ps → length rows ≡ length ps
rows_as_many ps rows e = ap length e ∙ length-map_any (λ p. p.row) ps

rest_some : (ps : List RowValue) (done : ℕ) → done < length ps → 0 < length (drop done ps)
rest_some ps done h = let b = rest_long ps done in omega (arith, b, h)

pub run_part : (column : List (Option ℤ)) (bins : List Bin) (ps : List RowValue) (rows : List ℕ) (done run : ℕ) (d : RowValue) → rows ≡ map (λ p. p.row) ps → done < length ps → Left column bins (drop done ps) → run ≡ run_of_first (drop done ps) → take (done + run - done) (drop done rows) ≡ rows_of (rows_with Each (get_or ps done d).value column)
run_part column bins ps rows done run d e h l r =
    let n : done + run - done ≡ run_of_first (drop done ps) = omega (arith, r) in
    ap (λ k. take k (drop done rows)) n
    ∙ ap (λ (xs : List ℕ). take (run_of_first (drop done ps)) (drop done xs)) e
    ∙ rows_part (run_of_first (drop done ps)) done ps
    ∙ run_is column bins (drop done ps) d (rest_some ps done h) l
    ∙ ap (λ (p : RowValue). rows_of (rows_with Each p.value column)) (rest_first ps done d)

pub below_column : (column : List (Option ℤ)) (v : ℤ) (n : ℕ) → n ≡ length column → (i : ℕ) → i < length (rows_of (rows_with Each v column)) → get_or (rows_of (rows_with Each v column)) i 0 < n
below_column column v n e i h =
    let r = rows_below 0 (rows_with Each v column) i h in
    let l = length-map_any (has_key Each v) column in
    omega (arith, r, l, e)

pub rows_told : (column : List (Option ℤ)) (v : ℤ) (rows : List Bool) → length rows ≡ length column → rows_of rows ≡ rows_of (rows_with Each v column) → rows ≡ rows_with Each v column
rows_told column v rows l e = vector_same 0 rows (rows_with Each v column) (l ∙ sym (length-map_any (has_key Each v) column)) e

pub left_at : (column : List (Option ℤ)) (bins : List Bin) (ps : List RowValue) (done run : ℕ) (d : RowValue) (rows : List Bool) (more : List Bin) → done < length ps → Left column bins (drop done ps) → run ≡ run_of_first (drop done ps) → rows ≡ rows_with Each (get_or ps done d).value column → more ≡ bins ++ record { least = (get_or ps done d).value; greatest = (get_or ps done d).value; rows = rows } ∷ [] → Left column more (drop (done + run) ps)
left_at column bins ps done run d rows more h l r e m =
    let f = rest_first ps done d in
    let told : rows ≡ rows_with Each (get_or (drop done ps) 0 d).value column = e ∙ ap (λ (p : RowValue). rows_with Each p.value column) (sym f) in
    let less = left_less column bins (drop done ps) d rows (rest_some ps done h) l told in
    let same : bins ++ record { least = (get_or (drop done ps) 0 d).value; greatest = (get_or (drop done ps) 0 d).value; rows = rows } ∷ [] ≡ more =
    ap (λ (p : RowValue). bins ++ record { least = p.value; greatest = p.value; rows = rows } ∷ []) f ∙ sym m in
    let rest : drop (run_of_first (drop done ps)) (drop done ps) ≡ drop (done + run) ps = ap (λ n. drop n (drop done ps)) (sym r) ∙ drop-drop run done ps in
    subst (λ (qs : List RowValue). Left column more qs) rest (subst (λ (bs : List Bin). Left column bs (drop (run_of_first (drop done ps)) (drop done ps))) same less)
