-- The bin that has a row, and that its ends enclose the row's number.
use Rattle.std.proofs.Common.{◌≡◌, ℕ, zero, suc, Bool, true, false, ◌||◌, cond, List, [], ◌∷◌, get_or, map, Option, Some, None, ℤ, ◌≤ℤ◌, refl, sym, ap, ◌∙◌, arith}
use Rattle.std.specs.List.{filter, fold, list_any}
use Rattle.std.specs.Int.{int_max, int_min}
use Rattle.std.specs.Ordering.{int_eq}
use Rattle.std.proofs.lemmas.Int.{clamps, ints}
use Rattle.std.proofs.Math.ListN.{get_or-map}
use Rattle.binning.specs.Keys.{key, rising}
use Rattle.binning.specs.Bins.{bin_of, bins_of, greatest_of, has_key, least_of, present, values_with}
use Rattle.binning.specs.Gathered.{is_in}
use Rattle.binning.specs.declared.rules.Keying.{Keying}
use Rattle.binning.specs.declared.gathering.Bin.{Bin}
use Rattle.binning.specs.declared.span_lists.Span.{Span}
use Rattle.binning.proofs.TestLemmas.{either, not_both}
use Rattle.binning.proofs.KeyLemmas.{eq_from, eq_self, is_in-rising, or_left, or_right}
use Rattle.bin_answers.specs.Bins.{bin_at}
use Rattle.part_meaning.specs.Columns.{one_bin}

-- a bin has the row, and the number lies between its ends
pub record HasRow (bins : List Bin) (row : ℕ) (number : ℤ) : Type 0 where
  pub bin : Bin
  pub at : bin_at row bins ≡ Some bin
  pub low : bin.least ≤ℤ number
  pub high : number ≤ℤ bin.greatest

-- ---- the least and the greatest of some numbers

fold_least : (v : ℤ) (vs : List ℤ) → fold int_min v vs ≤ℤ v
fold_least v [] = omega (arith, ints)
fold_least v (w ∷ vs) = let rest = fold_least (int_min v w) vs in omega (arith, ints, clamps, rest)

fold_greatest : (v : ℤ) (vs : List ℤ) → v ≤ℤ fold int_max v vs
fold_greatest v [] = omega (arith, ints)
fold_greatest v (w ∷ vs) = let rest = fold_greatest (int_max v w) vs in omega (arith, ints, clamps, rest)

is_later : (v w : ℤ) (vs : List ℤ) → is_in v (w ∷ vs) ≡ true → int_eq v w ≡ false → is_in v vs ≡ true
is_later v w vs h f = sym (or_right (int_eq v w) (is_in v vs) f) ∙ h

is_next : (v w : ℤ) (vs : List ℤ) → is_in v vs ≡ true → is_in v (w ∷ vs) ≡ true
is_next v w vs h = either (int_eq v w) (λ t. or_left (int_eq v w) (is_in v vs) t) (λ f. or_right (int_eq v w) (is_in v vs) f ∙ h)

-- a number among others is at least their least
least_below : (v w : ℤ) (vs : List ℤ) → is_in v (w ∷ vs) ≡ true → fold int_min w vs ≤ℤ v
least_below v w [] h =
    either (int_eq v w) (λ t. let same = eq_from v w t in omega (arith, ints, same)) (λ f. absurd (not_both (is_later v w [] h f) refl))
least_below v w (x ∷ vs) h =
    either (int_eq v w)
    (λ t. let same = eq_from v w t in let rest = fold_least (int_min w x) vs in omega (arith, ints, clamps, same, rest))
    (λ f. either (int_eq v x)
    (λ t. let same = eq_from v x t in let rest = fold_least (int_min w x) vs in omega (arith, ints, clamps, same, rest))
    (λ g. least_below v (int_min w x) vs (is_next v (int_min w x) vs (is_later v x vs (is_later v w (x ∷ vs) h f) g))))

greatest_above : (v w : ℤ) (vs : List ℤ) → is_in v (w ∷ vs) ≡ true → v ≤ℤ fold int_max w vs
greatest_above v w [] h =
    either (int_eq v w) (λ t. let same = eq_from v w t in omega (arith, ints, same)) (λ f. absurd (not_both (is_later v w [] h f) refl))
greatest_above v w (x ∷ vs) h =
    either (int_eq v w)
    (λ t. let same = eq_from v w t in let rest = fold_greatest (int_max w x) vs in omega (arith, ints, clamps, same, rest))
    (λ f. either (int_eq v x)
    (λ t. let same = eq_from v x t in let rest = fold_greatest (int_max w x) vs in omega (arith, ints, clamps, same, rest))
    (λ g. greatest_above v (int_max w x) vs (is_next v (int_max w x) vs (is_later v x vs (is_later v w (x ∷ vs) h f) g))))

least_le : (v : ℤ) (vs : List ℤ) → is_in v vs ≡ true → least_of vs ≤ℤ v
least_le v [] h = absurd cc
least_le v (w ∷ vs) h = least_below v w vs h

greatest_ge : (v : ℤ) (vs : List ℤ) → is_in v vs ≡ true → v ≤ℤ greatest_of vs
greatest_ge v [] h = absurd cc
greatest_ge v (w ∷ vs) h = greatest_above v w vs h

-- ---- the values of a column

-- the number of a row is one of those that are there
value_there : (column : List (Option ℤ)) (row : ℕ) (v : ℤ) → get_or column row None ≡ Some v → is_in v (present column) ≡ true
value_there [] row v h = absurd cc
value_there (None ∷ column) zero v h = absurd cc
value_there (None ∷ column) (suc row) v h = value_there column row v h
value_there (Some w ∷ column) zero v h =
    let same : w ≡ v = cc in or_left (int_eq v w) (is_in v (present column)) (ap (int_eq v) same ∙ eq_self v)
value_there (Some w ∷ column) (suc row) v h = is_next v w (present column) (value_there column row v h)

key_among : (keys : Keying) (v : ℤ) (vs : List ℤ) → is_in v vs ≡ true → is_in (key keys v) (map (key keys) vs) ≡ true
key_among keys v [] h = absurd cc
key_among keys v (w ∷ vs) h =
    either (int_eq v w)
    (λ t. or_left (int_eq (key keys v) (key keys w)) (is_in (key keys v) (map (key keys) vs))
    (ap (λ x. int_eq (key keys v) (key keys x)) (sym (eq_from v w t)) ∙ eq_self (key keys v)))
    (λ f. is_next (key keys v) (key keys w) (map (key keys) vs) (key_among keys v vs (is_later v w vs h f)))

kept_among : (test : ℤ → Bool) (v : ℤ) (vs : List ℤ) → test v ≡ true → is_in v vs ≡ true → is_in v (filter test vs) ≡ true
kept_among test v [] passes h = absurd cc
kept_among test v (w ∷ vs) passes h =
    either (int_eq v w)
    (λ t.
    let same = eq_from v w t in
    let kept : test w ≡ true = ap test (sym same) ∙ passes in
    ap (λ b. is_in v (cond b (w ∷ filter test vs) (filter test vs))) kept ∙ or_left (int_eq v w) (is_in v (filter test vs)) t)
    (λ f. later (test w) (kept_among test v vs passes (is_later v w vs h f)))
  where
    later : (b : Bool) → is_in v (filter test vs) ≡ true → is_in v (cond b (w ∷ filter test vs) (filter test vs)) ≡ true
    later true i = is_next v w (filter test vs) i
    later false i = i

-- ---- bins by keys

module _ (keys : Keying) (column : List (Option ℤ)) (row : ℕ) where
  key_of_row : (k : ℤ) → get_or (bin_of keys column k).rows row false ≡ has_key keys k (get_or column row None)
  key_of_row k = get_or-map (has_key keys k) column row None

  -- the first bin with the row is that of its key
  bin_found : (v : ℤ) (ks : List ℤ) → get_or column row None ≡ Some v → is_in (key keys v) ks ≡ true
      → bin_at row (map (bin_of keys column) ks) ≡ Some (bin_of keys column (key keys v))
  bin_found v [] there among = absurd cc
  bin_found v (k ∷ ks) there among =
      let rest = bin_at row (map (bin_of keys column) ks) in
      let here : get_or (bin_of keys column k).rows row false ≡ int_eq (key keys v) k = key_of_row k ∙ ap (has_key keys k) there in
      ap (λ b. cond b (Some (bin_of keys column k)) rest) here
      ∙ either (int_eq (key keys v) k)
      (λ t. ap (λ b. cond b (Some (bin_of keys column k)) rest) t ∙ ap (λ q. Some (bin_of keys column q)) (sym (eq_from (key keys v) k t)))
      (λ f. ap (λ b. cond b (Some (bin_of keys column k)) rest) f ∙ bin_found v ks there (is_later (key keys v) k ks among f))

  no_bin : (ks : List ℤ) → get_or column row None ≡ None → bin_at row (map (bin_of keys column) ks) ≡ None
  no_bin [] absent = refl
  no_bin (k ∷ ks) absent =
      let rest = bin_at row (map (bin_of keys column) ks) in
      ap (λ b. cond b (Some (bin_of keys column k)) rest) (key_of_row k ∙ ap (has_key keys k) absent) ∙ no_bin ks absent

  pub keyed_row : (v : ℤ) → get_or column row None ≡ Some v → HasRow (bins_of keys column) row v
  keyed_row v there =
      let among = value_there column row v there in
      let k = key keys v in
      let found = map (key keys) (present column) in
      let with_key : is_in v (values_with keys k column) ≡ true = kept_among (λ w. int_eq (key keys w) k) v (present column) (eq_self k) among in
      record {
        bin = bin_of keys column k;
        at = bin_found v (rising found) there (is_in-rising k found ∙ key_among keys v (present column) among);
        low = least_le v (values_with keys k column) with_key;
        high = greatest_ge v (values_with keys k column) with_key;
      }

  pub keyed_none : get_or column row None ≡ None → bin_at row (bins_of keys column) ≡ None
  keyed_none absent = no_bin (rising (map (key keys) (present column))) absent

-- ---- one bin

row_among : (rows : List Bool) (row : ℕ) → get_or rows row false ≡ true → list_any (λ b. b) rows ≡ true
row_among [] row h = absurd cc
row_among (b ∷ rows) zero h = or_left b (list_any (λ b. b) rows) h
row_among (b ∷ rows) (suc row) h = first b (row_among rows row h)
  where
    first : (b : Bool) → list_any (λ b. b) rows ≡ true → (b || list_any (λ b. b) rows) ≡ true
    first true i = refl
    first false i = i

pub one_row : (ends : Span) (rows : List Bool) (row : ℕ) (number : ℤ) → get_or rows row false ≡ true → ends.least ≤ℤ number → number ≤ℤ ends.greatest
    → HasRow (one_bin ends rows) row number
unfolding one_bin
one_row ends rows row number there low high =
    let bin : Bin = record { least = ends.least; greatest = ends.greatest; rows = rows } in
    record {
      bin = bin;
      at = ap (λ b. bin_at row (cond b (bin ∷ []) [])) (row_among rows row there) ∙ ap (λ b. cond b (Some bin) None) there;
      low = low;
      high = high;
    }

pub one_none : (ends : Span) (rows : List Bool) (row : ℕ) → get_or rows row false ≡ false → bin_at row (one_bin ends rows) ≡ None
unfolding one_bin
one_none ends rows row absent = by (list_any (λ b. b) rows)
  where
    bin : Bin
    bin = record { least = ends.least; greatest = ends.greatest; rows = rows }

    by : (b : Bool) → bin_at row (cond b (bin ∷ []) []) ≡ None
    by true = ap (λ b. cond b (Some bin) None) absent
    by false = refl
