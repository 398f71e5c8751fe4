-- The bins of a column: no row is in two, and each row that is there is in one.
use Rattle.std.proofs.Common.{◌≡◌, ℕ, zero, suc, ◌<◌, Bool, true, false, ◌||◌, List, [], ◌∷◌, length, get_or, map, replicate, Option, Some, None, ℤ, pos, refl, sym, ap, subst, ◌∙◌, arith}
use Rattle.std.specs.List.{list_any, All}
use Rattle.std.specs.Ordering.{int_eq}
use Rattle.std.proofs.lemmas.Int.{ints}
use Rattle.std.proofs.lemmas.List.Elements.{All-nil, All-cons}
use Rattle.wah_logic.specs.Logic.{each_place, or, union}
use Rattle.binning.specs.Keys.{key, rising, Rises}
use Rattle.binning.specs.Bins.{cells, present, has_key, rows_with, bin_of, bins_of}
use Rattle.binning.specs.Gathered.{is_in}
use Rattle.binning.specs.Encodings.{vectors}
use Rattle.binning.specs.Members.{AreBins}
use Rattle.binning.specs.declared.rules.Keying.{Keying}
use Rattle.binning.proofs.TestLemmas.{either, not_both}
use Rattle.binning.proofs.KeyLemmas.{eq_from, eq_self, or_left, or_right, rises_above, rises_tail, rising-Rises, is_in-rising}
use Rattle.binning.proofs.GroupLemmas.{is_in_at}

length-rows : (keys : Keying) (k : ℤ) (column : List (Option ℤ)) → length (rows_with keys k column) ≡ length column
length-rows keys k [] = refl
length-rows keys k (c ∷ column) = ap suc (length-rows keys k column)

rows_get : (keys : Keying) (k : ℤ) (column : List (Option ℤ)) (row : ℕ) → get_or (rows_with keys k column) row false ≡ has_key keys k (get_or column row None)
rows_get keys k [] row = refl
rows_get keys k (c ∷ column) zero = refl
rows_get keys k (c ∷ column) (suc row) = rows_get keys k column row

-- a row that is true in a bin has the bin's key
row_true : (keys : Keying) (column : List (Option ℤ)) (ks : List ℤ) (a row : ℕ) → get_or (get_or (vectors (map (bin_of keys column) ks)) a []) row false ≡ true → (a < length ks) × (has_key keys (get_or ks a (pos 0)) (get_or column row None) ≡ true)
row_true keys column [] a row h = absurd (not_both h refl)
row_true keys column (k ∷ ks) zero row h = (omega arith, sym (rows_get keys k column row) ∙ h)
row_true keys column (k ∷ ks) (suc a) row h = let r = row_true keys column ks a row h in (omega (arith, r.0), r.1)

one_key : (keys : Keying) (k l : ℤ) (c : Option ℤ) → has_key keys k c ≡ true → has_key keys l c ≡ true → k ≡ l
one_key keys k l None h i = absurd (not_both h refl)
one_key keys k l (Some v) h i = sym (eq_from (key keys v) k h) ∙ eq_from (key keys v) l i

one_place : (ks : List ℤ) (i j : ℕ) (d : ℤ) → Rises ks → i < length ks → j < length ks → get_or ks i d ≡ get_or ks j d → i ≡ j
one_place [] i j d r h k e = absurd (omega arith)
one_place (x ∷ ks) zero zero d r h k e = refl
one_place (x ∷ ks) zero (suc j) d r h k e =
    let up = rises_above x ks r x (is_in_at ks j d x (omega arith) (sym e)) in absurd (omega (arith, ints))
one_place (x ∷ ks) (suc i) zero d r h k e =
    let up = rises_above x ks r x (is_in_at ks i d x (omega arith) e) in absurd (omega (arith, ints))
one_place (x ∷ ks) (suc i) (suc j) d r h k e = ap suc (one_place ks i j d (rises_tail x ks r) (omega arith) (omega arith) e)

all_long : (keys : Keying) (column : List (Option ℤ)) (ks : List ℤ) → All (λ v. length v ≡ length column) (vectors (map (bin_of keys column) ks))
all_long keys column [] = All-nil (λ v. length v ≡ length column)
all_long keys column (k ∷ ks) = All-cons (λ v. length v ≡ length column) (rows_with keys k column) (vectors (map (bin_of keys column) ks)) (length-rows keys k column) (all_long keys column ks)

pub bins_apart : (keys : Keying) (column : List (Option ℤ)) → AreBins (length column) (vectors (bins_of keys column))
bins_apart keys column =
    let ks = rising (map (key keys) (present column)) in
    record {
      long = all_long keys column ks;
      apart = λ a b row h i.
          let r = row_true keys column ks a row h in
          let s = row_true keys column ks b row i in
          one_place ks a b (pos 0) (rising-Rises (map (key keys) (present column))) r.0 s.0 (one_key keys (get_or ks a (pos 0)) (get_or ks b (pos 0)) (get_or column row None) r.1 s.1);
    }

-- ---- the union

none_true : (column : List (Option ℤ)) → replicate (length column) false ≡ map (λ c. false) column
none_true [] = refl
none_true (c ∷ column) = ap (λ v. false ∷ v) (none_true column)

or_is : (a b : Bool) → or a b ≡ (a || b)
or_is true b = refl
or_is false b = refl

each_or : (f g : Option ℤ → Bool) (column : List (Option ℤ)) → each_place or (map f column) (map g column) ≡ map (λ c. f c || g c) column
unfolding each_place
each_or f g [] = refl
each_or f g (c ∷ column) = rw (or_is (f c) (g c), each_or f g column) refl

union_rows : (keys : Keying) (column : List (Option ℤ)) (ks : List ℤ) → union (length column) (vectors (map (bin_of keys column) ks)) ≡ map (λ c. list_any (λ k. has_key keys k c) ks) column
unfolding union
union_rows keys column [] = none_true column
union_rows keys column (k ∷ ks) =
    ap (λ v. each_place or (rows_with keys k column) v) (union_rows keys column ks) ∙ each_or (has_key keys k) (λ c. list_any (λ k. has_key keys k c) ks) column

is_there : Option ℤ → Bool
is_there None = false
is_there (Some v) = true

any_none : (keys : Keying) (ks : List ℤ) → list_any (λ k. has_key keys k None) ks ≡ false
any_none keys [] = refl
any_none keys (k ∷ ks) = any_none keys ks

there : (keys : Keying) (ks : List ℤ) (column : List (Option ℤ)) → ((q : ℤ) → is_in q (map (key keys) (present column)) ≡ true → is_in q ks ≡ true) → map (λ c. list_any (λ k. has_key keys k c) ks) column ≡ map is_there column
unfolding is_there
there keys ks [] h = refl
there keys ks (None ∷ column) h = rw (any_none keys ks, there keys ks column h) refl
there keys ks (Some v ∷ column) h =
    let first : is_in (key keys v) ks ≡ true = h (key keys v) (or_left (int_eq (key keys v) (key keys v)) (is_in (key keys v) (map (key keys) (present column))) (eq_self (key keys v))) in
    let rest = there keys ks column (λ q t. h q (either (int_eq q (key keys v)) (λ u. or_left (int_eq q (key keys v)) (is_in q (map (key keys) (present column))) u) (λ f. or_right (int_eq q (key keys v)) (is_in q (map (key keys) (present column))) f ∙ t))) in
    rw (first, rest) refl

there_cells : (mask : List Bool) (vs : List ℤ) → length mask ≡ length vs → map is_there (cells mask vs) ≡ mask
unfolding is_there
there_cells [] vs e = refl
there_cells (true ∷ mask) [] e = absurd (omega arith)
there_cells (false ∷ mask) [] e = absurd (omega arith)
there_cells (true ∷ mask) (v ∷ vs) e = ap (λ m. true ∷ m) (there_cells mask vs (omega arith))
there_cells (false ∷ mask) (v ∷ vs) e = ap (λ m. false ∷ m) (there_cells mask vs (omega arith))

pub length-cells : (mask : List Bool) (vs : List ℤ) → length mask ≡ length vs → length (cells mask vs) ≡ length mask
length-cells [] vs e = refl
length-cells (true ∷ mask) [] e = absurd (omega arith)
length-cells (false ∷ mask) [] e = absurd (omega arith)
length-cells (true ∷ mask) (v ∷ vs) e = ap suc (length-cells mask vs (omega arith))
length-cells (false ∷ mask) (v ∷ vs) e = ap suc (length-cells mask vs (omega arith))

pub bins_whole : (keys : Keying) (mask : List Bool) (vs : List ℤ) → length mask ≡ length vs → union (length mask) (vectors (bins_of keys (cells mask vs))) ≡ mask
bins_whole keys mask vs e =
    let column = cells mask vs in
    let ks = rising (map (key keys) (present column)) in
    ap (λ n. union n (vectors (bins_of keys column))) (sym (length-cells mask vs e))
    ∙ union_rows keys column ks
    ∙ there keys ks column (λ q h. is_in-rising q (map (key keys) (present column)) ∙ h)
    ∙ there_cells mask vs e

pub bins_are : (keys : Keying) (mask : List Bool) (vs : List ℤ) → length mask ≡ length vs → AreBins (length mask) (vectors (bins_of keys (cells mask vs)))
bins_are keys mask vs e = subst (λ (n : ℕ). AreBins n (vectors (bins_of keys (cells mask vs)))) (length-cells mask vs e) (bins_apart keys (cells mask vs))
