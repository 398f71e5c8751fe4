-- What is built of the bins of a column is an index.
use Rattle.std.proofs.Common.{◌≡◌, ◌+◌, ◌-◌, ◌*◌, ◌<◌, ◌≤◌, ℕ, zero, suc, ℤ, Bool, true, false, cond, List, [], ◌∷◌, Option, Some, None, IsSome, length, map, nat_lt, nat_eq, unwrap_or, option_map, int_lt, ◌<ℤ◌, refl, sym, ap, subst, ◌∙◌, arith}
use Rattle.std.specs.Int.{div_ceil}
use Rattle.std.specs.List.{All, AllByRecursion}
use Rattle.std.proofs.lemmas.Bool.Decides.{nat_tests}
use Rattle.std.proofs.lemmas.Grind.{div_ceil_times}
use Rattle.std.proofs.lemmas.List.{length-map}
use Rattle.std.proofs.lemmas.List.FromFn.{length-range_with_len}
use Rattle.std.proofs.lemmas.List.Elements.{All-from_recursion}
use Rattle.binning.proofs.BinOrderLemmas.{bins_rise}
use Rattle.binning.proofs.ColumnLemmas.{bins_apart}
use Rattle.binning.proofs.MembersLemmas.{length-union_of}
use Rattle.index_spec.specs.Counts.{HasGroups, bitmap_count, coarse_count, groups_of}
use Rattle.index_spec.specs.declared.spec.Coarse.{Coarse}
use Rattle.index_spec.specs.declared.spec.Coarse.TheVariants as coarse
use Rattle.index_spec.specs.declared.spec.EncodingSpec.{EncodingSpec}
use Rattle.index_spec.specs.declared.spec.EncodingSpec.TheVariants.{Equality, Range, Interval, TwoLevel}
use Rattle.index_spec.specs.Language.{HasGroups-given, IsGiven}
use Rattle.index_spec.specs.declared.spec.Spec.{Spec}
use Rattle.index_spec.specs.Members.{from_to, member}
use Rattle.index_file.specs.IndexFile.{IsIndex}
use Rattle.index_file.specs.Order.{AreAbove, AreInOrder, first_out_of_order}
use Rattle.index_file.proofs.OrderLemmas.{of_order}
use Rattle.index_file.specs.declared.edge.Edge.{Edge}
use Rattle.wah_words.specs.Limits.{most_bits}
use Rattle.binning.specs.Bins.{bin_of, bins_of, has_key, present}
use Rattle.binning.specs.Keys.{key, put, rising}
use Rattle.binning.specs.Encodings.{nested_bins, vectors}
use Rattle.binning.specs.Order.{BinsRise}
use Rattle.binning.specs.Members.{AreBins, bitmap, bitmaps_of}
use Rattle.binning.specs.declared.gathering.Bin.{Bin}
use Rattle.binning.specs.declared.rules.Keying.{Keying}
use Rattle.index_build.specs.Index.{AreOfColumn}
use Rattle.world.specs.IndexFiles.{edge_of}

-- ---- there are at most as many bins as rows

length-placed : (k x : ℤ) (xs more : List ℤ) (a b : Bool) → length more ≤ 1 + length xs
    → length (cond a (k ∷ x ∷ xs) (cond b (x ∷ more) (x ∷ xs))) ≤ 1 + length (x ∷ xs)
length-placed k x xs more true b h = omega arith
length-placed k x xs more false true h = omega (arith, h)
length-placed k x xs more false false h = omega arith

length-put : (k : ℤ) (xs : List ℤ) → length (put k xs) ≤ 1 + length xs
length-put k [] = omega arith
length-put k (x ∷ xs) = length-placed k x xs (put k xs) (int_lt k x) (int_lt x k) (length-put k xs)

length-rising : (ks : List ℤ) → length (rising ks) ≤ length ks
length-rising [] = omega arith
length-rising (k ∷ ks) = omega (arith, length-put k (rising ks), length-rising ks)

length-present : (column : List (Option ℤ)) → length (present column) ≤ length column
length-present [] = omega arith
length-present (None ∷ column) = omega (arith, length-present column)
length-present (Some v ∷ column) = omega (arith, length-present column)

pub few_bins : (keys : Keying) (column : List (Option ℤ)) → length (bins_of keys column) ≤ length column
few_bins keys column =
    omega (
      arith,
      length-map (rising (map (key keys) (present column))) (bin_of keys column),
      length-rising (map (key keys) (present column)),
      length-map (present column) (key keys),
      length-present column,
    )

-- ---- their bitmaps

length-from_to : (n : ℕ) → length (from_to 0 n) ≡ n
length-from_to n = length-range_with_len 0 (n - 0) ∙ omega arith

pub bitmaps_counted : (e : EncodingSpec) (rows : ℕ) (bins : List (List Bool)) → IsSome (bitmap_count e (length bins))
    → bitmap_count e (length bins) ≡ Some (length (bitmaps_of e rows bins))
bitmaps_counted e rows bins some =
    by (bitmap_count e (length bins)) some (length-map (from_to 0 (unwrap_or (bitmap_count e (length bins)) 0)) (bitmap e rows bins)
    ∙ length-from_to (unwrap_or (bitmap_count e (length bins)) 0))
  where
    by : (count : Option ℕ) → IsSome count → length (bitmaps_of e rows bins) ≡ unwrap_or count 0 → count ≡ Some (length (bitmaps_of e rows bins))
    by None some is = let bad : false ≡ true = some in absurd (cc)
    by (Some n) some is = ap Some (sym is)

bitmaps_long : (e : EncodingSpec) (rows : ℕ) (bins : List (List Bool)) (ks : List ℕ) → All (λ v. length v ≡ rows) bins
    → AllByRecursion (λ bits. length bits ≡ rows) (map (bitmap e rows bins) ks)
bitmaps_long e rows bins [] h = tt
bitmaps_long e rows bins (k ∷ ks) h = (length-union_of rows (member e (length bins) k) bins h, bitmaps_long e rows bins ks h)

pub bitmaps_each : (e : EncodingSpec) (rows : ℕ) (bins : List (List Bool)) → All (λ v. length v ≡ rows) bins
    → AllByRecursion (λ bits. length bits ≡ rows) (bitmaps_of e rows bins)
bitmaps_each e rows bins h = bitmaps_long e rows bins (from_to 0 (unwrap_or (bitmap_count e (length bins)) 0)) h

few_groups : (n m : ℕ) → 1 ≤ m → div_ceil n m ≤ n
few_groups n m some =
    let times = div_ceil_times n m some in
    grind (arith, times.0, times.1)

some_few : (a b : Bool) (x limit c : ℕ) → x ≤ limit → cond a None (cond b (Some 0) (Some x)) ≡ Some c → c ≤ limit
some_few true b x limit c less e = absurd (cc)
some_few false true x limit c less e = let none : 0 ≡ c = cc in omega arith
some_few false false x limit c less e = let same : x ≡ c = cc in omega arith

some_group : (n m : ℕ) → 1 ≤ m → 1 ≤ n → 1 ≤ div_ceil n m
some_group n m some one =
    let times = div_ceil_times n m some in
    grind (arith, times.0)

coarse_few : (level : Coarse) (n c : ℕ) → coarse_count level n ≡ Some c → c ≤ n + 1
coarse_few coarse.Equality n c e = let same : n ≡ c = cc in omega arith
coarse_few coarse.Range n c e = some_few (nat_lt 1024 n) (nat_eq n 0) (n - 1) (n + 1) c (omega arith) e
coarse_few coarse.Interval n c e = some_few (nat_lt 1024 n) (nat_eq n 0) (n - div_ceil n 2 + 1) (n + 1) c (omega arith) e

levels_few : (b : Bool) (n groups c : ℕ) (count : Option ℕ) → groups ≤ n → ((q : ℕ) → count ≡ Some q → q ≤ groups + 1)
    → cond b (Some 0) (option_map (λ q. n + q) count) ≡ Some c → c ≤ 2 * n + 1
levels_few true n groups c count few h e = let none : 0 ≡ c = cc in omega arith
levels_few false n groups c None few h e = absurd (cc)
levels_few false n groups c (Some q) few h e = let same : n + q ≡ c = cc in omega (arith, h q refl)

two_few : (level : Coarse) (ncoarse n c : ℕ) → 1 ≤ ncoarse → bitmap_count (TwoLevel level ncoarse) n ≡ Some c → c ≤ 2 * n + 1
two_few level ncoarse zero c some e = let none : 0 ≡ c = cc in omega arith
two_few level ncoarse (suc n) c some e =
    let g : 1 ≤ div_ceil (suc n) ncoarse = some_group (suc n) ncoarse some (omega arith) in
    levels_few (nat_eq (suc n) 0) (suc n) (groups_of (suc n) ncoarse) c (coarse_count level (groups_of (suc n) ncoarse))
    (few_groups (suc n) (div_ceil (suc n) ncoarse) g) (λ q h. coarse_few level (groups_of (suc n) ncoarse) q h) e

pub few_bitmaps : (e : EncodingSpec) (n c : ℕ) → HasGroups e → bitmap_count e n ≡ Some c → c ≤ 2 * n + 1
few_bitmaps Equality n c groups h = omega (arith, coarse_few coarse.Equality n c h)
few_bitmaps Range n c groups h = omega (arith, coarse_few coarse.Range n c h)
few_bitmaps Interval n c groups h = omega (arith, coarse_few coarse.Interval n c h)
few_bitmaps (TwoLevel level ncoarse) n c groups h = two_few level ncoarse n c groups h

-- ---- too many

over : (a b : Bool) (x : ℕ) → cond a None (cond b (Some 0) (Some x)) ≡ None → a ≡ true
over true b x e = refl
over false true x e = absurd (cc)
over false false x e = absurd (cc)

coarse_over : (level : Coarse) (n : ℕ) → coarse_count level n ≡ None → 1024 < n
coarse_over coarse.Equality n e = absurd (cc)
coarse_over coarse.Range n e =
    let more : nat_lt 1024 n ≡ true = over (nat_lt 1024 n) (nat_eq n 0) (n - 1) e in
    grind (arith, nat_tests)
coarse_over coarse.Interval n e =
    let more : nat_lt 1024 n ≡ true = over (nat_lt 1024 n) (nat_eq n 0) (n - div_ceil n 2 + 1) e in
    grind (arith, nat_tests)

levels_over : (b : Bool) (n : ℕ) (count : Option ℕ) → cond b (Some 0) (option_map (λ q. n + q) count) ≡ None → count ≡ None
levels_over true n count e = absurd (cc)
levels_over false n None e = refl
levels_over false n (Some q) e = absurd (cc)

-- where an encoding has no number of bitmaps, it stands on over 1,024 bins or groups
pub over_limit : (e : EncodingSpec) (n : ℕ) → bitmap_count e n ≡ None → 1024 < nested_bins e n
over_limit Equality n h = coarse_over coarse.Equality n h
over_limit Range n h = coarse_over coarse.Range n h
over_limit Interval n h = coarse_over coarse.Interval n h
over_limit (TwoLevel level ncoarse) n h =
    coarse_over level (groups_of n ncoarse) (levels_over (nat_eq n 0) n (coarse_count level (groups_of n ncoarse)) h)

-- ---- the bins of a column

each_long : (keys : Keying) (column : List (Option ℤ)) (ks : List ℤ) → AllByRecursion (λ b. length b.rows ≡ length column) (map (bin_of keys column) ks)
each_long keys column [] = tt
each_long keys column (k ∷ ks) = (length-map column (has_key keys k), each_long keys column ks)

above : (before : ℤ) (b : Bin) (bins : List Bin) → before <ℤ b.least → BinsRise (b ∷ bins) → AreAbove before (map edge_of (b ∷ bins))
above before b [] less h = (less, h, tt)
above before b (c ∷ bins) less h = (less, h.0, above b.greatest c bins h.1 h.2)

in_order : (bins : List Bin) → BinsRise bins → AreInOrder (map edge_of bins)
in_order [] h = tt
in_order (b ∷ []) h = (h, tt)
in_order (b ∷ c ∷ bins) h = (h.0, above b.greatest c bins h.1 h.2)

moved : (P : ℕ → List Bin → Type 0) (m n : ℕ) (xs ys : List Bin) → m ≡ n → xs ≡ ys → P m xs → P n ys
moved P m n xs ys e h p = subst (λ (k : ℕ). P k ys) e (subst (λ (zs : List Bin). P m zs) h p)

module _ (rows : ℕ) (bins : List Bin) (of : AreOfColumn rows bins) where
  pub of_column_few : length bins ≤ rows
  of_column_few = omega (arith, ap length of.are, few_bins of.keys of.column, of.long)

  pub of_column_long : All (λ b. length b.rows ≡ rows) bins
  of_column_long =
      moved (λ n bs. All (λ b. length b.rows ≡ n) bs) (length of.column) rows (bins_of of.keys of.column) bins of.long (sym of.are)
      (All-from_recursion (λ b. length b.rows ≡ length of.column) (bins_of of.keys of.column)
      (each_long of.keys of.column (rising (map (key of.keys) (present of.column)))))

  pub of_column_apart : AreBins rows (vectors bins)
  of_column_apart =
      moved (λ n bs. AreBins n (vectors bs)) (length of.column) rows (bins_of of.keys of.column) bins of.long (sym of.are) (bins_apart of.keys of.column)

  ordered : first_out_of_order (map edge_of bins) ≡ None
  ordered = rw of.are (of_order (map edge_of (bins_of of.keys of.column)) (in_order (bins_of of.keys of.column) (bins_rise of.keys of.column of.kept)))

  -- they have as many bitmaps as their encoding has of them
  pub of_column_counted : (e : EncodingSpec) → IsSome (bitmap_count e (length bins))
      → bitmap_count e (length bins) ≡ Some (length (bitmaps_of e rows (vectors bins)))
  of_column_counted e some =
      let same : length (vectors bins) ≡ length bins = length-map bins (λ b. b.rows) in
      subst (λ (n : ℕ). bitmap_count e n ≡ Some (length (bitmaps_of e rows (vectors bins)))) same
      (bitmaps_counted e rows (vectors bins) (subst (λ (n : ℕ). IsSome (bitmap_count e n)) (sym same) some))

  -- the bins and their bitmaps are an index
  pub of_column_index : (spec : Spec) (edges : List Edge) (bitmaps : List (List Bool)) → IsGiven spec → rows ≤ most_bits
      → IsSome (bitmap_count spec.encoding (length bins)) → edges ≡ map edge_of bins → bitmaps ≡ bitmaps_of spec.encoding rows (vectors bins)
      → IsIndex rows spec edges bitmaps
  of_column_index spec edges bitmaps given few some edges_are bitmaps_are =
      let e = spec.encoding in
      let all = bitmaps_of e rows (vectors bins) in
      let counted : bitmap_count e (length bins) ≡ Some (length all) = of_column_counted e some in
      let bound : length all ≤ 2 * length bins + 1 = few_bitmaps e (length bins) (length all) (HasGroups-given e given.1) counted in
      let long : All (λ v. length v ≡ rows) (vectors bins) = of_column_apart.long in
      rw (edges_are, bitmaps_are) (record {
        given = given;
        ordered = ordered;
        counted = ap (bitmap_count e) (length-map bins edge_of) ∙ counted;
        few_bitmaps = omega (arith, bound, of_column_few, few);
        each = bitmaps_each e rows (vectors bins) long;
      })
