-- The bitmaps of groups, and then those of the bins, are all bitmaps.
use Rattle.std.proofs.Common.{◌≡◌, ◌==◌, ℕ, zero, suc, ◌+◌, ◌-◌, ◌*◌, ◌/◌, ◌<◌, ◌≤◌, Bool, true, false, if◌then◌else◌, map, List, [], ◌∷◌, ◌++◌, All, length, Option, Some, None, IsSome, unwrap_or, subst, refl, sym, ap, ◌∙◌, arith}
use Rattle.std.proofs.lemmas.Bool.Decides.{nat_tests}
use Rattle.std.proofs.lemmas.List.{map-append, length-map}
use Rattle.std.specs.List.{range_with_len}
use Rattle.std.specs.Option.{option_map}
use Rattle.std.specs.Int.{div_ceil}
use Rattle.index_spec.specs.declared.spec.Coarse.{Coarse}
use Rattle.index_spec.specs.declared.spec.EncodingSpec.TheVariants.{TwoLevel}
use Rattle.index_spec.specs.Counts.{coarse_count, bitmap_count, groups_of}
use Rattle.index_spec.specs.Members.{from_to, member, coarse_bitmaps}
use Rattle.binning.specs.Members.{union_of, AreBins, bitmap, bitmaps_of}
use Rattle.binning.proofs.MembersLemmas.{union_of-same, all_bins}
use Rattle.enc_two_level.specs.Levels.{one_level}
use Rattle.enc_two_level.specs.Grouped.{group_rows}
use Rattle.enc_two_level.proofs.NumbersLemmas.{shifted}
use Rattle.enc_two_level.proofs.LawLemmas.{fine_member, coarse_bitmap, count_is, length-groups, groups_are_bins}

map_same_from : {A : Type 0} (f h : ℕ → A) (a n : ℕ) → ((k : ℕ) → k < a + n → f k ≡ h k) → map f (range_with_len a n) ≡ map h (range_with_len a n)
map_same_from f h a zero e = refl
map_same_from f h a (suc n) e = ap (λ x. x ∷ map f (range_with_len (a + 1) n)) (e a (omega arith)) ∙ ap (λ l. h a ∷ l) (map_same_from f h (a + 1) n (λ k l. e k (omega arith)))

range_split : (a p n : ℕ) → range_with_len a (p + n) ≡ range_with_len a p ++ range_with_len (a + p) n
range_split a zero n = ap (λ x. range_with_len a x) (omega arith) ∙ ap (λ x. range_with_len x n) (omega arith)
range_split a (suc p) n = ap (λ x. range_with_len a x) (let e : suc p + n ≡ suc (p + n) = omega arith in e) ∙ ap (λ l. a ∷ l) (range_split (a + 1) p n ∙ ap (λ x. range_with_len (a + 1) p ++ range_with_len x n) (omega arith))

map_after : {A : Type 0} (f : ℕ → A) (q : ℕ) (ks : List ℕ) → map f (map (λ b. q + b) ks) ≡ map (λ k. f (q + k)) ks
map_after f q [] = refl
map_after f q (k ∷ ks) = ap (λ l. f (q + k) ∷ l) (map_after f q ks)

-- the bitmaps of the bins are the bins
fine_bitmaps : (level : Coarse) (m n rows : ℕ) (vs : List (List Bool)) → length vs ≡ n → AreBins rows vs → map (bitmap (TwoLevel level m) rows vs) (range_with_len (coarse_bitmaps level m n) n) ≡ vs
fine_bitmaps level m n rows vs number apart =
    let q = coarse_bitmaps level m n in
    let start : q ≡ q + 0 = omega arith in
    ap (λ x. map (bitmap (TwoLevel level m) rows vs) (range_with_len x n)) start
    ∙ ap (λ l. map (bitmap (TwoLevel level m) rows vs) l) (sym (shifted q 0 n))
    ∙ map_after (bitmap (TwoLevel level m) rows vs) q (range_with_len 0 n)
    ∙ map_same_from (λ k. bitmap (TwoLevel level m) rows vs (q + k)) (λ k. union_of rows (λ b. b == k) vs) 0 n
    (λ k l. ap (λ x. union_of rows (member (TwoLevel level m) x (q + k)) vs) number ∙ union_of-same rows (member (TwoLevel level m) n (q + k)) (λ b. b == k) vs (λ b h. fine_member level m n k b))
    ∙ ap (λ x. map (λ k. union_of rows (λ b. b == k) vs) (range_with_len 0 x)) (let e : n ≡ length vs - 0 = omega (arith, number) in e)
    ∙ sym (all_bins rows vs apart)

-- so many are there
count_two : (level : Coarse) (m n : ℕ) (o : Option ℕ) → 0 < n → coarse_count level (groups_of n m) ≡ o → o ≡ Some (unwrap_or o 0) → unwrap_or (if n == 0 then Some 0 else option_map (λ p. n + p) o) 0 ≡ unwrap_or o 0 + n
count_two level m n None h e f = absurd (cc)
count_two level m n (Some p) h e f = let some : (n == 0) ≡ false = grind (arith, nat_tests) in ap (λ t. unwrap_or (if t then Some 0 else Some (n + p)) 0) some ∙ omega arith

pub all_bitmaps : (level : Coarse) (m n rows : ℕ) (vs groups items : List (List Bool)) → length vs ≡ n → 0 < n → 1 ≤ div_ceil n m → n ≤ groups_of n m * div_ceil n m → coarse_count level (groups_of n m) ≡ Some (coarse_bitmaps level m n) → AreBins rows vs → groups ≡ group_rows rows (div_ceil n m) vs (groups_of n m) → (AreBins rows groups → items ≡ bitmaps_of (one_level level) rows groups) → items ++ vs ≡ bitmaps_of (TwoLevel level m) rows vs
all_bitmaps level m n rows vs groups items number some size enough count apart is coarse =
    let g = div_ceil n m in
    let c = groups_of n m in
    let q = coarse_bitmaps level m n in
    let all = group_rows rows g vs c in
    let bins : AreBins rows groups = rw is (groups_are_bins rows g c vs apart) in
    let two : unwrap_or (bitmap_count (TwoLevel level m) n) 0 ≡ q + n = count_two level m n (coarse_count level c) some refl count in
    let first : items ≡ map (bitmap (one_level level) rows all) (range_with_len 0 q) =
    coarse bins ∙ ap (λ l. bitmaps_of (one_level level) rows l) is
    ∙ ap (λ x. map (bitmap (one_level level) rows all) (from_to 0 (unwrap_or (bitmap_count (one_level level) x) 0))) (length-groups rows g c vs)
    ∙ ap (λ o. map (bitmap (one_level level) rows all) (from_to 0 (unwrap_or o 0))) (count_is level c)
    ∙ ap (λ x. map (bitmap (one_level level) rows all) (range_with_len 0 x)) (let e : q - 0 ≡ q = omega arith in e) in
    let same : items ≡ map (bitmap (TwoLevel level m) rows vs) (range_with_len 0 q) = first ∙ sym (map_same_from (bitmap (TwoLevel level m) rows vs) (bitmap (one_level level) rows all) 0 q (λ k l. coarse_bitmap level m n rows k vs number size enough apart (omega arith))) in
    let start : 0 + q ≡ q = omega arith in
    ap (λ l. l ++ vs) same
    ∙ ap (λ l. map (bitmap (TwoLevel level m) rows vs) (range_with_len 0 q) ++ l) (sym (fine_bitmaps level m n rows vs number apart))
    ∙ sym (map-append (bitmap (TwoLevel level m) rows vs) (range_with_len 0 q) (range_with_len q n))
    ∙ ap (λ l. map (bitmap (TwoLevel level m) rows vs) l) (ap (λ x. range_with_len 0 q ++ range_with_len x n) (sym start) ∙ sym (range_split 0 q n))
    ∙ ap (λ x. map (bitmap (TwoLevel level m) rows vs) (range_with_len 0 x)) (let e : q + n ≡ (q + n) - 0 = omega arith in e)
    ∙ ap (λ x. map (bitmap (TwoLevel level m) rows vs) (from_to 0 x)) (sym two ∙ ap (λ x. unwrap_or (bitmap_count (TwoLevel level m) x) 0) (sym number))

some_is : (o : Option ℕ) → IsSome o → o ≡ Some (unwrap_or o 0)
some_is None h = absurd (cc)
some_is (Some p) h = refl

-- as the code counts them
pub is_counted : (level level' : Coarse) (m n k size : ℕ) → level' ≡ level → k ≡ div_ceil n size → size ≡ div_ceil n m → IsSome (bitmap_count (one_level level') k) → coarse_count level (groups_of n m) ≡ Some (coarse_bitmaps level m n)
is_counted level level' m n k size e h s is =
    let same : bitmap_count (one_level level') k ≡ coarse_count level (groups_of n m) = ap (λ l. bitmap_count (one_level l) k) e ∙ count_is level k ∙ ap (λ x. coarse_count level x) (h ∙ ap (λ x. div_ceil n x) s) in
    let some : IsSome (coarse_count level (groups_of n m)) = let P : Option ℕ → Type 0 = λ o. IsSome o in subst P same is in
    some_is (coarse_count level (groups_of n m)) some
