-- The answer of a run from its whole groups and the bins beside them.
use Rattle.std.proofs.Common.{◌≡◌, ◌==◌, ℕ, zero, suc, ◌+◌, ◌-◌, ◌*◌, ◌/◌, ◌<◌, ◌≤◌, Bool, true, false, ◌||◌, if◌then◌else◌, nat_lt, min, map, List, [], ◌∷◌, ◌++◌, All, length, take, drop, Option, Some, None, unwrap_or, refl, sym, ap, ◌∙◌, arith, length-append}
use Rattle.std.proofs.lemmas.Bool.Decides.{nat_tests}
use Rattle.std.proofs.lemmas.List.{map-append, length-map, append-nil}
use Rattle.std.proofs.lemmas.List.FromFn.{length-map-range_with_len}
use Rattle.std.proofs.lemmas.List.Folds.{list_any-append}
use Rattle.std.specs.List.{list_any, range_with_len}
use Rattle.std.specs.Int.{div_ceil}
use Rattle.index_spec.specs.declared.spec.Coarse.{Coarse}
use Rattle.index_spec.specs.declared.spec.Coarse.TheVariants as coarse
use Rattle.index_spec.specs.declared.spec.EncodingSpec.TheVariants.{TwoLevel}
use Rattle.index_spec.specs.declared.spec.EncodingSpec.TheVariants as specs
use Rattle.index_spec.specs.Counts.{coarse_count, bitmap_count, groups_of}
use Rattle.index_spec.specs.Members.{from_to, member, coarse_member, coarse_needed, coarse_bitmaps, needed, two_level_needed}
use Rattle.wah_logic.specs.Logic.{each_place, or, union}
use Rattle.std.specs.Option.{option_map}
use Rattle.std.proofs.lemmas.Grind.{div_ceil_times}
use Rattle.binning.specs.Encodings.{HasCount}
use Rattle.index_spec.proofs.MembersLemmas.{kept}
use Rattle.binning.specs.Members.{union_of, in_run, AreBins, bitmap, AreFetched}
use Rattle.binning.proofs.MembersLemmas.{union_of-same, union_of-all, union_of-classes, classes_are_bins, bins-op, bins-unions, any-from_to}
use Rattle.binning.proofs.FetchedLemmas.{mask_is, of_two}
use Rattle.enc_two_level.specs.Levels.{one_level}
use Rattle.enc_two_level.specs.Grouped.{group_rows}
use Rattle.enc_two_level.specs.declared.groups.Whole.{Whole}
use Rattle.enc_two_level.specs.Whole.{end_group, AreWhole}
use Rattle.enc_two_level.proofs.NumbersLemmas.{run_of_groups, group_below, shifted_from_to}
use Rattle.enc_two_level.proofs.NeedsLemmas.{without, with_whole}

-- ---- the bitmaps of bins

-- bitmap q + b has bin b
pub fine_member : (level : Coarse) (m n k b : ℕ) → member (TwoLevel level m) n (coarse_bitmaps level m n + k) b ≡ (b == k)
fine_member level m n k b =
    let q = coarse_bitmaps level m n in
    let fine : nat_lt (q + k) q ≡ false = grind (arith, nat_tests) in
    ap (λ t. if t then coarse_member level (groups_of n m) (q + k) (b / div_ceil n m) else b == q + k - q) fine ∙ ap (λ x. b == x) (omega arith)

any_fine : (level : Coarse) (m n b : ℕ) (ks : List ℕ) → list_any (λ k. member (TwoLevel level m) n k b) (map (λ k. coarse_bitmaps level m n + k) ks) ≡ list_any (λ k. b == k) ks
any_fine level m n b [] = refl
any_fine level m n b (k ∷ ks) = ap (λ t. t || list_any (λ k. member (TwoLevel level m) n k b) (map (λ k. coarse_bitmaps level m n + k) ks)) (fine_member level m n k b) ∙ ap (λ t. (b == k) || t) (any_fine level m n b ks)

-- the union of the bitmaps of some bins
fine_union : (level : Coarse) (m n len : ℕ) (ks : List ℕ) (vs : List (List Bool)) → length vs ≡ n → AreBins len vs → union len (map (bitmap (TwoLevel level m) len vs) (map (λ k. coarse_bitmaps level m n + k) ks)) ≡ union_of len (λ b. list_any (λ k. b == k) ks) vs
fine_union level m n len ks vs number apart =
    bins-unions len (member (TwoLevel level m) (length vs)) (map (λ k. coarse_bitmaps level m n + k) ks) vs apart
    ∙ ap (λ x. union_of len (λ b. list_any (λ k. member (TwoLevel level m) x k b) (map (λ k. coarse_bitmaps level m n + k) ks)) vs) number
    ∙ union_of-same len (λ b. list_any (λ k. member (TwoLevel level m) n k b) (map (λ k. coarse_bitmaps level m n + k) ks)) (λ b. list_any (λ k. b == k) ks) vs (λ b l. any_fine level m n b ks)

-- a run without a whole group
pub alone : (level : Coarse) (m n i j : ℕ) (vs fetched : List (List Bool)) (mask v : List Bool) → i < j → end_group n (div_ceil n m) (groups_of n m) j ≤ div_ceil i (div_ceil n m) → v ≡ union (length mask) fetched → AreFetched (TwoLevel level m) n i j vs fetched mask → v ≡ union_of (length mask) (in_run i j) vs
alone level m n i j vs fetched mask v h none e f =
    let len = length mask in
    e ∙ ap (λ l. union len l) (f.bitmaps ∙ ap (λ l. map (bitmap (TwoLevel level m) len vs) l) (without level m n i j none))
    ∙ fine_union level m n len (from_to i j) vs f.number f.bins_apart
    ∙ union_of-same len (λ b. list_any (λ k. b == k) (from_to i j)) (in_run i j) vs (λ b l. any-from_to b i j (omega arith))

-- ---- the bitmaps of groups

coarse_is : (level : Coarse) (c k b : ℕ) → member (one_level level) c k b ≡ coarse_member level c k b
coarse_is coarse.Equality c k b = refl
coarse_is coarse.Range c k b = refl
coarse_is coarse.Interval c k b = refl

pub needed_is : (level : Coarse) (c s e : ℕ) → needed (one_level level) c s e ≡ coarse_needed level c s e
needed_is coarse.Equality c s e = refl
needed_is coarse.Range c s e = refl
needed_is coarse.Interval c s e = refl

pub count_is : (level : Coarse) (c : ℕ) → bitmap_count (one_level level) c ≡ coarse_count level c
count_is coarse.Equality c = refl
count_is coarse.Range c = refl
count_is coarse.Interval c = refl

-- groups of g bins
pub groups_are_bins : (len g c : ℕ) (vs : List (List Bool)) → AreBins len vs → AreBins len (group_rows len g vs c)
groups_are_bins len g c vs h = classes_are_bins len (λ b. b / g) vs c h

pub union_of-groups : (len g c : ℕ) (vs : List (List Bool)) (set : ℕ → Bool) → 1 ≤ g → length vs ≤ c * g → AreBins len vs → union_of len set (group_rows len g vs c) ≡ union_of len (λ b. set (b / g)) vs
union_of-groups len g c vs set some whole h = union_of-classes len (λ b. b / g) vs set c h (λ b l. group_below (length vs) g c b some whole l)

pub length-groups : (len g c : ℕ) (vs : List (List Bool)) → length (group_rows len g vs c) ≡ c
length-groups len g c vs = length-map-range_with_len (λ t. union_of len (λ b. b / g == t) vs) 0 c

-- coarse bitmap k of the bins is bitmap k of the groups
pub coarse_bitmap : (level : Coarse) (m n len k : ℕ) (vs : List (List Bool)) → length vs ≡ n → 1 ≤ div_ceil n m → n ≤ groups_of n m * div_ceil n m → AreBins len vs → k < coarse_bitmaps level m n → bitmap (TwoLevel level m) len vs k ≡ bitmap (one_level level) len (group_rows len (div_ceil n m) vs (groups_of n m)) k
coarse_bitmap level m n len k vs number some whole apart below =
    let g = div_ceil n m in
    let c = groups_of n m in
    let groups = group_rows len g vs c in
    let test : nat_lt k (coarse_bitmaps level m n) ≡ true = grind (arith, nat_tests) in
    ap (λ x. union_of len (member (TwoLevel level m) x k) vs) number
    ∙ union_of-same len (member (TwoLevel level m) n k) (λ b. member (one_level level) c k (b / g)) vs (λ b l. ap (λ t. if t then coarse_member level c k (b / g) else b == k - coarse_bitmaps level m n) test ∙ sym (coarse_is level c k (b / g)))
    ∙ sym (union_of-groups len g c vs (member (one_level level) c k) some (omega (arith, number)) apart)
    ∙ ap (λ x. union_of len (member (one_level level) x k) groups) (sym (length-groups len g c vs))

map_same_on : {A : Type 0} (f h : ℕ → A) (q : ℕ) (ks : List ℕ) → All (λ k. k < q) ks → ((k : ℕ) → k < q → f k ≡ h k) → map f ks ≡ map h ks
map_same_on f h q [] a e = refl
map_same_on f h q (k ∷ ks) a e = ap (λ x. x ∷ map f ks) (e k (a 0 k (omega arith))) ∙ ap (λ l. h k ∷ l) (map_same_on f h q ks (λ i d l. a (suc i) d (omega arith)) e)

-- ---- a run with whole groups

front_same : {A : Type 0} (a b c d : List A) → a ++ b ≡ c ++ d → length a ≡ length c → a ≡ c
front_same [] b [] d e h = refl
front_same [] b (y ∷ c) d e h = absurd (omega arith)
front_same (x ∷ a) b [] d e h = absurd (omega arith)
front_same (x ∷ a) b (y ∷ c) d e h = let first : x ≡ y = cc in let rest : a ++ b ≡ c ++ d = cc in ap (λ z. z ∷ a) first ∙ ap (λ l. y ∷ l) (front_same a b c d rest (omega arith))

back_same : {A : Type 0} (a b c d : List A) → a ++ b ≡ c ++ d → length a ≡ length c → b ≡ d
back_same [] b [] d e h = e
back_same [] b (y ∷ c) d e h = absurd (omega arith)
back_same (x ∷ a) b [] d e h = absurd (omega arith)
back_same (x ∷ a) b (y ∷ c) d e h = let rest : a ++ b ≡ c ++ d = cc in back_same a b c d rest (omega arith)

-- the vectors read for the groups are those that the run of groups needs
pub fetched_groups : (level : Coarse) (m n i j : ℕ) (whole : Whole) (vs fetched coarse fine : List (List Bool)) (mask : List Bool) → 1 ≤ div_ceil n m → n ≤ groups_of n m * div_ceil n m → AreWhole n (div_ceil n m) (groups_of n m) i j whole → All (λ k. k < coarse_bitmaps level m n) (coarse_needed level whole.groups whole.from whole.to) → fetched ≡ coarse ++ fine → length coarse ≡ length (coarse_needed level whole.groups whole.from whole.to) → AreFetched (TwoLevel level m) n i j vs fetched mask → AreFetched (one_level level) whole.groups whole.from whole.to (group_rows (length mask) (div_ceil n m) vs (groups_of n m)) coarse mask
fetched_groups level m n i j whole vs fetched coarse fine mask some all w kept split long f =
    let len = length mask in
    let g = div_ceil n m in
    let c = groups_of n m in
    let groups = group_rows len g vs c in
    let places = coarse_needed level whole.groups whole.from whole.to in
    let rest = map (λ b. coarse_bitmaps level m n + b) (from_to i whole.begin ++ from_to whole.after j) in
    let enough : length vs ≤ c * g = omega (arith, f.number) in
    let both : coarse ++ fine ≡ map (bitmap (TwoLevel level m) len vs) places ++ map (bitmap (TwoLevel level m) len vs) rest = sym split ∙ f.bitmaps ∙ ap (λ l. map (bitmap (TwoLevel level m) len vs) l) (with_whole level m n i j whole w) ∙ map-append (bitmap (TwoLevel level m) len vs) places rest in
    let same : coarse ≡ map (bitmap (TwoLevel level m) len vs) places = front_same coarse fine (map (bitmap (TwoLevel level m) len vs) places) (map (bitmap (TwoLevel level m) len vs) rest) both (long ∙ sym (length-map places (bitmap (TwoLevel level m) len vs))) in
    record {
      number = length-groups len g c vs ∙ sym w.groups;
      bins_apart = groups_are_bins len g c vs f.bins_apart;
      all = f.all ∙ union_of-all len vs ∙ sym (union_of-groups len g c vs (λ t. true) some enough f.bins_apart) ∙ sym (union_of-all len groups);
      bitmaps = same ∙ map_same_on (bitmap (TwoLevel level m) len vs) (bitmap (one_level level) len groups) (coarse_bitmaps level m n) places kept (λ k l. coarse_bitmap level m n len k vs f.number some all f.bins_apart l) ∙ ap (λ l. map (bitmap (one_level level) len groups) l) (sym (needed_is level whole.groups whole.from whole.to));
    }

-- the whole groups and the bins beside them make the run
parts_make_run : (n i j begin after x q b : ℕ) → b < n → i ≤ begin → begin ≤ after → after ≤ j → j ≤ n → after ≡ min q n → or (in_run begin q b) (in_run i begin b || in_run after j b) ≡ in_run i j b
parts_make_run n i j begin after x q b h k l o p e = grind (arith, nat_tests)

-- the rows of the groups' run, with those of the bins beside them
pub together : (level : Coarse) (m n i j : ℕ) (whole : Whole) (vs fetched coarse fine : List (List Bool)) (mask v u : List Bool) → j ≤ n → 1 ≤ div_ceil n m → n ≤ groups_of n m * div_ceil n m → AreWhole n (div_ceil n m) (groups_of n m) i j whole → fetched ≡ coarse ++ fine → length coarse ≡ length (coarse_needed level whole.groups whole.from whole.to) → AreFetched (TwoLevel level m) n i j vs fetched mask → v ≡ union_of (length mask) (in_run whole.from whole.to) (group_rows (length mask) (div_ceil n m) vs (groups_of n m)) → u ≡ union (length mask) fine → each_place or v u ≡ union_of (length mask) (in_run i j) vs
together level m n i j whole vs fetched coarse fine mask v u within some all w split long f inside outside =
    let len = length mask in
    let g = div_ceil n m in
    let c = groups_of n m in
    let places = coarse_needed level whole.groups whole.from whole.to in
    let beside = from_to i whole.begin ++ from_to whole.after j in
    let rest = map (λ b. coarse_bitmaps level m n + b) beside in
    let enough : length vs ≤ c * g = omega (arith, f.number) in
    let both : coarse ++ fine ≡ map (bitmap (TwoLevel level m) len vs) places ++ map (bitmap (TwoLevel level m) len vs) rest = sym split ∙ f.bitmaps ∙ ap (λ l. map (bitmap (TwoLevel level m) len vs) l) (with_whole level m n i j whole w) ∙ map-append (bitmap (TwoLevel level m) len vs) places rest in
    let same : fine ≡ map (bitmap (TwoLevel level m) len vs) rest = back_same coarse fine (map (bitmap (TwoLevel level m) len vs) places) (map (bitmap (TwoLevel level m) len vs) rest) both (long ∙ sym (length-map places (bitmap (TwoLevel level m) len vs))) in
    let left : v ≡ union_of len (λ b. in_run whole.from whole.to (b / g)) vs = inside ∙ union_of-groups len g c vs (in_run whole.from whole.to) some enough f.bins_apart in
    let right : u ≡ union_of len (λ b. list_any (λ k. b == k) beside) vs = outside ∙ ap (λ l. union len l) same ∙ fine_union level m n len beside vs f.number f.bins_apart in
    of_two (TwoLevel level m) n i j vs fetched mask f or refl v u (λ b. in_run whole.from whole.to (b / g)) (λ b. list_any (λ k. b == k) beside) left right
    (λ b l.
    ap (λ t. or t (list_any (λ k. b == k) beside)) (run_of_groups g whole.from whole.to b some ∙ ap (λ x. in_run x (whole.to * g) b) (sym w.begin))
    ∙ ap (λ t. or (in_run whole.begin (whole.to * g) b) t) (list_any-append (λ k. b == k) (from_to i whole.begin) (from_to whole.after j) ∙ ap (λ t. t || list_any (λ k. b == k) (from_to whole.after j)) (any-from_to b i whole.begin w.before) ∙ ap (λ t. in_run i whole.begin b || t) (any-from_to b whole.after j w.within))
    ∙ parts_make_run n i j whole.begin whole.after 0 (whole.to * g) b l w.before w.inside w.within within w.after)

-- ---- the premises

pub some_in_group : (m n i j : ℕ) → 1 ≤ m → i < j → j ≤ n → 1 ≤ div_ceil n m
some_in_group m n i j h k l = let d : (n ≤ div_ceil n m * m) × (div_ceil n m * m < n + m) = div_ceil_times n m h in elim (div_ceil n m) as (λ g. n ≤ g * m → 1 ≤ g) [ zero ↦ λ e. absurd (omega arith) | suc g ↦ λ e. omega arith ] d.0

pub enough_groups : (m n : ℕ) → 1 ≤ div_ceil n m → n ≤ groups_of n m * div_ceil n m
enough_groups m n h = (div_ceil_times n (div_ceil n m) h).0

has_some : (n : ℕ) (o : Option ℕ) → 0 < n → HasCount (if n == 0 then Some 0 else option_map (λ p. n + p) o) → o ≡ Some (unwrap_or o 0)
has_some n None h c = absurd (let some : (n == 0) ≡ false = grind (arith, nat_tests) in let d : HasCount (if false then Some 0 else None) = rw some at c in d)
has_some n (Some p) h c = refl

coarse_kept : (level : Coarse) (n i j q : ℕ) → i < j → j ≤ n → coarse_count level n ≡ Some q → All (λ k. k < q) (coarse_needed level n i j)
coarse_kept coarse.Equality n i j q h k e = kept specs.Equality n i j q tt h k e
coarse_kept coarse.Range n i j q h k e = kept specs.Range n i j q tt h k e
coarse_kept coarse.Interval n i j q h k e = kept specs.Interval n i j q tt h k e

pub groups_kept : (level : Coarse) (m n groups from to : ℕ) → HasCount (bitmap_count (TwoLevel level m) n) → 0 < n → groups ≡ groups_of n m → from < to → to ≤ groups → All (λ k. k < coarse_bitmaps level m n) (coarse_needed level groups from to)
groups_kept level m n groups from to h some e l k =
    let count : coarse_count level groups ≡ Some (coarse_bitmaps level m n) = ap (λ x. coarse_count level x) e ∙ has_some n (coarse_count level (groups_of n m)) some h in
    coarse_kept level groups from to (coarse_bitmaps level m n) l k count
