-- An open index: what its encoding asks, the bitmaps of one run more, and steps.
use Rattle.std.proofs.Common.{◌≡◌, ℕ, zero, suc, ◌+◌, ◌-◌, ◌*◌, ◌^◌, ◌<◌, ◌≤◌, Bool, true, false, cond, Option, Some, Ok, All, List, [], ◌∷◌, ◌++◌, map, length, take, drop, get_or, refl, sym, ap, ◌∙◌, subst, arith, length-append, append-nil}
use Rattle.std.specs.List.{filter, flat_map}
use Rattle.std.proofs.Math.Nat.{mul-le-mul_left}
use Rattle.std.proofs.lemmas.Grind.{flat_map-append}
use Rattle.std.proofs.lemmas.List.{length-map, map-append}
use Rattle.fb_outside.specs.Files.{Files}
use Rattle.index_spec.specs.Counts.{HasGroups, bitmap_count}
use Rattle.index_spec.specs.Language.{HasGroups-given, spec_of}
use Rattle.index_spec.specs.Members.{needed}
use Rattle.index_spec.specs.Printed.{printed}
use Rattle.index_spec.specs.declared.spec.EncodingSpec.{EncodingSpec}
use Rattle.index_spec.specs.declared.spec.EncodingSpec.TheVariants.{Equality, Range, Interval, TwoLevel}
use Rattle.index_spec.specs.declared.spec.Spec.{Spec}
use Rattle.index_spec.proofs.Laws.{spelled-spec_of}
use Rattle.index_spec.proofs.MembersLemmas.{kept}
use Rattle.index_file.specs.declared.edge.Edge.{Edge}
use Rattle.index_file.specs.declared.head.IndexHead.{IndexHead}
use Rattle.wah_logic.specs.Logic.{groups_and_rest}
use Rattle.binning.specs.Against.{against}
use Rattle.binning.specs.declared.span_lists.Span.{Span}
use Rattle.binning.specs.Encodings.{HasCount, levels, vectors}
use Rattle.binning.specs.Members.{AreFetched, bitmap, in_run, union_of}
use Rattle.binning.specs.declared.against_bins.Three.{Three}
use Rattle.binning.specs.declared.against_bins.Three.TheVariants.{Yes, No, Unknown}
use Rattle.binning.specs.declared.gathering.Bin.{Bin}
use Rattle.bin_answers.specs.BinRuns.{is_same}
use Rattle.bin_answers.specs.Bins.{edge_of, edges_say, rows_of_runs}
use Rattle.bin_answers.specs.Fetched.{HasBins, StopsIn, needed_by, needed_on, runs_on}
use Rattle.bin_answers.specs.declared.bin_runs.BinRun.{BinRun}
use Rattle.bin_answers.specs.declared.fault.BinsFault.{BinsFault}
use Rattle.bin_answers.proofs.RunLemmas.{runs_within}
use Rattle.bin_answers.proofs.FetchLemmas.{all_more, cut, taken_more}

-- ---- the encoding

pub has_groups : (e : EncodingSpec) (spec : Spec) → e ≡ spec.encoding → spec_of (printed spec) ≡ Ok spec → HasGroups e
has_groups e spec same given = subst HasGroups (sym same) (HasGroups-given spec.encoding (spelled-spec_of (printed spec) spec given).given.1)

few : (places : ℕ) → places ≤ 2 ^ 32 → places - 1 < 2 ^ 32
few places h = omega arith

pub has_count : (e : EncodingSpec) (n : ℕ) (spec : Spec) (bins places : ℕ) → e ≡ spec.encoding → n ≡ bins → bitmap_count spec.encoding bins ≡ Some (places - 1) → places ≤ 2 ^ 32
    → HasCount (bitmap_count e n)
has_count e n spec bins places same number counted h =
    let is : bitmap_count e n ≡ Some (places - 1) = ap (λ (x : EncodingSpec). bitmap_count x n) same ∙ ap (λ (k : ℕ). bitmap_count spec.encoding k) number ∙ counted in
    subst HasCount (sym is) (few places h)

-- the bitmaps that a run needs are there
pub needed_below : (spec : Spec) (bins places i j : ℕ) → spec_of (printed spec) ≡ Ok spec → bitmap_count spec.encoding bins ≡ Some (places - 1) → i < j → j ≤ bins
    → All (λ k. k + 1 < places) (needed spec.encoding bins i j)
needed_below spec bins places i j given counted h l = λ k d m.
    (let below = kept spec.encoding bins i j (places - 1) (has_groups spec.encoding spec refl given) h l counted k d m in omega (arith, below))

pub levels_few : (e : EncodingSpec) → levels e ≤ 2
levels_few Equality = omega arith
levels_few Range = omega arith
levels_few Interval = omega arith
levels_few (TwoLevel level ncoarse) = omega arith

-- what was fetched is what a run needs of some bins
pub fetched_of : (files : Option Files) (head : IndexHead) (mask : List Bool) (bins : List Bin) (e : EncodingSpec) (n i j : ℕ) (fetched : List (List Bool)) (numbers : List ℕ)
    → HasBins files head mask bins → e ≡ head.spec.encoding → n ≡ length head.bins
    → fetched ≡ map (bitmap head.spec.encoding (length mask) (vectors bins)) numbers → numbers ≡ needed e n i j → AreFetched e n i j (vectors bins) fetched mask
fetched_of files head mask bins e n i j fetched numbers h same number is these = record {
  number = length-map bins (λ b. b.rows) ∙ sym (ap length h.ends ∙ length-map bins edge_of) ∙ sym number;
  bins_apart = h.apart;
  all = h.all;
  bitmaps = is ∙ ap (map (bitmap head.spec.encoding (length mask) (vectors bins))) these
      ∙ ap (λ (x : EncodingSpec). map (bitmap x (length mask) (vectors bins)) (needed e n i j)) (sym same);
}

-- ---- one run more

pub needed_one : (head : IndexHead) (r : BinRun) → needed_by head (r ∷ []) ≡ needed head.spec.encoding (length head.bins) r.first r.past
needed_one head r = append-nil (needed head.spec.encoding (length head.bins) r.first r.past)

pub needed_more : (head : IndexHead) (runs : List BinRun) (i : ℕ) (d : BinRun) → i < length runs
    → needed_by head (take (i + 1) runs) ≡ needed_by head (take i runs) ++ needed_by head (get_or runs i d ∷ [])
needed_more head runs i d l =
    let of_run = λ (r : BinRun). needed head.spec.encoding (length head.bins) r.first r.past in
    ap (flat_map of_run) (taken_more runs i d l) ∙ flat_map-append of_run (take i runs) (get_or runs i d ∷ [])

pub needed_cut : (head : IndexHead) (runs : List BinRun) (i : ℕ) (d : BinRun) → i < length runs
    → needed_by head runs ≡ needed_by head (take i runs) ++ (needed_by head (get_or runs i d ∷ []) ++ needed_by head (drop (i + 1) runs))
needed_cut head runs i d l =
    let of_run = λ (r : BinRun). needed head.spec.encoding (length head.bins) r.first r.past in
    ap (flat_map of_run) (cut runs i d l) ∙ flat_map-append of_run (take i runs) (get_or runs i d ∷ [] ++ drop (i + 1) runs)
    ∙ ap (λ l. flat_map of_run (take i runs) ++ l) (flat_map-append of_run (get_or runs i d ∷ []) (drop (i + 1) runs))

rows_one : (rows : ℕ) (bins : List Bin) (a : Three) (r : BinRun) (t : Bool) → is_same a r.answer ≡ t
    → rows_of_runs rows bins a (r ∷ []) ≡ cond t (union_of rows (in_run r.first r.past) (vectors bins) ∷ []) []
rows_one rows bins a r t e = ap (λ (s : Bool). map (λ (x : BinRun). union_of rows (in_run x.first x.past) (vectors bins)) (cond s (r ∷ []) [])) e ∙ by_case t
  where
    by_case : (s : Bool) → map (λ (x : BinRun). union_of rows (in_run x.first x.past) (vectors bins)) (cond s (r ∷ []) []) ≡ cond s (union_of rows (in_run r.first r.past) (vectors bins) ∷ []) []
    by_case true = refl
    by_case false = refl

filter_behind : (p : BinRun → Bool) (xs ys : List BinRun) → filter p (xs ++ ys) ≡ filter p xs ++ filter p ys
filter_behind p [] ys = refl
filter_behind p (x ∷ xs) ys =
    elim (p x) as (λ t. cond t (x ∷ filter p (xs ++ ys)) (filter p (xs ++ ys)) ≡ cond t (x ∷ filter p xs) (filter p xs) ++ filter p ys) [
      | true ↦ ap (λ l. x ∷ l) (filter_behind p xs ys)
      | false ↦ filter_behind p xs ys
    ]

pub runs_more : (rows : ℕ) (bins : List Bin) (a : Three) (runs : List BinRun) (i : ℕ) (d : BinRun) (found now : List (List Bool)) (v : List Bool) → i < length runs
    → now ≡ found ++ cond (is_same a (get_or runs i d).answer) (v ∷ []) [] → found ≡ rows_of_runs rows bins a (take i runs)
    → v ≡ union_of rows (in_run (get_or runs i d).first (get_or runs i d).past) (vectors bins) → now ≡ rows_of_runs rows bins a (take (i + 1) runs)
runs_more rows bins a runs i d found now v l e h is =
    let r = get_or runs i d in
    let p = λ (x : BinRun). is_same a x.answer in
    let f = λ (x : BinRun). union_of rows (in_run x.first x.past) (vectors bins) in
    e ∙ ap (λ l. l ++ cond (is_same a r.answer) (v ∷ []) []) h
    ∙ ap (λ w. rows_of_runs rows bins a (take i runs) ++ cond (is_same a r.answer) (w ∷ []) []) is
    ∙ ap (λ l. rows_of_runs rows bins a (take i runs) ++ l) (sym (rows_one rows bins a r (is_same a r.answer) refl))
    ∙ sym (ap (λ xs. map f (filter p xs)) (taken_more runs i d l) ∙ ap (map f) (filter_behind p (take i runs) (r ∷ [])) ∙ map-append f (filter p (take i runs)) (filter p (r ∷ [])))

pub long_more : (n : ℕ) (t : Bool) (found now : List (List Bool)) (v : List Bool) → now ≡ found ++ cond t (v ∷ []) [] → All (λ w. length w ≡ n) found → length v ≡ n
    → All (λ w. length w ≡ n) now
long_more n true found now v e h l = all_more (λ (w : List Bool). length w ≡ n) found now v e h l
long_more n false found now v e h l = subst (λ (ws : List (List Bool)). All (λ w. length w ≡ n) ws) (sym (e ∙ append-nil found)) h

not_both : (a : Three) (v : List Bool) → length (cond (is_same Yes a) (v ∷ []) []) + length (cond (is_same Unknown a) (v ∷ []) []) ≤ 1
not_both Yes v = omega arith
not_both No v = omega arith
not_both Unknown v = omega arith

pub count_more : (a : Three) (v : List Bool) (d u d' u' : List (List Bool)) (i : ℕ) → d' ≡ d ++ cond (is_same Yes a) (v ∷ []) [] → u' ≡ u ++ cond (is_same Unknown a) (v ∷ []) []
    → length d + length u ≤ i → length d' + length u' ≤ i + 1
count_more a v d u d' u' i e f h =
    omega (arith, ap length e ∙ length-append d (cond (is_same Yes a) (v ∷ []) []), ap length f ∙ length-append u (cond (is_same Unknown a) (v ∷ []) []), not_both a v, h)

-- ---- steps, where one operation takes twice the groups

pub run_steps : (g l k n a b : ℕ) → l ≤ 2 → k ≡ n → b ≤ a + 2 * g * (k + l) → b ≤ a + 2 * g * (n + 2)
run_steps g l k n a b few same h =
    let more : 2 * g * (k + l) ≤ 2 * g * (n + 2) = mul-le-mul_left (2 * g) (omega (arith, few, same)) in
    omega (arith, more, h)

pub run_none : (g n a : ℕ) → a ≤ a + 2 * g * (n + 2)
run_none g n a = omega arith

pub more_steps : (g k n m i a b c : ℕ) → m ≡ k + n → b ≤ a + 2 * g * (k + 2 * i) → c ≤ b + 2 * g * (n + 2) → c ≤ a + 2 * g * (m + 2 * (i + 1))
more_steps g k n m i a b c e h l =
    let split : 2 * g * (k + n + 2 * (i + 1)) ≡ 2 * g * (k + 2 * i) + 2 * g * (n + 2) = grind arith in
    let same : 2 * g * (m + 2 * (i + 1)) ≡ 2 * g * (k + n + 2 * (i + 1)) = ap (λ (x : ℕ). 2 * g * (x + 2 * (i + 1))) e in
    omega (arith, split, same, h, l)

pub within_steps : (g k n i l a b : ℕ) → k ≤ n → i ≤ l → b ≤ a + 2 * g * (k + 2 * i) → b ≤ a + 2 * g * (n + 2 * l)
within_steps g k n i l a b h m e =
    let more : 2 * g * (k + 2 * i) ≤ 2 * g * (n + 2 * l) = mul-le-mul_left (2 * g) (omega (arith, h, m)) in
    omega (arith, more, e)

pub all_steps : (g n r d u a b c : ℕ) → d + u ≤ r → b ≤ a + 2 * g * (n + 2 * r) → c ≤ b + 2 * g * (d + 2 * u) → c ≤ a + 2 * g * (4 * (n + r))
all_steps g n r d u a b c h k l =
    let split : 2 * g * (n + 2 * r + 2 * r) ≡ 2 * g * (n + 2 * r) + 2 * g * (2 * r) = grind arith in
    let few : 2 * g * (d + 2 * u) ≤ 2 * g * (2 * r) = mul-le-mul_left (2 * g) (omega (arith, h)) in
    let more : 2 * g * (n + 2 * r + 2 * r) ≤ 2 * g * (4 * (n + r)) = mul-le-mul_left (2 * g) (omega arith) in
    omega (arith, split, few, more, k, l)

pub some_steps : (g n r a b : ℕ) → b ≤ a + 2 * g * (n + 2 * r) → b ≤ a + 2 * g * (4 * (n + r))
some_steps g n r a b k =
    let more : 2 * g * (n + 2 * r) ≤ 2 * g * (4 * (n + r)) = mul-le-mul_left (2 * g) (omega arith) in
    omega (arith, more, k)

-- ---- all runs

all_joined : (places : ℕ) (xs ys : List ℕ) → All (λ k. k + 1 < places) xs → All (λ k. k + 1 < places) ys → All (λ k. k + 1 < places) (xs ++ ys)
all_joined places [] ys h k i d l = k i d l
all_joined places (x ∷ xs) ys h k zero d l = h 0 d (omega arith)
all_joined places (x ∷ xs) ys h k (suc i) d l = all_joined places xs ys (λ j e m. h (suc j) e (omega arith)) k i d (omega arith)

-- the bitmaps that runs need are there
pub all_below : (spec : Spec) (bins places : ℕ) (runs : List BinRun) → spec_of (printed spec) ≡ Ok spec → bitmap_count spec.encoding bins ≡ Some (places - 1)
    → All (λ r. (r.first < r.past) × (r.past ≤ bins)) runs → All (λ k. k + 1 < places) (flat_map (λ r. needed spec.encoding bins r.first r.past) runs)
all_below spec bins places [] given counted h = λ k d l. absurd (omega arith)
all_below spec bins places (r ∷ runs) given counted h =
    let here = h 0 r (omega arith) in
    all_joined places (needed spec.encoding bins r.first r.past) (flat_map (λ r. needed spec.encoding bins r.first r.past) runs)
    (needed_below spec bins places r.first r.past given counted here.0 here.1) (all_below spec bins places runs given counted (λ k d l. h (suc k) d (omega arith)))

-- the steps up to a run that isn't the last one
pub steps_cut : (head : IndexHead) (runs : List BinRun) (i : ℕ) (d : BinRun) (g a b c : ℕ) → i < length runs
    → b ≤ a + 2 * g * (length (needed_by head (take i runs)) + 2 * i) → c ≤ b + 2 * g * (length (needed_by head (get_or runs i d ∷ [])) + 2)
    → c ≤ a + 2 * g * (length (needed_by head runs) + 2 * length runs)
steps_cut head runs i d g a b c l h k =
    let front = needed_by head (take i runs) in
    let one = needed_by head (get_or runs i d ∷ []) in
    let rest = needed_by head (drop (i + 1) runs) in
    let size : length (needed_by head runs) ≡ length front + (length one + length rest) =
    ap length (needed_cut head runs i d l) ∙ length-append front (one ++ rest) ∙ ap (λ n. length front + n) (length-append one rest) in
    within_steps g (length front + length one) (length (needed_by head runs)) (i + 1) (length runs) a c (omega (arith, size)) (omega (arith, l))
    (more_steps g (length front) (length one) (length front + length one) i a b c refl h k)

-- the numbers that an encoding gives are those of the specification
pub numbers_are : (e : EncodingSpec) (spec : Spec) (seen bins : List Edge) (i j : ℕ) (ns items : List ℕ) → ns ≡ items → items ≡ needed e (length seen) i j → e ≡ spec.encoding → seen ≡ bins
    → ns ≡ needed spec.encoding (length bins) i j
numbers_are e spec seen bins i j ns items h is same all =
    h ∙ is ∙ ap (λ (x : EncodingSpec). needed x (length seen) i j) same ∙ ap (λ (l : List Edge). needed spec.encoding (length l) i j) all

-- ---- the runs of an index's bins

pub stop_runs : (files : Option Files) (head : IndexHead) (runs all : List BinRun) (fault : BinsFault) → runs ≡ all → StopsIn files head (needed_by head runs) fault
    → StopsIn files head (needed_by head all) fault
stop_runs files head runs all fault e h = subst (λ (rs : List BinRun). StopsIn files head (needed_by head rs) fault) e h

pub head_within : (head : IndexHead) (spans : List Span) → All (λ r. (r.first < r.past) × (r.past ≤ length head.bins)) (runs_on head spans)
head_within head spans =
    subst (λ (n : ℕ). All (λ r. (r.first < r.past) × (r.past ≤ n)) (runs_on head spans)) (length-map head.bins (λ (edge : Edge). against edge.least edge.greatest spans))
    (runs_within (edges_say head.bins spans))

-- the bitmaps that a condition needs are there
pub head_below : (head : IndexHead) (spans : List Span) → spec_of (printed head.spec) ≡ Ok head.spec → bitmap_count head.spec.encoding (length head.bins) ≡ Some (length head.offsets - 1)
    → All (λ k. k + 1 < length head.offsets) (needed_on head spans)
head_below head spans given counted = all_below head.spec (length head.bins) (length head.offsets) (runs_on head spans) given counted (head_within head spans)

pub found_steps : (head : IndexHead) (runs all : List BinRun) (g a b : ℕ) → runs ≡ all → b ≤ a + 2 * g * (length (needed_by head runs) + 2 * length runs)
    → b ≤ a + 2 * g * (4 * (length (needed_by head all) + length all))
found_steps head runs all g a b e h =
    subst (λ (rs : List BinRun). b ≤ a + 2 * g * (4 * (length (needed_by head rs) + length rs))) e (some_steps g (length (needed_by head runs)) (length runs) a b h)

pub settled_steps : (head : IndexHead) (runs all : List BinRun) (len rows d u a b c : ℕ) → runs ≡ all → rows ≡ len → d + u ≤ length runs
    → b ≤ a + 2 * groups_and_rest len * (length (needed_by head runs) + 2 * length runs) → c ≤ b + 2 * groups_and_rest rows * (d + 2 * u)
    → c ≤ a + 2 * groups_and_rest len * (4 * (length (needed_by head all) + length all))
settled_steps head runs all len rows d u a b c e same few h k =
    subst (λ (rs : List BinRun). c ≤ a + 2 * groups_and_rest len * (4 * (length (needed_by head rs) + length rs))) e
    (all_steps (groups_and_rest len) (length (needed_by head runs)) (length runs) d u a b c few h
    (subst (λ (n : ℕ). c ≤ b + 2 * groups_and_rest n * (d + 2 * u)) same k))
