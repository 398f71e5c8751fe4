-- What is or-ed into groups.
use Rattle.std.proofs.Common.{◌≡◌, ℕ, zero, suc, ◌+◌, ◌-◌, ◌*◌, ◌/◌, ◌%◌, ◌<◌, ◌≤◌, Bool, true, false, List, [], ◌∷◌, ◌++◌, length, take, drop, set, get_or, replicate, refl, sym, ap, subst, ◌∙◌, arith, append_assoc, length-append}
use Rattle.std.specs.List.{flat_map}
use Rattle.std.proofs.lemmas.List.{length-replicate, replicate-append-replicate, take-append-drop, drop_more, append-nil, length-take-le, take_more, take_all}
use Rattle.std.proofs.lemmas.Grind.{flat_map-append}
use Rattle.wah_words.specs.declared.run.Run.{Run}
use Rattle.wah_words.specs.declared.run.Run.TheVariants as runs
use Rattle.wah_words.specs.Places.{places}
use Rattle.wah_words.specs.Left.{Left, run_values, IsRun}
use Rattle.wah_words.proofs.PlacesLemmas.{length-places, places-zeros, places-ones}
use Rattle.wah_logic.specs.Logic.{each_place, or}
use Rattle.wah_logic.specs.Rest.{IsPart}
use Rattle.wah_logic.specs.Groups.{group_values, or_at, StandsAt, group_after}
use Rattle.wah_logic.proofs.JoinLemmas.{each_append, length-each}
use Rattle.wah_logic.proofs.UnionLemmas.{each_or_assoc, each_zeros_left, each_zeros_right}
use Rattle.wah_logic.proofs.WalkLemmas.{run_length, length-run_values}

-- ---- values or-ed in from a place on

length-alone : (n k : ℕ) (w : List Bool) → length (replicate n false ++ (w ++ replicate k false)) ≡ n + length w + k
length-alone n k w = omega (arith, length-append (replicate n false) (w ++ replicate k false), length-append w (replicate k false), length-replicate n false, length-replicate k false)

-- so many are false after them
or_at_before : (n k : ℕ) (w v : List Bool) → n + length w + k ≡ length v → or_at n w v ≡ each_place or v (replicate n false ++ (w ++ replicate k false))
unfolding or_at
or_at_before n k w v e =
    let after : length v - n - length w ≡ k = omega arith in
    ap (λ m. each_place or v (replicate n false ++ (w ++ replicate m false))) after

pub length-or_at : (n k : ℕ) (w v : List Bool) → n + length w + k ≡ length v → length (or_at n w v) ≡ length v
length-or_at n k w v e =
    ap length (or_at_before n k w v e) ∙ length-each or v (replicate n false ++ (w ++ replicate k false)) (sym e ∙ sym (length-alone n k w))

pub or_at_inside : (x f y w : List Bool) (n : ℕ) → length x ≡ n → length f ≡ length w → x ++ (each_place or f w ++ y) ≡ or_at n w (x ++ (f ++ y))
or_at_inside x f y w n e h =
    let k = length y in
    let all : n + length w + k ≡ length (x ++ (f ++ y)) = omega (arith, length-append x (f ++ y), length-append f y) in
    let front : each_place or x (replicate n false) ≡ x = each_zeros_right n x e in
    let back : each_place or y (replicate k false) ≡ y = each_zeros_right k y refl in
    let inner = each_append or f y w (replicate k false) h in
    let outer = each_append or x (f ++ y) (replicate n false) (w ++ replicate k false) (e ∙ sym (length-replicate n false)) in
    sym (or_at_before n k w (x ++ (f ++ y)) all ∙ outer ∙ ap (λ l. l ++ each_place or (f ++ y) (w ++ replicate k false)) front ∙ ap (λ l. x ++ l) (inner ∙ ap (λ l. each_place or f w ++ l) back))

-- what comes after them
pub or_at_then : (n : ℕ) (w v z : List Bool) → n + length w + length z ≡ length v → each_place or (or_at n w v) (replicate (n + length w) false ++ z) ≡ each_place or v (replicate n false ++ (w ++ z))
or_at_then n w v z e =
    let k = length z in
    let m = length w in
    let alone = replicate n false ++ (w ++ replicate k false) in
    let more = replicate (n + m) false ++ z in
    let long : length alone ≡ length v = length-alone n k w ∙ e in
    let long' : length more ≡ length v = omega (arith, length-append (replicate (n + m) false) z, length-replicate (n + m) false) in
    let parts : more ≡ replicate n false ++ (replicate m false ++ z) = ap (λ l. l ++ z) (sym (replicate-append-replicate n m false)) ∙ append_assoc (replicate n false) (replicate m false) z in
    let front : each_place or (replicate n false) (replicate n false) ≡ replicate n false = each_zeros_right n (replicate n false) (length-replicate n false) in
    let outer = each_append or (replicate n false) (w ++ replicate k false) (replicate n false) (replicate m false ++ z) refl in
    let inner = each_append or w (replicate k false) (replicate m false) z (sym (length-replicate m false)) in
    let both : each_place or alone more ≡ replicate n false ++ (w ++ z) = ap (each_place or alone) parts ∙ outer ∙ ap (λ l. l ++ each_place or (w ++ replicate k false) (replicate m false ++ z)) front ∙ ap (λ l. replicate n false ++ l) (inner ∙ ap (λ l. l ++ each_place or (replicate k false) z) (each_zeros_right m w refl) ∙ ap (λ l. w ++ l) (each_zeros_left k z refl)) in
    ap (λ l. each_place or l more) (or_at_before n k w v e) ∙ each_or_assoc v alone more (sym long) (long ∙ sym long') ∙ ap (each_place or v) both

pub or_at_next : (n k : ℕ) (w z v : List Bool) → n + length w + length z + k ≡ length v → or_at (n + length w) z (or_at n w v) ≡ or_at n (w ++ z) v
or_at_next n k w z v e =
    let after = z ++ replicate k false in
    let long : length after ≡ length z + k = length-append z (replicate k false) ∙ ap (λ m. length z + m) (length-replicate k false) in
    let one = length-or_at n (length z + k) w v (omega (arith, e)) in
    or_at_before (n + length w) k z (or_at n w v) (omega (arith, e, one))
    ∙ or_at_then n w v after (omega (arith, e, long))
    ∙ ap (λ l. each_place or v (replicate n false ++ l)) (sym (append_assoc w z (replicate k false)))
    ∙ sym (or_at_before n k (w ++ z) v (omega (arith, e, length-append w z)))

pub or_at_zeros : (n m k : ℕ) (v : List Bool) → n + m + k ≡ length v → v ≡ or_at n (replicate m false) v
or_at_zeros n m k v e =
    let e' : n + length (replicate m false) + k ≡ length v = omega (arith, e, length-replicate m false) in
    let zeros : replicate n false ++ (replicate m false ++ replicate k false) ≡ replicate (length v) false = ap (λ l. replicate n false ++ l) (replicate-append-replicate m k false) ∙ replicate-append-replicate n (m + k) false ∙ ap (λ j. replicate j false) (omega (arith, e)) in
    sym (or_at_before n k (replicate m false) v e' ∙ ap (each_place or v) zeros ∙ each_zeros_right (length v) v refl)

-- ---- the groups

length-groups : (gs : List ℕ) → length (flat_map (places 31) gs) ≡ 31 * length gs
length-groups [] = refl
length-groups (g ∷ gs) = length-append (places 31 g) (flat_map (places 31) gs) ∙ omega (arith, length-places 31 g, length-groups gs)

pub length-group_values : (gs : List ℕ) (rest tail : ℕ) → length (group_values gs rest tail) ≡ 31 * length gs + rest
unfolding group_values
length-group_values gs rest tail = length-append (flat_map (places 31) gs) (places rest tail) ∙ omega (arith, length-groups gs, length-places rest tail)

groups_zeros : (n : ℕ) → flat_map (places 31) (replicate n 0) ≡ replicate (31 * n) false
groups_zeros zero = refl
groups_zeros (suc n) =
    let e : 31 * suc n ≡ 31 + 31 * n = omega arith in
    ap (λ l. places 31 0 ++ l) (groups_zeros n) ∙ ap (λ l. l ++ replicate (31 * n) false) (places-zeros 31) ∙ replicate-append-replicate 31 (31 * n) false ∙ ap (λ k. replicate k false) (sym e)

pub zeros_values : (gs : List ℕ) (len : ℕ) → gs ≡ replicate (len / 31) 0 → group_values gs (len % 31) 0 ≡ replicate len false
unfolding group_values
zeros_values gs len e =
    let all : 31 * (len / 31) + len % 31 ≡ len = omega arith in
    ap (λ l. flat_map (places 31) l ++ places (len % 31) 0) e ∙ ap (λ l. l ++ places (len % 31) 0) (groups_zeros (len / 31)) ∙ ap (λ l. replicate (31 * (len / 31)) false ++ l) (places-zeros (len % 31)) ∙ replicate-append-replicate (31 * (len / 31)) (len % 31) false ∙ ap (λ k. replicate k false) all

parted : (a b : List ℕ) (g rest tail : ℕ) → group_values (a ++ g ∷ b) rest tail ≡ flat_map (places 31) a ++ (places 31 g ++ group_values b rest tail)
unfolding group_values
parted a b g rest tail =
    ap (λ l. l ++ places rest tail) (flat_map-append (places 31) a (g ∷ b)) ∙ append_assoc (flat_map (places 31) a) (places 31 g ++ flat_map (places 31) b) (places rest tail) ∙ ap (λ l. flat_map (places 31) a ++ l) (append_assoc (places 31 g) (flat_map (places 31) b) (places rest tail))

set_parts : (xs : List ℕ) (i y : ℕ) → i < length xs → set xs i y ≡ take i xs ++ y ∷ drop (i + 1) xs
set_parts [] i y h = absurd (omega arith)
set_parts (x ∷ xs) zero y h = refl
set_parts (x ∷ xs) (suc i) y h =
    let e : suc i + 1 ≡ suc (i + 1) = omega arith in
    rw e (ap (λ l. x ∷ l) (set_parts xs i y (omega arith)))

parts : (xs : List ℕ) (i d : ℕ) → i < length xs → xs ≡ take i xs ++ get_or xs i d ∷ drop (i + 1) xs
parts xs i d h = sym (take-append-drop i xs) ∙ ap (λ l. take i xs ++ l) (drop_more xs i d h)

pub front_long : (gs : List ℕ) (i : ℕ) → i ≤ length gs → length (flat_map (places 31) (take i gs)) ≡ 31 * i
front_long gs i h = length-groups (take i gs) ∙ ap (λ n. 31 * n) (length-take-le i gs h)

-- a word into its group
pub group_or : (gs : List ℕ) (i w r rest tail d : ℕ) → i < length gs → places 31 r ≡ each_place or (places 31 (get_or gs i d)) (places 31 w) → group_values (set gs i r) rest tail ≡ or_at (31 * i) (places 31 w) (group_values gs rest tail)
group_or gs i w r rest tail d h e =
    let x = flat_map (places 31) (take i gs) in
    let y = group_values (drop (i + 1) gs) rest tail in
    let g = get_or gs i d in
    let now = ap (λ l. group_values l rest tail) (set_parts gs i r h) ∙ parted (take i gs) (drop (i + 1) gs) r rest tail ∙ ap (λ l. x ++ (l ++ y)) e in
    let was = ap (λ l. group_values l rest tail) (parts gs i d h) ∙ parted (take i gs) (drop (i + 1) gs) g rest tail in
    now ∙ or_at_inside x (places 31 g) y (places 31 w) (31 * i) (front_long gs i (omega arith)) (length-places 31 g ∙ sym (length-places 31 w)) ∙ ap (or_at (31 * i) (places 31 w)) (sym was)

-- the rest
pub rest_or : (gs : List ℕ) (rest tail bits r : ℕ) → rest < 31 → places rest r ≡ each_place or (places rest tail) (places rest bits) → group_values gs rest r ≡ or_at (31 * (length (group_values gs rest tail) / 31)) (places (length (group_values gs rest tail) % 31) bits) (group_values gs rest tail)
unfolding group_values
rest_or gs rest tail bits r few e =
    let x = flat_map (places 31) gs in
    let long : length (x ++ places rest tail) ≡ 31 * length gs + rest = length-append x (places rest tail) ∙ omega (arith, length-groups gs, length-places rest tail) in
    let whole : length (x ++ places rest tail) / 31 ≡ length gs = omega (arith, long) in
    let left : length (x ++ places rest tail) % 31 ≡ rest = omega (arith, long) in
    let was : x ++ (places rest tail ++ []) ≡ x ++ places rest tail = ap (λ l. x ++ l) (append-nil (places rest tail)) in
    rw (whole, left) (ap (λ l. x ++ l) e ∙ ap (λ l. x ++ l) (sym (append-nil (each_place or (places rest tail) (places rest bits)))) ∙ or_at_inside x (places rest tail) [] (places rest bits) (31 * length gs) (length-groups gs) (length-places rest tail ∙ sym (length-places rest bits)) ∙ ap (or_at (31 * length gs) (places rest bits)) was)

-- ---- the walk over a vector

-- The values that are left are still to be or-ed in, at the end.
pub record Gathers (old v now left : List Bool) (group : ℕ) : Type 0 where
  pub values : each_place or now (replicate (length now - length left) false ++ left) ≡ each_place or old v
  pub same : length now ≡ length old
  pub most : length left ≤ length now
  pub stands : 0 < length left → 31 * group + length left ≡ length now

pub gathers_start : (old v : List Bool) → length v ≡ length old → Gathers old v old v 0
gathers_start old v e =
    let none : length old - length v ≡ 0 = omega arith in
    record {
      values = ap (λ n. each_place or old (replicate n false ++ v)) none;
      same = refl;
      most = omega arith;
      stands = λ some. omega arith;
    }

pub part_of : (run : Run) (new : Left) → IsRun run new → IsPart run new.values
part_of (runs.Fill bit groups) new h = h
part_of (runs.Literal word) new h = omega (arith, h.1)
part_of (runs.Tail bits count) new h = (h.0, h.1, h.2, h.3)

some_run : (run : Run) (u : List Bool) → IsPart run u → 0 < run_length run
some_run (runs.Fill bit groups) u h = omega arith
some_run (runs.Literal word) u h = omega arith
some_run (runs.Tail bits count) u h = h.0

stands_at : (run : Run) (u : List Bool) (group len : ℕ) → IsPart run u → 31 * group + (run_length run + length u) ≡ len → StandsAt group run len
stands_at (runs.Fill bit groups) u group len h e = omega arith
stands_at (runs.Literal word) u group len h e = omega arith
stands_at (runs.Tail bits count) u group len h e = omega (arith, e, ap length h.3)

-- the group that comes after it
stands_after : (run : Run) (u : List Bool) (group len : ℕ) → IsPart run u → 31 * group + (run_length run + length u) ≡ len → 0 < length u → 31 * group_after group run + length u ≡ len
stands_after (runs.Fill bit groups) u group len h e some = omega arith
stands_after (runs.Literal word) u group len h e some = omega arith
stands_after (runs.Tail bits count) u group len h e some = absurd (omega (arith, ap length h.3))

left_long : (left u : List Bool) (run : Run) → left ≡ run_values run ++ u → length left ≡ run_length run + length u
left_long left u run e = ap length e ∙ length-append (run_values run) u ∙ ap (λ n. n + length u) (length-run_values run)

here : (old v now left u : List Bool) (group : ℕ) (run : Run) → Gathers old v now left group → left ≡ run_values run ++ u → IsPart run u → 31 * group + (run_length run + length u) ≡ length now
here old v now left u group run g e h =
    let long = left_long left u run e in
    let at = g.stands (omega (arith, long, some_run run u h)) in
    omega (arith, at, long)

pub gathers_stands : (old v now left u : List Bool) (group : ℕ) (run : Run) → Gathers old v now left group → left ≡ run_values run ++ u → IsPart run u → StandsAt group run (length now)
gathers_stands old v now left u group run g e h = stands_at run u group (length now) h (here old v now left u group run g e h)

pub gathers_run : (old v now left u new : List Bool) (group : ℕ) (run : Run) → Gathers old v now left group → left ≡ run_values run ++ u → IsPart run u → new ≡ or_at (31 * group) (run_values run) now → Gathers old v new u (group_after group run)
gathers_run old v now left u new group run g e h k =
    let n = 31 * group in
    let w = run_values run in
    let m = length-run_values run in
    let at = here old v now left u group run g e h in
    let all : n + length w + length u ≡ length now = omega (arith, at, m) in
    let long : length new ≡ length now = ap length k ∙ length-or_at n (length u) w now all in
    let before : length new - length u ≡ n + length w = omega (arith, long, all) in
    let before' : length now - length left ≡ n = omega (arith, at, left_long left u run e) in
    record {
      values = ap (λ i. each_place or new (replicate i false ++ u)) before ∙ ap (λ l. each_place or l (replicate (n + length w) false ++ u)) k ∙ or_at_then n w now u all ∙ ap (λ l. each_place or now (replicate n false ++ l)) (sym e) ∙ ap (λ i. each_place or now (replicate i false ++ left)) (sym before') ∙ g.values;
      same = long ∙ g.same;
      most = omega (arith, long, all);
      stands = λ some. stands_after run u group (length new) h (at ∙ sym long) some;
    }

pub gathers_end : (old v now left : List Bool) (group : ℕ) → Gathers old v now left group → left ≡ [] → now ≡ each_place or old v
gathers_end old v now left group g e =
    let count : length now - length left ≡ length now = omega (arith, ap length e) in
    let all : replicate (length now - length left) false ++ left ≡ replicate (length now) false = ap (λ n. replicate n false ++ left) count ∙ ap (λ l. replicate (length now) false ++ l) e ∙ append-nil (replicate (length now) false) in
    sym (each_zeros_right (length now) now refl) ∙ ap (each_place or now) (sym all) ∙ g.values

-- ---- groups that are all true, or all false

pub ones_none : (g : ℕ) (v : List Bool) → 31 * g ≤ length v → v ≡ or_at (31 * g) (replicate (31 * (g - g)) true) v
ones_none g v h =
    let none : 31 * (g - g) ≡ 0 = omega arith in
    or_at_zeros (31 * g) 0 (length v - 31 * g) v (omega (arith, h)) ∙ ap (λ n. or_at (31 * g) (replicate n true) v) (sym none)

pub ones_next : (g at : ℕ) (v now new : List Bool) → g ≤ at → 31 * (at + 1) ≤ length v → now ≡ or_at (31 * g) (replicate (31 * (at - g)) true) v → new ≡ or_at (31 * at) (places 31 2147483647) now → (new ≡ or_at (31 * g) (replicate (31 * (at + 1 - g)) true) v) × (length new ≡ length v)
ones_next g at v now new h l e k =
    let n = 31 * g in
    let w = replicate (31 * (at - g)) true in
    let m : length w ≡ 31 * (at - g) = length-replicate (31 * (at - g)) true in
    let z = replicate 31 true in
    let after = length v - 31 * (at + 1) in
    let here : 31 * at ≡ n + length w = omega (arith, m, h) in
    let all : n + length w + length z + after ≡ length v = omega (arith, m, h, l, length-replicate 31 true) in
    let count : 31 * (at - g) + 31 ≡ 31 * (at + 1 - g) = omega (arith, h) in
    let joined : w ++ z ≡ replicate (31 * (at + 1 - g)) true = replicate-append-replicate (31 * (at - g)) 31 true ∙ ap (λ i. replicate i true) count in
    let step : new ≡ or_at n (w ++ z) v = k ∙ ap (λ l. or_at (31 * at) l now) (places-ones 31 2147483647 refl) ∙ ap (λ i. or_at i z now) here ∙ ap (or_at (n + length w) z) e ∙ or_at_next n after w z v all in
    let one : length (w ++ z) ≡ 31 * (at + 1 - g) = ap length joined ∙ length-replicate (31 * (at + 1 - g)) true in
    (step ∙ ap (λ l. or_at n l v) joined, ap length step ∙ length-or_at n after (w ++ z) v (omega (arith, one, h, l)))

pub zeros_run : (run : Run) (bit : Bool) (groups g : ℕ) (v : List Bool) → run ≡ runs.Fill bit groups → bit ≡ false → StandsAt g run (length v) → v ≡ or_at (31 * g) (run_values run) v
zeros_run run bit groups g v e b h =
    let stands : 31 * (g + groups) ≤ length v = subst (λ r. StandsAt g r (length v)) e h in
    or_at_zeros (31 * g) (31 * groups) (length v - 31 * (g + groups)) v (omega (arith, stands)) ∙ ap (λ c. or_at (31 * g) (replicate (31 * groups) c) v) (sym b) ∙ ap (λ r. or_at (31 * g) (run_values r) v) (sym e)

-- ---- the vector of the groups

pub front_more : (gs : List ℕ) (i d : ℕ) → i < length gs → flat_map (places 31) (take (i + 1) gs) ≡ flat_map (places 31) (take i gs) ++ places 31 (get_or gs i d)
front_more gs i d h =
    let g = get_or gs i d in
    ap (flat_map (places 31)) (take_more gs i d h) ∙ flat_map-append (places 31) (take i gs) (g ∷ []) ∙ ap (λ l. flat_map (places 31) (take i gs) ++ l) (append-nil (places 31 g))

pub front_all : (gs : List ℕ) (i rest tail : ℕ) → length gs ≤ i → flat_map (places 31) (take i gs) ++ places rest tail ≡ group_values gs rest tail
unfolding group_values
front_all gs i rest tail h = ap (λ l. flat_map (places 31) l ++ places rest tail) (take_all i gs h)

pub no_rest : (v : List Bool) (rest tail : ℕ) → rest ≤ 0 → v ≡ v ++ places rest tail
unfolding places
no_rest v zero tail h = sym (append-nil v)
no_rest v (suc rest) tail h = absurd (omega arith)

pub front_end : (gs : List ℕ) (i : ℕ) → length gs ≤ i → length (flat_map (places 31) (take i gs)) ≡ 31 * length gs
front_end gs i h = ap (λ l. length (flat_map (places 31) l)) (take_all i gs h) ∙ length-groups gs
