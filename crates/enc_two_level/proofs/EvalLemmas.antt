-- Numbers of vectors, lengths and steps of an answer.
use Rattle.std.proofs.Common.{◌≡◌, ℕ, ◌+◌, ◌-◌, ◌*◌, ◌^◌, ◌<◌, ◌≤◌, Bool, false, map, List, ◌++◌, All, length, take, drop, Option, Some, None, unwrap_or, if◌then◌else◌, ◌==◌, refl, sym, ap, ◌∙◌, arith, length-append}
use Rattle.std.proofs.lemmas.Bool.Decides.{nat_tests}
use Rattle.std.proofs.lemmas.List.{length-map, map-id, take-append-drop}
use Rattle.std.proofs.lemmas.List.Elements.{All-drop}
use Rattle.std.proofs.lemmas.List.FromFn.{length-range_with_len}
use Rattle.std.specs.Int.{div_ceil}
use Rattle.std.specs.Option.{option_map}
use Rattle.index_spec.specs.declared.spec.Coarse.{Coarse}
use Rattle.index_spec.specs.declared.spec.Coarse.TheVariants as coarse
use Rattle.index_spec.specs.declared.spec.EncodingSpec.TheVariants.{TwoLevel}
use Rattle.index_spec.specs.Counts.{coarse_count, bitmap_count, groups_of}
use Rattle.index_spec.specs.Members.{from_to, coarse_needed, coarse_bitmaps, two_level_needed}
use Rattle.wah_logic.specs.Logic.{union, groups_and_rest}
use Rattle.wah_logic.proofs.UnionLemmas.{length-union}
use Rattle.binning.specs.Encodings.{levels, HasCount}
use Rattle.binning.proofs.FetchedLemmas.{long_rows}
use Rattle.enc_two_level.specs.Levels.{one_level}
use Rattle.enc_two_level.specs.declared.groups.Whole.{Whole}
use Rattle.enc_two_level.specs.Whole.{AreWhole}
use Rattle.enc_two_level.proofs.NeedsLemmas.{with_whole}

length-from_to : (i j : ℕ) → length (from_to i j) ≡ j - i
length-from_to i j = length-range_with_len i (j - i)

-- so many are those of the groups, and so many those of the bins beside them
pub number_split : (level : Coarse) (m n i j k : ℕ) (whole : Whole) → AreWhole n (div_ceil n m) (groups_of n m) i j whole → k ≡ length (two_level_needed level m n i j) → k ≡ length (coarse_needed level whole.groups whole.from whole.to) + ((whole.begin - i) + (j - whole.after))
number_split level m n i j k whole w e =
    let places = coarse_needed level whole.groups whole.from whole.to in
    let beside = from_to i whole.begin ++ from_to whole.after j in
    e ∙ ap length (with_whole level m n i j whole w) ∙ length-append places (map (λ b. coarse_bitmaps level m n + b) beside)
    ∙ ap (λ x. length places + x) (length-map beside (λ b. coarse_bitmaps level m n + b) ∙ length-append (from_to i whole.begin) (from_to whole.after j) ∙ ap (λ x. x + length (from_to whole.after j)) (length-from_to i whole.begin) ∙ ap (λ x. (whole.begin - i) + x) (length-from_to whole.after j))

pub one : (level : Coarse) → levels (one_level level) ≡ 1
one coarse.Equality = refl
one coarse.Range = refl
one coarse.Interval = refl

-- the steps after the groups, after the bins beside them, and in all
pub first_steps : (level : Coarse) (g k k' s t : ℕ) → k ≤ k' → t ≤ s + 2 * g * (k + levels (one_level level)) → t ≤ s + 2 * g * (k' + 2)
first_steps level g k k' s t e h =
    let h' : t ≤ s + 2 * g * (k + 1) = omega (arith, h, ap (λ l. 2 * g * (k + l)) (one level)) in
    let all : 2 * g * (k' + 2) ≡ 2 * g * (k + 1) + 2 * g * (k' - k + 1) = ap (λ x. 2 * g * x) (let y : k' + 2 ≡ (k + 1) + (k' - k + 1) = omega arith in y) ∙ grind arith in
    omega arith

pub second_steps : (level : Coarse) (g g' k l k' s t u : ℕ) → g' ≡ g → k + l ≤ k' → t ≤ s + 2 * g * (k + levels (one_level level)) → u ≤ t + 2 * g' * l → u ≤ s + 2 * g * (k' + 2)
second_steps level g g' k l k' s t u same e h p =
    let h' : t ≤ s + 2 * g * (k + 1) = omega (arith, h, ap (λ x. 2 * g * (k + x)) (one level)) in
    let p' : u ≤ t + 2 * g * l = omega (arith, p, ap (λ x. 2 * x * l) same) in
    let all : 2 * g * (k' + 2) ≡ 2 * g * (k + 1) + 2 * g * l + 2 * g * (k' - (k + l) + 1) = ap (λ x. 2 * g * x) (let y : k' + 2 ≡ (k + 1) + l + (k' - (k + l) + 1) = omega arith in y) ∙ grind arith in
    omega arith

pub all_steps : (level : Coarse) (g g' g'' k l k' s t u v : ℕ) → g' ≡ g → g'' ≡ g → k + l ≤ k' → t ≤ s + 2 * g * (k + levels (one_level level)) → u ≤ t + 2 * g' * l → v ≤ u + 2 * g'' → v ≤ s + 2 * g * (k' + 2)
all_steps level g g' g'' k l k' s t u v same same' e h p q =
    let h' : t ≤ s + 2 * g * (k + 1) = omega (arith, h, ap (λ x. 2 * g * (k + x)) (one level)) in
    let p' : u ≤ t + 2 * g * l = omega (arith, p, ap (λ x. 2 * x * l) same) in
    let q' : v ≤ u + 2 * g = omega (arith, q, same') in
    let all : 2 * g * (k' + 2) ≡ 2 * g * (k + 1) + 2 * g * l + 2 * g * (k' - (k + l)) + 2 * g = ap (λ x. 2 * g * x) (let y : k' + 2 ≡ (k + 1) + l + (k' - (k + l)) + 1 = omega arith in y) ∙ grind arith in
    omega arith

-- vectors after the first are long
pub back_long : (len len' mid : ℕ) (fetched back : List (List Bool)) → len' ≡ len → back ≡ drop mid fetched → All (λ v. length v ≡ len) fetched → All (λ v. length v ≡ len') (map (λ v. v) back)
back_long len len' mid fetched back e b h = rw (e, b) (long_rows len (drop mid fetched) (All-drop (λ v. length v ≡ len) mid fetched h))

pub union_long : (len len' : ℕ) (list : List (List Bool)) (v : List Bool) → len' ≡ len → All (λ x. length x ≡ len') (map (λ x. x) list) → v ≡ union len' (map (λ x. x) list) → length v ≡ len
union_long len len' list v e h is = ap length is ∙ length-union len' (map (λ x. x) list) h ∙ e

pub union_is : (len len' : ℕ) (list : List (List Bool)) (v : List Bool) → len' ≡ len → v ≡ union len' (map (λ x. x) list) → v ≡ union len list
union_is len len' list v e is = is ∙ ap (λ l. union len' l) (map-id list) ∙ ap (λ n. union n list) e

-- there is room for the numbers of all bitmaps
room : (q n : ℕ) (o : Option ℕ) → 0 < n → HasCount (if n == 0 then Some 0 else option_map (λ p. n + p) o) → (unwrap_or o 0) + n < 2 ^ 32
room q n None h c = absurd (let some : (n == 0) ≡ false = grind (arith, nat_tests) in let d : HasCount (if false then Some 0 else None) = rw some at c in d)
room q n (Some p) h c = let some : (n == 0) ≡ false = grind (arith, nat_tests) in let d : HasCount (if false then Some 0 else Some (n + p)) = rw some at c in omega (arith, d)

pub few_places : (level : Coarse) (m n : ℕ) → 0 < n → HasCount (bitmap_count (TwoLevel level m) n) → coarse_bitmaps level m n + n < 2 ^ 32
few_places level m n h c = room 0 n (coarse_count level (groups_of n m)) h c

pub split_is : (mid : ℕ) (fetched a b : List (List Bool)) → a ≡ take mid fetched → b ≡ drop mid fetched → fetched ≡ a ++ b
split_is mid fetched a b e h = sym (ap (λ l. l ++ b) e ∙ ap (λ l. take mid fetched ++ l) h ∙ take-append-drop mid fetched)

-- the number of the coarse bitmaps, as the code counts them
pub count_of : (level level' : Coarse) (m n size q : ℕ) → level' ≡ level → size ≡ div_ceil n m → q ≡ unwrap_or (coarse_count level' (div_ceil n size)) 0 → q ≡ coarse_bitmaps level m n
count_of level level' m n size q e h is = is ∙ ap (λ l. unwrap_or (coarse_count l (div_ceil n size)) 0) e ∙ ap (λ x. unwrap_or (coarse_count level (div_ceil n x)) 0) h
