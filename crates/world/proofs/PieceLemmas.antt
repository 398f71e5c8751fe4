-- The parts of a load: their number, their records and their sizes.
use Rattle.std.proofs.Common.{◌≡◌, ◌+◌, ◌-◌, ◌*◌, ◌/◌, ◌%◌, ◌<◌, ◌≤◌, min, ℕ, zero, suc, List, ◌∷◌, ◌++◌, All, length, map, take, drop, refl, sym, ap, ◌∙◌, subst, arith, length-take, length-drop}
use Rattle.std.proofs.Math.Nat.{mul-le-mul_left, zero-div}
use Rattle.std.proofs.Math.Seq.{take-add}
use Rattle.std.specs.List.{AllPairs, flat_map, range_with_len}
use Rattle.std.proofs.lemmas.Grind.{div_ceil_times}
use Rattle.std.proofs.lemmas.List.{drop-drop, take_all}
use Rattle.std.proofs.lemmas.List.Elements.{All-map}
use Rattle.std.proofs.lemmas.List.Folds.{flat_map-map}
use Rattle.std.proofs.lemmas.List.FromFn.{get_or-range_with_len, length-range_with_len}
use Rattle.fb_types.specs.declared.cells.Cell.{Cell}
use Rattle.world.specs.World.{Partition}
use Rattle.world.specs.Effects.{new_part, new_parts, part_count, piece}

-- ---- numbers in a row

pub All-range : (P : ℕ → Type 0) (a n : ℕ) → ((k : ℕ) → a ≤ k → k < a + n → P k) → All P (range_with_len a n)
All-range P a n each k d h =
    let within : k < n = omega (arith, length-range_with_len a n) in
    subst P (sym (get_or-range_with_len a n k d within)) (each (a + k) (omega arith) (omega arith))

pub range-rising : (a n : ℕ) → AllPairs (λ x y. x < y) (range_with_len a n)
range-rising a n i j d before h =
    let within : j < n = omega (arith, length-range_with_len a n) in
    let first : i < n = omega arith in
    omega (arith, get_or-range_with_len a n i d first, get_or-range_with_len a n j d within)

-- ---- how many parts

pub part_count-enough : (per_part rows : ℕ) → 1 ≤ per_part → rows ≤ part_count per_part rows * per_part
part_count-enough per_part rows some = (div_ceil_times rows per_part some).0

-- a part that is there begins before the last record
pub part-begins : (per_part rows place : ℕ) → 1 ≤ per_part → place < part_count per_part rows → place * per_part < rows
part-begins per_part rows place some there =
    let count = part_count per_part rows in
    let few : count * per_part < rows + per_part = (div_ceil_times rows per_part some).1 in
    let next : place + 1 ≤ count = omega arith in
    let whole : per_part * (place + 1) ≤ per_part * count = mul-le-mul_left per_part next in
    omega (arith, few, whole)

pub part_count-none : (per_part : ℕ) → 1 ≤ per_part → part_count per_part 0 ≡ 0
part_count-none per_part some =
    let quotient : 0 / per_part ≡ 0 = zero-div per_part in
    let rest : 0 % per_part ≡ 0 = omega arith in
    omega (arith, quotient, rest)

-- ---- their records

pub pieces-from : (per_part : ℕ) (records : List (List Cell)) (a n : ℕ)
    → flat_map (piece per_part records) (range_with_len a n) ≡ take (n * per_part) (drop (a * per_part) records)
pieces-from per_part records a zero =
    let none : 0 * per_part ≡ 0 = omega arith in
    sym (ap (λ (k : ℕ). take k (drop (a * per_part) records)) none)
pieces-from per_part records a (suc n) =
    let rest = drop (a * per_part) records in
    let next : drop ((a + 1) * per_part) records ≡ drop per_part rest
    = ap (λ (k : ℕ). drop k records) (let e : (a + 1) * per_part ≡ a * per_part + per_part = omega arith in e)
    ∙ sym (drop-drop per_part (a * per_part) records) in
    let tail : flat_map (piece per_part records) (range_with_len (a + 1) n) ≡ take (n * per_part) (drop per_part rest)
    = pieces-from per_part records (a + 1) n ∙ ap (take (n * per_part)) next in
    let size : per_part + n * per_part ≡ suc n * per_part = omega arith in
    ap (λ (xs : List (List Cell)). take per_part rest ++ xs) tail
    ∙ sym (take-add per_part (n * per_part) rest)
    ∙ ap (λ (k : ℕ). take k rest) size

pub pieces-all : (next per_part : ℕ) (records : List (List Cell)) → 1 ≤ per_part
    → flat_map (λ part. part.records) (new_parts next per_part records) ≡ records
pieces-all next per_part records some =
    let count = part_count per_part (length records) in
    flat_map-map (λ (part : Partition). part.records) (new_part next per_part records) (range_with_len 0 count)
    ∙ pieces-from per_part records 0 count
    ∙ ap (λ (k : ℕ). take (count * per_part) (drop k records)) (let none : 0 * per_part ≡ 0 = omega arith in none)
    ∙ take_all (count * per_part) records (part_count-enough per_part (length records) some)

-- ---- their sizes

pub piece-size : (per_part : ℕ) (records : List (List Cell)) (place : ℕ) → 1 ≤ per_part → place < part_count per_part (length records)
    → (1 ≤ length (piece per_part records place)) × (length (piece per_part records place) ≤ per_part)
piece-size per_part records place some there =
    let begins : place * per_part < length records = part-begins per_part (length records) place some there in
    let size : length (piece per_part records place) ≡ min per_part (length records - place * per_part)
    = length-take per_part (drop (place * per_part) records) ∙ ap (min per_part) (length-drop (place * per_part) records) in
    (omega arith, omega arith)

-- what holds of each part at its place
pub All-new_parts : (P : Partition → Type 0) (next per_part : ℕ) (records : List (List Cell))
    → ((place : ℕ) → place < part_count per_part (length records) → P (new_part next per_part records place))
    → All P (new_parts next per_part records)
All-new_parts P next per_part records each =
    let count = part_count per_part (length records) in
    All-map P (new_part next per_part records) (range_with_len 0 count)
    (All-range (λ place. P (new_part next per_part records place)) 0 count (λ place low within. each place (omega arith)))

-- their numbers
pub numbers-from : (next per_part : ℕ) (records : List (List Cell)) (a n : ℕ)
    → map (λ part. part.number) (map (new_part next per_part records) (range_with_len a n)) ≡ range_with_len (next + a) n
numbers-from next per_part records a zero = refl
numbers-from next per_part records a (suc n) =
    ap (λ (xs : List ℕ). (next + a) ∷ xs)
    (numbers-from next per_part records (a + 1) n
    ∙ ap (λ (k : ℕ). range_with_len k n) (let e : next + (a + 1) ≡ next + a + 1 = omega arith in e))

pub numbers-new_parts : (next per_part : ℕ) (records : List (List Cell))
    → map (λ part. part.number) (new_parts next per_part records) ≡ range_with_len next (part_count per_part (length records))
numbers-new_parts next per_part records =
    numbers-from next per_part records 0 (part_count per_part (length records))
    ∙ ap (λ (k : ℕ). range_with_len k (part_count per_part (length records))) (let e : next + 0 ≡ next = omega arith in e)
