-- A dataset with new parts, and without them again.
use Rattle.std.proofs.lemmas.Bool.{ltb-false, ltb-true}
use Rattle.std.proofs.Common.{◌≡◌, ◌⊎◌, inl, inr, nat_lt, true, false, ◌<◌, ◌≤◌, ◌+◌, ◌-◌, zero, suc, ℕ, List, [], ◌∷◌, ◌++◌, Option, Some, None, MatchOption, length, map, take, get_or, refl, sym, ap, ◌∙◌, arith, length-append, length-take}
use Rattle.std.specs.List.{All, AllPairs, range_with_len}
use Rattle.std.proofs.Math.Seq.{take-append_seam}
use Rattle.std.proofs.lemmas.List.{length-map, map-append, get_or_append_left}
use Rattle.std.proofs.lemmas.List.FromFn.{length-map-range_with_len, length-range_with_len, get_or-range_with_len, map-range_with_len_more}
use Rattle.fb_types.specs.declared.cells.Cell.{Cell}
use Rattle.fb_types.specs.declared.schemas.Column.{Column}
use Rattle.part_meta.specs.declared.part.PartMeta.{PartMeta}
use Rattle.world.specs.Effects.{new_part, part_count}
use Rattle.world.specs.PartFiles.{part_data}
use Rattle.dataset.specs.Appended.{appended, grown_catalog}
use Rattle.dataset.specs.Opened.{catalog_in}
use Rattle.dataset.specs.declared.content.Dataset.{Dataset}

-- ---- a list without its last items

take-take : {X : Type 0} (n m : ℕ) (xs : List X) → n ≤ m → take n (take m xs) ≡ take n xs
take-take zero m xs h = refl
take-take (suc n) zero xs h = absurd (omega arith)
take-take (suc n) (suc m) [] h = refl
take-take (suc n) (suc m) (x ∷ xs) h = ap (λ ys. x ∷ ys) (take-take n m xs (omega arith))

front_is : {X : Type 0} (xs ys : List X) (last : X) → xs ≡ ys ++ last ∷ [] → ys ≡ take (length xs - 1) xs
front_is xs ys last h =
    let len : length xs ≡ length ys + 1 = ap length h ∙ length-append ys (last ∷ []) in
    let n : length ys ≡ length xs - 1 = omega arith in
    sym (take-append_seam ys (last ∷ [])) ∙ ap (λ zs. take (length ys) zs) (sym h) ∙ ap (λ k. take k xs) n

popped : {X : Type 0} (xs ys : List X) (r : Option X) → MatchOption r ((xs ≡ []) × (ys ≡ [])) (λ last. xs ≡ ys ++ last ∷ []) → ys ≡ take (length xs - 1) xs
popped xs ys None h = h.1 ∙ sym (ap (λ zs. take (length zs - 1) zs) h.0)
popped xs ys (Some last) h = front_is xs ys last h

pub popped_more : {X : Type 0} (all xs ys : List X) (k : ℕ) (r : Option X) → xs ≡ take (length all - k) all
    → MatchOption r ((xs ≡ []) × (ys ≡ [])) (λ last. xs ≡ ys ++ last ∷ []) → ys ≡ take (length all - (k + 1)) all
popped_more all xs ys k r is h =
    let len : length xs ≡ length all - k = ap length is ∙ (length-take (length all - k) all ∙ omega arith) in
    let n : length xs - 1 ≡ length all - (k + 1) = omega arith in
    popped xs ys r h ∙ ap (λ m. take m xs) n ∙ ap (λ zs. take (length all - (k + 1)) zs) is
    ∙ take-take (length all - (k + 1)) (length all - k) all (omega arith)

pub taken_back : {X : Type 0} (xs ys : List X) (n : ℕ) → length ys ≡ n → take (length (xs ++ ys) - n) (xs ++ ys) ≡ xs
taken_back xs ys n len =
    let m : length (xs ++ ys) - n ≡ length xs = omega (arith, length-append xs ys) in
    ap (λ k. take k (xs ++ ys)) m ∙ take-append_seam xs ys

-- ---- the new parts

-- the first so many of them, as they are listed
abbrev pub added : List Column → (next per_part : ℕ) → List (List Cell) → ℕ → List PartMeta
added schema next per_part records n = map (part_data schema) (map (new_part next per_part records) (range_with_len 0 n))

pub length-added : (schema : List Column) (next per_part : ℕ) (records : List (List Cell)) (n : ℕ) → length (added schema next per_part records n) ≡ n
length-added schema next per_part records n =
    length-map (map (new_part next per_part records) (range_with_len 0 n)) (part_data schema) ∙ length-map-range_with_len (new_part next per_part records) 0 n

pub added_more : (schema : List Column) (next per_part : ℕ) (records : List (List Cell)) (n : ℕ)
    → added schema next per_part records (n + 1) ≡ added schema next per_part records n ++ part_data schema (new_part next per_part records n) ∷ []
added_more schema next per_part records n =
    ap (map (part_data schema)) (map-range_with_len_more (new_part next per_part records) 0 n n (omega arith))
    ∙ map-append (part_data schema) (map (new_part next per_part records) (range_with_len 0 n)) (new_part next per_part records n ∷ [])

-- their numbers
pub added_numbers : (schema : List Column) (next per_part : ℕ) (records : List (List Cell)) (at n : ℕ)
    → map (λ (part : PartMeta). part.number) (map (part_data schema) (map (new_part next per_part records) (range_with_len at n))) ≡ range_with_len (next + at) n
added_numbers schema next per_part records at zero = refl
added_numbers schema next per_part records at (suc n) =
    let e : next + (at + 1) ≡ next + at + 1 = omega arith in
    ap (λ zs. (next + at) ∷ zs) (added_numbers schema next per_part records (at + 1) n ∙ ap (λ k. range_with_len k n) e)

pub grown : (dataset : Dataset) (per_part : ℕ) (records : List (List Cell))
    → catalog_in (appended dataset per_part records) ≡ grown_catalog (catalog_in dataset) (part_count per_part (length records))
grown dataset per_part records =
    let count = part_count per_part (length records) in
    let old = map (λ (part : PartMeta). part.number) dataset.parts in
    let e : dataset.next + 0 ≡ dataset.next = omega arith in
    let parts = map-append (λ (part : PartMeta). part.number) dataset.parts (added dataset.schema dataset.next per_part records count)
    ∙ ap (λ zs. old ++ zs) (added_numbers dataset.schema dataset.next per_part records 0 count ∙ ap (λ k. range_with_len k count) e) in
    λ i. record { schema = dataset.schema; next = dataset.next + count; parts = parts i }

-- ---- what every dataset keeps

le_or_lt : (m n : ℕ) → (m ≤ n) ⊎ (n < m)
le_or_lt m n = elim (nat_lt n m) as (λ b. nat_lt n m ≡ b → (m ≤ n) ⊎ (n < m)) [
  | true ↦ λ e. inr (ltb-true n m e)
  | false ↦ λ e. inl (ltb-false n m e)
] refl

get_or_behind : (xs ys : List ℕ) (i : ℕ) (d : ℕ) → length xs ≤ i → get_or (xs ++ ys) i d ≡ get_or ys (i - length xs) d
get_or_behind [] ys i d h = ap (λ k. get_or ys k d) (omega arith)
get_or_behind (x ∷ xs) ys zero d h = absurd (omega arith)
get_or_behind (x ∷ xs) ys (suc i) d h = get_or_behind xs ys i d (omega arith) ∙ ap (λ k. get_or ys k d) (omega arith)

-- an item of such a list stands in front, or is one of the numbers behind
record At (xs : List ℕ) (next n i d : ℕ) : Type 0 where
  pub front : i < length xs → get_or (xs ++ range_with_len next n) i d ≡ get_or xs i d
  pub back : length xs ≤ i → i < length xs + n → get_or (xs ++ range_with_len next n) i d ≡ next + (i - length xs)

item : (xs : List ℕ) (next n i d : ℕ) → At xs next n i d
item xs next n i d = record {
  front = λ h. get_or_append_left xs (range_with_len next n) d i h;
  back = λ h k. get_or_behind xs (range_with_len next n) i d h ∙ get_or-range_with_len next n (i - length xs) d (omega arith);
}

size : (xs : List ℕ) (next n : ℕ) → length (xs ++ range_with_len next n) ≡ length xs + n
size xs next n = length-append xs (range_with_len next n) ∙ ap (λ k. length xs + k) (length-range_with_len next n)

pub rising_behind : (xs : List ℕ) (next n : ℕ) → AllPairs (λ a b. a < b) xs → All (λ x. x < next) xs → AllPairs (λ a b. a < b) (xs ++ range_with_len next n)
rising_behind xs next n rising below i j d before within =
    let all : j < length xs + n = omega (arith, size xs next n) in
    let at_i = item xs next n i d in
    let at_j = item xs next n j d in
    elim (le_or_lt (length xs) j) [
      | inr h ↦ rw (at_i.front (omega arith), at_j.front h) (rising i j d before h)
      | inl h ↦ elim (le_or_lt (length xs) i) [
        | inr k ↦ let small = below i d k in rw (at_i.front k, at_j.back h all) (omega (arith, small))
        | inl k ↦ rw (at_i.back k (omega arith), at_j.back h all) (omega arith)
      ]
    ]

pub below_behind : (xs : List ℕ) (next n : ℕ) → All (λ x. x < next) xs → All (λ x. x < next + n) (xs ++ range_with_len next n)
below_behind xs next n below i d within =
    let all : i < length xs + n = omega (arith, size xs next n) in
    let at = item xs next n i d in
    elim (le_or_lt (length xs) i) [
      | inr h ↦ let small = below i d h in rw (at.front h) (omega (arith, small))
      | inl h ↦ rw (at.back h all) (omega arith)
    ]
