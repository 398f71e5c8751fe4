-- A dataset that grows by a load.
use Rattle.std.proofs.Common.{◌≡◌, ◌+◌, ◌*◌, ◌<◌, ◌≤◌, ℕ, zero, suc, List, [], ◌∷◌, ◌++◌, All, length, map, drop, None, Some, sym, ap, ◌∙◌, subst, arith, length-append}
use Rattle.std.specs.FinMap.{get-empty}
use Rattle.std.specs.Ordering.{nat_cmp}
use Rattle.std.specs.List.{AllPairs, range_with_len}
use Rattle.std.proofs.lemmas.List.{append-nil, length-map, map-append}
use Rattle.std.proofs.lemmas.List.Concat.{flat_map-append}
use Rattle.std.proofs.lemmas.List.Elements.{All-append, All-drop, All-head, All-tail, All-take, All-weaker}
use Rattle.std.proofs.lemmas.List.FromFn.{length-range_with_len}
use Rattle.std.proofs.lemmas.List.Kept.{AllPairs-cons}
use Rattle.fb_types.specs.declared.cells.Cell.{Cell}
use Rattle.fb_types.specs.declared.schemas.Column.{Column}
use Rattle.fb_types.specs.Cells.{RecordFits}
use Rattle.world.specs.World.{Content, IsContent, IsPartition, Partition, records_of}
use Rattle.world.specs.Effects.{extended, new_part, new_parts, part_count}
use Rattle.world.proofs.PieceLemmas.{All-new_parts, All-range, part_count-none, numbers-new_parts, piece-size, pieces-all, range-rising}

-- ---- pairs of a list

pub AllPairs-head : {X : Type 0} (R : X → X → Type 0) (x : X) (xs : List X) → AllPairs R (x ∷ xs) → All (R x) xs
AllPairs-head R x xs h k d within = h zero (suc k) d (omega arith) (omega arith)

pub AllPairs-tail : {X : Type 0} (R : X → X → Type 0) (x : X) (xs : List X) → AllPairs R (x ∷ xs) → AllPairs R xs
AllPairs-tail R x xs h i j d before within = h (suc i) (suc j) d (omega arith) (omega arith)

pub AllPairs-append : {X : Type 0} (R : X → X → Type 0) (xs ys : List X) → AllPairs R xs → AllPairs R ys → All (λ x. All (R x) ys) xs
    → AllPairs R (xs ++ ys)
AllPairs-append R [] ys h k across = k
AllPairs-append R (x ∷ xs) ys h k across =
    AllPairs-cons R x (xs ++ ys)
    (All-append (R x) xs ys (AllPairs-head R x xs h) (All-head (λ z. All (R z) ys) x xs across))
    (AllPairs-append R xs ys (AllPairs-tail R x xs h) k (All-tail (λ z. All (R z) ys) x xs across))

-- ---- what it is afterwards

abbrev made : List Column → ℕ → List Partition → Content
made schema next parts = record { schema = schema; next = next; parts = parts }

pub records-extended : (content : Content) (per_part : ℕ) (records : List (List Cell)) → 1 ≤ per_part
    → records_of (extended content per_part records) ≡ records_of content ++ records
records-extended content per_part records some =
    flat_map-append (λ (part : Partition). part.records) content.parts (new_parts content.next per_part records)
    ∙ ap (λ (xs : List (List Cell)). records_of content ++ xs) (pieces-all content.next per_part records some)

pub numbers-extended : (content : Content) (per_part : ℕ) (records : List (List Cell))
    → map (λ part. part.number) (extended content per_part records).parts
    ≡ map (λ part. part.number) content.parts ++ range_with_len content.next (part_count per_part (length records))
numbers-extended content per_part records =
    map-append (λ (part : Partition). part.number) content.parts (new_parts content.next per_part records)
    ∙ ap (λ (xs : List ℕ). map (λ (part : Partition). part.number) content.parts ++ xs) (numbers-new_parts content.next per_part records)

-- no records make no part
pub extended-none : (content : Content) (per_part : ℕ) → 1 ≤ per_part → extended content per_part [] ≡ content
extended-none content per_part some =
    let none : part_count per_part 0 ≡ 0 = part_count-none per_part some in
    let next : content.next + part_count per_part 0 ≡ content.next = omega (arith, none) in
    let parts : new_parts content.next per_part [] ≡ []
    = ap (λ (n : ℕ). map (new_part content.next per_part []) (range_with_len 0 n)) none in
    let grown = λ (n : ℕ) (ps : List Partition). made content.schema n (content.parts ++ ps) in
    ap (λ (n : ℕ). grown n (new_parts content.next per_part [])) next
    ∙ ap (grown content.next) parts
    ∙ ap (made content.schema content.next) (append-nil content.parts)

IsPartition-new : (schema : List Column) (next per_part : ℕ) (records : List (List Cell)) → 1 ≤ per_part → per_part ≤ 4194304
    → All (λ cells. RecordFits cells schema) records → All (IsPartition schema) (new_parts next per_part records)
IsPartition-new schema next per_part records some few fit =
    All-new_parts (IsPartition schema) next per_part records (λ place there.
    let size = piece-size per_part records place some there in
    record {
      some = size.0;
      few = omega (arith, size.1);
      fit = All-take (λ cells. RecordFits cells schema) per_part (drop (place * per_part) records)
          (All-drop (λ cells. RecordFits cells schema) (place * per_part) records fit);
      indexed = λ col spec there. let none : None ≡ Some spec = sym (get-empty nat_cmp col) ∙ there in absurd (cc);
    })

pub IsContent-extended : (content : Content) (per_part : ℕ) (records : List (List Cell)) → IsContent content → 1 ≤ per_part → per_part ≤ 4194304
    → All (λ cells. RecordFits cells content.schema) records
    → content.next + part_count per_part (length records) ≤ 4096
    → length content.parts + part_count per_part (length records) ≤ 1024 → IsContent (extended content per_part records)
IsContent-extended content per_part records valid some few fit numbered room =
    let count = part_count per_part (length records) in
    let old = map (λ (part : Partition). part.number) content.parts in
    let is = numbers-extended content per_part records in
    let rising : AllPairs (λ a b. a < b) (old ++ range_with_len content.next count)
    = AllPairs-append (λ a b. a < b) old (range_with_len content.next count) valid.catalog.rising (range-rising content.next count)
    (All-weaker (λ number. number < content.next) (λ number. All (λ other. number < other) (range_with_len content.next count))
    (λ number below. All-range (λ other. number < other) content.next count (λ other low within. omega arith))
    old valid.catalog.below) in
    let below : All (λ number. number < content.next + count) (old ++ range_with_len content.next count)
    = All-append (λ number. number < content.next + count) old (range_with_len content.next count)
    (All-weaker (λ number. number < content.next) (λ number. number < content.next + count) (λ number h. omega arith) old valid.catalog.below)
    (All-range (λ number. number < content.next + count) content.next count (λ number low within. within)) in
    let size : length old ≡ length content.parts = length-map content.parts (λ (part : Partition). part.number) in
    let longer : length (old ++ range_with_len content.next count) ≤ 1024
    = omega (arith, length-append old (range_with_len content.next count), length-range_with_len content.next count) in
    record {
      catalog = record {
        schema = valid.catalog.schema;
        next = numbered;
        few = subst (λ (xs : List ℕ). length xs ≤ 1024) (sym is) longer;
        rising = subst (λ (xs : List ℕ). AllPairs (λ a b. a < b) xs) (sym is) rising;
        below = subst (λ (xs : List ℕ). All (λ number. number < content.next + count) xs) (sym is) below;
      };
      parts = All-append (IsPartition content.schema) content.parts (new_parts content.next per_part records) valid.parts
          (IsPartition-new content.schema content.next per_part records some few fit);
    }
