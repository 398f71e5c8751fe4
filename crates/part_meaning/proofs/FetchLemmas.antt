-- The reads of the bitmaps that a condition needs are of bitmaps of its column, and of no values.
use Rattle.std.proofs.Common.{◌≡◌, ℕ, zero, suc, ◌+◌, ◌-◌, ◌<◌, ◌≤◌, Bool, true, false, ◌&&◌, ◌||◌, nat_lt, List, [], ◌∷◌, ◌++◌, All, get_or, length, map, Option, Some, None, IsSome, unwrap_or, refl, sym, ap, subst, ◌∙◌, arith}
use Rattle.std.specs.Prelude.{slice_index}
use Rattle.std.specs.FinMap.{get}
use Rattle.std.specs.List.{flat_map, list_any, range_with_len}
use Rattle.std.specs.Str.{bytes_eq}
use Rattle.std.proofs.lemmas.Bool.{ltb-false, ltb-true}
use Rattle.std.proofs.lemmas.Bool.Decides.{nat_tests}
use Rattle.std.proofs.lemmas.List.{length-map}
use Rattle.std.proofs.lemmas.List.Elements.{All-append, All-head, All-map, All-nil, All-tail, All-weaker}
use Rattle.std.proofs.lemmas.List.FromFn.{length-range_with_len}
use Rattle.std.proofs.lemmas.Option.{get_or_from_slice_get, slice_get_within}
use Rattle.std.proofs.lemmas.Slice.Eq.{bytes_eq-Decides}
use Rattle.fb_outside.specs.Reads.{Look}
use Rattle.fb_types.specs.declared.schemas.Column.{Column}
use Rattle.fb_types.specs.declared.types.ColType.{ColType}
use Rattle.wah_words.specs.Bytes.{spelling}
use Rattle.wah_words.proofs.BytesLemmas.{length-spelling}
use Rattle.index_spec.specs.Counts.{bitmap_count, HasGroups}
use Rattle.index_spec.specs.Language.{HasGroups-given, IsGiven}
use Rattle.index_spec.specs.Printed.{printed}
use Rattle.index_spec.specs.Members.{from_to, needed}
use Rattle.index_spec.specs.declared.spec.Spec.{Spec}
use Rattle.index_spec.proofs.MembersLemmas.{kept}
use Rattle.index_file.specs.Places.{bitmap_look, head_size, places_from, room_at}
use Rattle.binning.specs.Encodings.{vectors}
use Rattle.binning.specs.Members.{bitmap}
use Rattle.binning.proofs.TestLemmas.{either}
use Rattle.part_meta.specs.FileNames.{file_name, index_name}
use Rattle.part_meta.specs.declared.names.FileKind.{FileKind}
use Rattle.part_meta.specs.declared.names.FileKind.TheVariants as file
use Rattle.where_plan.specs.Plans.{place_in}
use Rattle.where_plan.specs.declared.plan.PlanAtom.{PlanAtom}
use Rattle.where_plan.specs.declared.plan.PlanAtom.TheVariants as atom
use Rattle.bin_answers.specs.BinRuns.{runs_of}
use Rattle.bin_answers.proofs.RunLemmas.{runs_within}
use Rattle.world.specs.Cells.{column_cells, is_present, stored_numbers}
use Rattle.world.specs.IndexFiles.{HasBitmaps, bitmaps_by, column_bins, edge_of}
use Rattle.world.specs.World.{IsPartition, Partition}
use Rattle.part_meaning.specs.Bitmaps.{bins_say, bitmap_looks, index_places, looks_under, needed_of, needed_under}
use Rattle.part_meaning.specs.Columns.{PartColumn, bins_in, bins_under, column_at, no_column}
use Rattle.part_meaning.specs.Files.{is_bitmap_of, is_free_of, is_past_head, kinds_by_spec, kinds_by_type}
use Rattle.part_meaning.specs.Known.{bin_says}
use Rattle.part_meaning.specs.Parts.{column_for, is_bitmap_in}

-- ---- places

first_place : (at : ℕ) (bitmaps : List (List Bool)) → slice_index (places_from at bitmaps) 0 ≡ at
first_place at [] = refl
first_place at (bits ∷ more) = refl

-- no bitmap stands before the first
place_past : (at : ℕ) (bitmaps : List (List Bool)) (k : ℕ) → k ≤ length bitmaps → at ≤ slice_index (places_from at bitmaps) k
place_past at [] zero h = omega arith
place_past at [] (suc k) h = absurd (omega arith)
place_past at (bits ∷ more) zero h = omega arith
place_past at (bits ∷ more) (suc k) h =
    let rest = place_past (at + length (spelling bits)) more k (omega arith) in
    omega (arith, rest)

-- each bitmap has bytes
place_rises : (at : ℕ) (bitmaps : List (List Bool)) (k : ℕ) → k < length bitmaps
    → slice_index (places_from at bitmaps) k < slice_index (places_from at bitmaps) (suc k)
place_rises at [] k h = absurd (omega arith)
place_rises at (bits ∷ more) zero h =
    let next = first_place (at + length (spelling bits)) more in
    let size = length-spelling bits in
    omega (arith, next, size)
place_rises at (bits ∷ more) (suc k) h = place_rises (at + length (spelling bits)) more k (omega arith)

-- so it ends past the first place
ends_past : (at : ℕ) (bitmaps : List (List Bool)) (k : ℕ) → k < length bitmaps
    → slice_index (places_from at bitmaps) 0 < slice_index (places_from at bitmaps) k + room_at (places_from at bitmaps) k
ends_past at bitmaps k h =
    let first = first_place at bitmaps in
    let past = place_past at bitmaps k (omega arith) in
    let next : k + 1 ≡ suc k = omega arith in
    let same : slice_index (places_from at bitmaps) (k + 1) ≡ slice_index (places_from at bitmaps) (suc k) = ap (slice_index (places_from at bitmaps)) next in
    let rises = place_rises at bitmaps k h in
    omega (arith, first, past, same, rises)

-- ---- lists

all_flat : {X A : Type 0} (xs : List X) (Q : X → Type 0) (P : A → Type 0) (f : X → List A) → All Q xs → ((x : X) → Q x → All P (f x))
    → All P (flat_map f xs)
all_flat [] Q P f all each = All-nil P
all_flat (x ∷ xs) Q P f all each =
    All-append P (f x) (flat_map f xs) (each x (All-head Q x xs all)) (all_flat xs Q P f (All-tail Q x xs all) each)

any_last : (test : FileKind → Bool) (kinds : List FileKind) (kind : FileKind) → test kind ≡ true → list_any test (kinds ++ kind ∷ []) ≡ true
any_last test [] kind h = ap (λ b. b || false) h
any_last test (first ∷ kinds) kind h = by (test first) (any_last test kinds kind h)
  where
    by : (b : Bool) → list_any test (kinds ++ kind ∷ []) ≡ true → (b || list_any test (kinds ++ kind ∷ [])) ≡ true
    by true i = refl
    by false i = i

or_second : (a b : Bool) → b ≡ true → (a || b) ≡ true
or_second true b h = refl
or_second false b h = h

any_row : (test : ℕ → Bool) (a n k : ℕ) → a ≤ k → k < a + n → test k ≡ true → list_any test (range_with_len a n) ≡ true
any_row test a zero k from below h = absurd (omega arith)
any_row test a (suc n) k from below h =
    either (nat_lt a k)
    (λ t.
    let past = ltb-true a k t in
    or_second (test a) (list_any test (range_with_len (a + 1) n)) (any_row test (a + 1) n k (omega arith) (omega arith) h))
    (λ f.
    let here : k ≡ a = omega (arith, ltb-false a k f) in
    ap (λ b. b || list_any test (range_with_len (a + 1) n)) (sym (ap test here) ∙ h))

same_name : (name : List ℕ) → bytes_eq name name ≡ true
same_name name = (bytes_eq-Decides name name).1 refl

lt_test : (a b : ℕ) → a < b → nat_lt a b ≡ true
lt_test a b h = grind (arith, nat_tests)

both_true : (a b : Bool) → a ≡ true → b ≡ true → (a && b) ≡ true
both_true a b h k = cc

-- ---- a column with an index

-- the read is of a bitmap of the column, and of a file of it without values
abbrev IsFetch : List ℕ → ℕ → PartColumn → Look → Type 0
IsFetch dir number column look = (is_bitmap_of dir number column look ≡ true) × (is_free_of dir number column look ≡ true)

says_many : (column : PartColumn) (condition : PlanAtom) → length (bins_say column condition) ≤ length (bins_in column)
unfolding bins_say
says_many column (atom.Whole col spans) =
    let same = length-map (bins_in column) (bin_says column (atom.Whole col spans)) in omega (arith, same)
says_many column (atom.Word col condition) =
    let same = length-map (bins_in column) (bin_says column (atom.Word col condition)) in omega (arith, same)
says_many column (atom.Exists col) = omega arith

module _ (column : PartColumn) (spec : Spec) (q : ℕ) (is : column.spec ≡ Some spec) (groups : HasGroups spec.encoding)
    (counted : bitmap_count spec.encoding (length (column_bins spec column.ty column.cells)) ≡ Some q) where
  counted_in : bitmap_count spec.encoding (length (bins_in column)) ≡ Some q
  unfolding bins_in
  counted_in = ap (λ o. bitmap_count spec.encoding (length (bins_under o column.ty column.cells))) is ∙ counted

  needed_below : (condition : PlanAtom) → All (λ k. k < q) (needed_under (Some spec) column condition)
  needed_below condition =
      let many = says_many column condition in
      all_flat (runs_of (bins_say column condition)) (λ r. (r.first < r.past) × (r.past ≤ length (bins_say column condition))) (λ k. k < q)
      (λ r. needed spec.encoding (length (bins_in column)) r.first r.past) (runs_within (bins_say column condition))
      (λ r h. kept spec.encoding (length (bins_in column)) r.first r.past q groups h.0 (omega (arith, h.1, many)) counted_in)

  bitmaps_many : length (bitmaps_by spec (map is_present column.cells) (stored_numbers column.ty column.cells)) ≡ q
  bitmaps_many =
      let bins = column_bins spec column.ty column.cells in
      let count : ℕ = unwrap_or (bitmap_count spec.encoding (length (vectors bins))) 0 in
      let all : count ≡ q
      = ap (λ n. unwrap_or (bitmap_count spec.encoding n) 0) (length-map bins (λ b. b.rows)) ∙ ap (λ o. unwrap_or o 0) counted in
      let rest : count - 0 ≡ q = omega (arith, all) in
      length-map (from_to 0 count) (bitmap spec.encoding (length (map is_present column.cells)) (vectors bins))
      ∙ length-range_with_len 0 (count - 0) ∙ rest

  past_first : (k : ℕ) → k < q → slice_index (index_places spec column) 0
      < slice_index (index_places spec column) k + room_at (index_places spec column) k
  unfolding index_places
  past_first k below =
      let bitmaps = bitmaps_by spec (map is_present column.cells) (stored_numbers column.ty column.cells) in
      let many = bitmaps_many in
      ends_past (head_size (length (printed spec)) (length (map edge_of (column_bins spec column.ty column.cells))) (length bitmaps)) bitmaps k (omega (arith, many, below))

  look_fetches : (dir : List ℕ) (number k : ℕ) → k < q
      → IsFetch dir number column (bitmap_look (index_name dir number column.name) (index_places spec column) k)
  unfolding is_bitmap_of is_free_of
  look_fetches dir number k below =
      let name = index_name dir number column.name in
      let end = slice_index (index_places spec column) k + room_at (index_places spec column) k in
      let at : is_past_head column.spec column end ≡ true
      = ap (λ o. is_past_head o column end) is ∙ lt_test (slice_index (index_places spec column) 0) end (past_first k below) in
      let test : FileKind → Bool = λ kind. bytes_eq name (file_name dir number (Some column.name) kind) in (
        both_true (bytes_eq name name) (is_past_head column.spec column end) (same_name name) at,
        ap (λ o. list_any test (file.Mask ∷ kinds_by_type column.ty ++ kinds_by_spec o)) is
            ∙ any_last test (file.Mask ∷ kinds_by_type column.ty) file.Index (same_name name),
      )

  all_fetch : (dir : List ℕ) (number : ℕ) (condition : PlanAtom) → All (IsFetch dir number column) (bitmap_looks dir number column condition)
  unfolding bitmap_looks needed_of
  all_fetch dir number condition =
      let name = index_name dir number column.name in
      let places = index_places spec column in
      let looks : looks_under column.spec name column condition ≡ map (bitmap_look name places) (needed_under (Some spec) column condition)
      = ap (λ o. looks_under o name column condition) is
      ∙ ap (λ o. map (bitmap_look name places) (needed_under o column condition)) is in
      subst (All (IsFetch dir number column)) (sym looks)
      (All-map (IsFetch dir number column) (bitmap_look name places) (needed_under (Some spec) column condition)
      (All-weaker (λ k. k < q) (λ k. IsFetch dir number column (bitmap_look name places k)) (λ k below. look_fetches dir number k below)
      (needed_under (Some spec) column condition) (needed_below condition)))

-- ---- any column

some_count : (o : Option ℕ) → IsSome o → (q : ℕ) × (o ≡ Some q)
some_count None h = absurd cc
some_count (Some q) h = (q, refl)

no_looks : (dir : List ℕ) (number : ℕ) (column : PartColumn) (condition : PlanAtom) → column.spec ≡ None
    → bitmap_looks dir number column condition ≡ []
unfolding bitmap_looks
no_looks dir number column condition is = ap (λ o. looks_under o (index_name dir number column.name) column condition) is

pub column_fetches : (dir : List ℕ) (number : ℕ) (column : PartColumn) (condition : PlanAtom)
    → ((spec : Spec) → column.spec ≡ Some spec → IsGiven spec × HasBitmaps spec column.ty column.cells)
    → All (λ look. (is_bitmap_of dir number column look ≡ true) × (is_free_of dir number column look ≡ true)) (bitmap_looks dir number column condition)
column_fetches dir number column condition indexed = by column.spec refl
  where
    by : (o : Option Spec) → column.spec ≡ o → All (IsFetch dir number column) (bitmap_looks dir number column condition)
    by None e = subst (All (IsFetch dir number column)) (sym (no_looks dir number column condition e)) (All-nil (IsFetch dir number column))
    by (Some spec) e =
        let can = indexed spec e in
        let count = some_count (bitmap_count spec.encoding (length (column_bins spec column.ty column.cells))) can.1 in
        all_fetch column spec count.0 e (HasGroups-given spec.encoding can.0.1) count.1 dir number condition

-- ---- a column of a part

-- how it is indexed, if it is, it can be
pub column_indexed : (schema : List Column) (part : Partition) (col : ℕ) (spec : Spec) → IsPartition schema part → (column_at schema part col).spec ≡ Some spec
    → IsGiven spec × HasBitmaps spec (column_at schema part col).ty (column_at schema part col).cells
unfolding column_at
column_indexed schema part col spec valid e =
    let can = valid.indexed col spec e in
    let there : can.column.ty ≡ (get_or schema col no_column).ty
    = ap (λ (k : Column). k.ty) (sym (get_or_from_slice_get schema col can.column no_column can.in_schema)) in
    (can.given, subst (λ (ty : ColType). HasBitmaps spec ty (column_cells col part.records)) there can.bitmaps)

module _ (dir : List ℕ) (schema : List Column) (part : Partition) (condition : PlanAtom) (valid : IsPartition schema part) where
  in_part : (look : Look) → place_in condition < length schema → IsFetch dir part.number (column_at schema part (place_in condition)) look
      → (is_bitmap_in dir schema part look ≡ true) × (is_free_of dir part.number (column_for schema part condition) look ≡ true)
  unfolding is_bitmap_in
  in_part look within h = (
    any_row (λ col. is_bitmap_of dir part.number (column_at schema part col) look) 0 (length schema) (place_in condition) (omega arith)
        (omega (arith, within)) h.0,
    h.1,
  )

  fetch_by : (o : Option Spec) → get part.specs (place_in condition) ≡ o
      → All (λ look. (is_bitmap_in dir schema part look ≡ true) × (is_free_of dir part.number (column_for schema part condition) look ≡ true))
      (bitmap_looks dir part.number (column_for schema part condition) condition)
  unfolding column_at
  fetch_by None e =
      let c = column_at schema part (place_in condition) in
      subst (All (λ look. (is_bitmap_in dir schema part look ≡ true) × (is_free_of dir part.number c look ≡ true)))
      (sym (no_looks dir part.number c condition e)) (All-nil (λ look. (is_bitmap_in dir schema part look ≡ true) × (is_free_of dir part.number c look ≡ true)))
  fetch_by (Some spec) e =
      let c = column_at schema part (place_in condition) in
      let can = valid.indexed (place_in condition) spec e in
      All-weaker (IsFetch dir part.number c)
      (λ look. (is_bitmap_in dir schema part look ≡ true) × (is_free_of dir part.number c look ≡ true))
      (λ look h. in_part look (slice_get_within schema (place_in condition) can.column can.in_schema) h)
      (bitmap_looks dir part.number c condition)
      (column_fetches dir part.number c condition (λ s is. column_indexed schema part (place_in condition) s valid is))

pub fetched_are_bitmaps : (dir : List ℕ) (schema : List Column) (part : Partition) (condition : PlanAtom) → IsPartition schema part
    → All (λ look. (is_bitmap_in dir schema part look ≡ true) × (is_free_of dir part.number (column_for schema part condition) look ≡ true))
    (bitmap_looks dir part.number (column_for schema part condition) condition)
fetched_are_bitmaps dir schema part condition valid = fetch_by dir schema part condition valid (get part.specs (place_in condition)) refl
