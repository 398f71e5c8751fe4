-- The reads of the head of an index: they end where its first bitmap begins, or before.
use Rattle.std.proofs.Common.{◌≡◌, ◌⊎◌, inl, inr, ℕ, suc, ◌+◌, ◌*◌, ◌<◌, ◌≤◌, ◌==◌, Bool, true, false, cond, List, [], ◌∷◌, get_or, length, take, drop, Option, Some, None, Result, Ok, Err, refl, sym, ap, subst, ◌∙◌, arith}
use Rattle.std.specs.Prelude.{slice_index, option_map, nat_lt}
use Rattle.std.proofs.lemmas.Bool.Decides.{Decides-eqb}
use Rattle.fb_outside.specs.Files.{Files, file_at, told_at}
use Rattle.fb_outside.specs.Reads.{Look}
use Rattle.index_spec.specs.Counts.{bitmap_count}
use Rattle.index_spec.specs.declared.spec.Spec.{Spec}
use Rattle.index_file.specs.Front.{front_in, rest_size, size_of, sizes_at}
use Rattle.index_file.specs.Opening.{EndsBy, Head, IsHeadLook, counted, head_in, index_in, parts_in, placed, some_head, with_bins, with_front, with_places, with_rest, with_spec, tested, spec_in, rest_in, places_at, bins_in as edges_in}
use Rattle.index_file.specs.Places.{first_close, first_wrong_place, last_from, or_else}
use Rattle.index_file.specs.declared.edge.Edge.{Edge}
use Rattle.index_file.specs.declared.fault.IndexFault.{IndexFault}
use Rattle.index_file.proofs.OpenedLemmas.{front_sizes}
use Rattle.world.specs.IndexFiles.{edge_of}
use Rattle.part_meaning.specs.Bitmaps.{index_places}
use Rattle.part_meaning.specs.Columns.{PartColumn}
use Rattle.two_stage.specs.ColumnFiles.{HasColumn, head_under}
use Rattle.two_stage.specs.Placed.{Placed, index_file}

first_right : (head size : ℕ) (places : List ℕ) → first_wrong_place head size places ≡ None → get_or places 0 0 ≡ head
first_right head size [] e = absurd cc
first_right head size (place ∷ places) e = by (place == head) refl
  where
    by : (b : Bool) → (place == head) ≡ b → place ≡ head
    by true h = (Decides-eqb place head).0 h
    by false h =
        let wrong : Some 0 ≡ (let o : Option ℕ = None in o) = sym (ap (λ b. cond b (or_else (option_map suc (first_close place places)) (cond (last_from place places == size) None (Some (length places)))) (Some 0)) h) ∙ e in
        absurd cc

by_places : (spec : Spec) (bins : List Edge) (at size : ℕ) (places : List ℕ) (o : Option ℕ) (head : Head) → first_wrong_place at size places ≡ o
    → with_places spec bins (placed o places) ≡ Ok head → get_or head.places 0 0 ≡ at
by_places spec bins at size places (Some k) head w e = absurd cc
by_places spec bins at size places None head w e =
    let same : record { spec = spec; bins = bins; places = places } ≡ head = cc in
    ap (λ (h : Head). get_or h.places 0 0) (sym same) ∙ first_right at size places w

by_count : (given : Result Head IndexFault) (r : Result (Unit {0}) IndexFault) (head : Head) → counted r given ≡ Ok head → given ≡ Ok head
by_count given (Err why) head e = absurd cc
by_count given (Ok done) head e = e

-- the first place is where the head ends whose sizes these bytes say
module _ (size : ℕ) (x : List ℕ) (head : Head) where
  abbrev Ends : Type 0
  Ends = get_or head.places 0 0 ≡ size_of (sizes_at x)

  by_bins : (spec : Spec) (bytes : List ℕ) (r : Result (List Edge) IndexFault) → with_bins size (sizes_at x) spec bytes r ≡ Ok head → Ends
  by_bins spec bytes (Err why) e = absurd cc
  by_bins spec bytes (Ok edges) e =
      let places = places_at ((sizes_at x).bitmaps + 1) bytes in
      by_places spec edges (size_of (sizes_at x)) size places (first_wrong_place (size_of (sizes_at x)) size places) head refl
      (by_count _ (tested (bitmap_count spec.encoding (sizes_at x).bins) (sizes_at x).bitmaps) head e)

  by_spec : (bytes : List ℕ) (r : Result Spec IndexFault) → with_spec size (sizes_at x) bytes r ≡ Ok head → Ends
  by_spec bytes (Err why) e = absurd cc
  by_spec bytes (Ok spec) e = by_bins spec (drop (32 * (sizes_at x).bins) bytes) (edges_in (sizes_at x).bins (take (32 * (sizes_at x).bins) bytes)) e

  by_rest : (r : Result (List ℕ) IndexFault) → with_rest size (sizes_at x) r ≡ Ok head → Ends
  unfolding parts_in
  by_rest (Err why) e = absurd cc
  by_rest (Ok bytes) e = by_spec (drop (sizes_at x).text bytes) (spec_in (take (sizes_at x).text bytes)) e

head_end : (rows : ℕ) (bytes : List ℕ) (head : Head) → head_in rows bytes ≡ Ok head → get_or head.places 0 0 ≡ size_of (sizes_at (take 24 bytes))
head_end rows bytes head e = by (front_in rows (take 24 bytes)) refl e
  where
    by : (r : Result _ IndexFault) → front_in rows (take 24 bytes) ≡ r → with_front (length bytes) (λ front. take (rest_size front) (drop 24 bytes)) r ≡ Ok head
        → get_or head.places 0 0 ≡ size_of (sizes_at (take 24 bytes))
    by (Err why) h f = absurd cc
    by (Ok front) h f =
        let same = front_sizes rows (take 24 bytes) front h in
        by_rest (length bytes) (take 24 bytes) head _
        (subst (λ front. with_rest (length bytes) front (rest_in (length bytes) front (take (rest_size front) (drop 24 bytes))) ≡ Ok head) same f)

file_end : (rows : ℕ) (o : Option (List ℕ)) (head : Head) → index_in rows o ≡ Ok (Some head) → (bytes : List ℕ) → o ≡ Some bytes
    → get_or head.places 0 0 ≡ size_of (sizes_at (take 24 bytes))
file_end rows None head e bytes h = absurd cc
file_end rows (Some own) head e bytes h =
    let same : own ≡ bytes = cc in
    subst (λ (b : List ℕ). get_or head.places 0 0 ≡ size_of (sizes_at (take 24 b))) same (by (head_in rows own) refl e)
  where
    by : (r : Result Head IndexFault) → head_in rows own ≡ r → some_head r ≡ Ok (Some head) → get_or head.places 0 0 ≡ size_of (sizes_at (take 24 own))
    by (Err why) k f = absurd cc
    by (Ok its) k f = let one : its ≡ head = cc in head_end rows own head (k ∙ ap Ok one)

-- so each read of the head of a column's index ends there
pub head_ends : (files : Option Files) (p : Placed) (column : PartColumn) (spec : Spec) → HasColumn files p column → column.spec ≡ Some spec
    → (look : Look) → IsHeadLook files (index_file p) look → EndsBy (index_file p) (slice_index (index_places spec column) 0) look
head_ends files p column spec has is look h =
    let opened : index_in p.rows (file_at has.m (index_file p)) ≡ Ok (head_under (Some spec) column) = has.index ∙ ap (λ o. Ok (head_under o column)) is in
    record { of_it = h.of_it; within = by (file_at has.m (index_file p)) refl opened }
  where
    at : (bytes : List ℕ) → file_at has.m (index_file p) ≡ Some bytes → told_at files (index_file p) ≡ Some bytes
    at bytes e = ap (λ o. told_at o (index_file p)) has.told ∙ e

    by : (o : Option (List ℕ)) → file_at has.m (index_file p) ≡ o → index_in p.rows o ≡ Ok (head_under (Some spec) column)
        → look.offset + look.room ≤ slice_index (index_places spec column) 0
    by None e k = absurd cc
    by (Some bytes) e k =
        let end = file_end p.rows (Some bytes) _ k bytes refl in
        elim (h.within bytes (at bytes e)) as (λ _. look.offset + look.room ≤ slice_index (index_places spec column) 0) [
          | inl few ↦ (let size : 24 ≤ size_of (sizes_at (take 24 bytes)) = omega arith in omega (arith, few, end, size))
          | inr few ↦ omega (arith, few, end)
        ]
