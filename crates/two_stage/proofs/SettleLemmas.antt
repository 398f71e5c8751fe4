-- The reads of the first stage: the files of a column that have no values, before the bitmaps.
use Rattle.std.proofs.Common.{◌≡◌, ◌⊎◌, inl, inr, ℕ, ◌+◌, ◌<◌, ◌≤◌, Bool, true, false, IsTrue, nat_lt, List, [], ◌∷◌, ◌++◌, All, length, map, Option, Some, None, IsSome, Ok, Err, IfSome, refl, sym, ap, subst, ◌∙◌, arith}
use Rattle.std.specs.Prelude.{IfOk, IsOk, Result, slice_index}
use Rattle.std.specs.List.{AllByRecursion, list_any}
use Rattle.std.specs.Str.{bytes_eq}
use Rattle.fb_outside.specs.Files.{Files, file_at}
use Rattle.fb_outside.specs.Reads.{Look, AddsOnly, AddsReads, IsWholeLook}
use Rattle.fb_types.specs.declared.types.ColType.TheVariants.{Category, Text}
use Rattle.fb_types.specs.Types.{width_of}
use Rattle.index_file.specs.Opening.{Head, IsHeadLook, head_in, index_in, some_head}
use Rattle.index_file.specs.declared.fault.IndexFault.{IndexFault}
use Rattle.index_file.specs.Places.{bitmap_look}
use Rattle.index_file.specs.declared.head.IndexHead.{IndexHead}
use Rattle.index_spec.specs.declared.spec.Spec.{Spec}
use Rattle.binning.specs.declared.span_lists.Span.{Span}
use Rattle.part_meta.specs.FileNames.{file_name, index_name, mask_name}
use Rattle.part_meta.specs.declared.names.FileKind.TheVariants as file
use Rattle.stages.specs.Looks.{AddsLooks}
use Rattle.where_grammar.specs.declared.clause.Atom.{Atom}
use Rattle.where_plan.specs.declared.plan.PlanAtom.{PlanAtom}
use Rattle.where_plan.specs.declared.plan.PlanAtom.TheVariants as atom
use Rattle.bin_answers.specs.Fetched.{IsFrontOf}
use Rattle.part_meaning.specs.Bitmaps.{bins_say, bitmap_looks, index_places, looks_under, needed_of, needed_under}
use Rattle.part_meaning.specs.Columns.{PartColumn}
use Rattle.part_meaning.specs.Files.{is_bitmap_of, is_free_of}
use Rattle.part_meaning.proofs.FetchLemmas.{column_fetches}
use Rattle.two_stage.specs.ColumnFiles.{HasColumn, head_under}
use Rattle.two_stage.specs.Placed.{Placed, index_file, mask_file, starts_file, words_file}
use Rattle.two_stage.proofs.FreeLemmas.{IsFree, free_reads, free_then, fetch_reads, mask_free, no_reads, starts_free, words_free, index_free, head_no_bitmap}
use Rattle.two_stage.proofs.HeadLemmas.{head_ends}
use Rattle.two_stage.proofs.OpenLemmas.{told_is}

-- ---- what isn't fetched

unindexed_looks : (dir : List ℕ) (number : ℕ) (column : PartColumn) (condition : PlanAtom) → column.spec ≡ None → bitmap_looks dir number column condition ≡ []
unfolding bitmap_looks
unindexed_looks dir number column condition e = ap (λ o. looks_under o (index_name dir number column.name) column condition) e

-- a column of texts has no index
no_index : (o : Option Spec) → ((spec : Spec) → o ≡ Some spec → ⊥) → o ≡ None
no_index None f = refl
no_index (Some spec) f = absurd (f spec refl)

pub text_unindexed : (files : Option Files) (p : Placed) (column : PartColumn) → HasColumn files p column → p.column.ty ≡ Text → column.spec ≡ None
text_unindexed files p column has ty =
    no_index column.spec (λ spec e.
    let none : width_of column.ty ≡ None = ap width_of (has.typed ∙ ty) in
    let some : IsSome (width_of column.ty) = has.width spec e in
    let wrong : IsSome (let o : Option ℕ = None in o) = subst (λ (o : Option ℕ). IsSome o) none some in
    absurd cc)

-- ---- the files of a column

module _ (files : Option Files) (p : Placed) (column : PartColumn) (has : HasColumn files p column) (condition : PlanAtom) (done : Type 0) where
  abbrev allowed : Look → Bool
  allowed = is_free_of p.dir p.number column

  abbrev is_bitmap : Look → Bool
  is_bitmap = is_bitmap_of p.dir p.number column

  abbrev looks : List Look
  looks = bitmap_looks p.dir p.number column condition

  mask_is_free : (look : Look) → IsWholeLook files (mask_file p) look → IsFree allowed is_bitmap look
  mask_is_free look is = mask_free p.dir p.number column look (is.of_it ∙ ap (mask_name p.dir p.number) (sym has.named))

  words_are_free : p.column.ty ≡ Category → (look : Look) → IsWholeLook files (words_file p) look → IsFree allowed is_bitmap look
  words_are_free ty look is =
      words_free p.dir p.number column look (has.typed ∙ ty) (is.of_it ∙ ap (λ name. file_name p.dir p.number (Some name) file.Words) (sym has.named))

  texts_are_free : p.column.ty ≡ Text → (look : Look) → IsWholeLook files (starts_file p) look ⊎ IsWholeLook files (mask_file p) look → IsFree allowed is_bitmap look
  texts_are_free ty look (inl is) =
      starts_free p.dir p.number column look (has.typed ∙ ty) (is.of_it ∙ ap (λ name. file_name p.dir p.number (Some name) file.Starts) (sym has.named))
  texts_are_free ty look (inr is) = mask_is_free look is

  -- the mask alone was read
  pub mask_reads : (old new : Option (List Look)) → (done → looks ≡ []) → AddsOnly (IsWholeLook files (mask_file p)) old new → AddsLooks old new allowed is_bitmap looks done
  mask_reads old new none h = free_reads allowed is_bitmap looks done (IsWholeLook files (mask_file p)) old new mask_is_free none h

  -- it was read before
  pub mask_then : (old mid new : Option (List Look)) → AddsOnly (IsWholeLook files (mask_file p)) old mid → AddsLooks mid new allowed is_bitmap looks done
      → AddsLooks old new allowed is_bitmap looks done
  mask_then old mid new h k = free_then allowed is_bitmap looks done (IsWholeLook files (mask_file p)) old mid new mask_is_free h k

  pub words_reads : p.column.ty ≡ Category → (old new : Option (List Look)) → (done → looks ≡ []) → AddsOnly (IsWholeLook files (words_file p)) old new
      → AddsLooks old new allowed is_bitmap looks done
  words_reads ty old new none h = free_reads allowed is_bitmap looks done (IsWholeLook files (words_file p)) old new (words_are_free ty) none h

  pub words_then : p.column.ty ≡ Category → (old mid new : Option (List Look)) → AddsOnly (IsWholeLook files (words_file p)) old mid → AddsLooks mid new allowed is_bitmap looks done
      → AddsLooks old new allowed is_bitmap looks done
  words_then ty old mid new h k = free_then allowed is_bitmap looks done (IsWholeLook files (words_file p)) old mid new (words_are_free ty) h k

  pub texts_reads : p.column.ty ≡ Text → (old new : Option (List Look))
      → AddsOnly (λ look. IsWholeLook files (starts_file p) look ⊎ IsWholeLook files (mask_file p) look) old new → AddsLooks old new allowed is_bitmap looks done
  texts_reads ty old new h =
      free_reads allowed is_bitmap looks done (λ look. IsWholeLook files (starts_file p) look ⊎ IsWholeLook files (mask_file p) look) old new (texts_are_free ty)
      (λ d. unindexed_looks p.dir p.number column condition (text_unindexed files p column has ty)) h

  -- the bitmaps were fetched, as far as the call came
  pub fetched_reads : (old new : Option (List Look)) → AddsReads old new (IsFrontOf looks done) → AddsLooks old new allowed is_bitmap looks done
  fetched_reads old new h = fetch_reads allowed is_bitmap looks done old new (column_fetches p.dir p.number column condition has.indexed) h

  pub unread : (old new : Option (List Look)) → new ≡ old → (done → looks ≡ []) → AddsLooks old new allowed is_bitmap looks done
  unread old new e none = no_reads allowed is_bitmap looks done old new e none

-- ---- the head of an index

absent : (rows : ℕ) (o : Option (List ℕ)) → index_in rows o ≡ Ok None → o ≡ None
absent rows None e = refl
absent rows (Some bytes) e = by (head_in rows bytes) e
  where
    by : (r : Result Head IndexFault) → some_head r ≡ Ok None → Some bytes ≡ None
    by (Ok head) f = absurd cc
    by (Err why) f = absurd cc

module _ (files : Option Files) (p : Placed) (column : PartColumn) (has : HasColumn files p column) (condition : PlanAtom) (done : Type 0) where
  -- a read of it is of no bitmap
  head_is_free : (spec : Spec) → column.spec ≡ Some spec → (look : Look) → IsHeadLook files (index_file p) look
      → IsFree (is_free_of p.dir p.number column) (is_bitmap_of p.dir p.number column) look
  head_is_free spec is look h = (
    index_free p.dir p.number column look spec is (h.of_it ∙ ap (index_name p.dir p.number) (sym has.named)),
    head_no_bitmap p.dir p.number column look spec is (head_ends files p column spec has is look h).within,
  )

  no_file : column.spec ≡ None → file_at has.m (index_file p) ≡ None
  no_file e = absent p.rows (file_at has.m (index_file p)) (has.index ∙ ap (λ o. Ok (head_under o column)) e)

  same_reads : (old new : Option (List Look)) → IfSome files (λ m. file_at m (index_file p) ≡ None → new ≡ old) → column.spec ≡ None → new ≡ old
  same_reads old new h e =
      told_is (λ m. file_at m (index_file p) ≡ None → new ≡ old) files has.m has.told h (no_file e)

  -- the head was read, and then what more was
  pub head_then : (old mid new : Option (List Look)) → IfSome files (λ m. file_at m (index_file p) ≡ None → mid ≡ old) → AddsOnly (IsHeadLook files (index_file p)) old mid
      → AddsLooks mid new (is_free_of p.dir p.number column) (is_bitmap_of p.dir p.number column) (bitmap_looks p.dir p.number column condition) done
      → AddsLooks old new (is_free_of p.dir p.number column) (is_bitmap_of p.dir p.number column) (bitmap_looks p.dir p.number column condition) done
  head_then old mid new none h k = by column.spec refl
    where
      by : (o : Option Spec) → column.spec ≡ o
          → AddsLooks old new (is_free_of p.dir p.number column) (is_bitmap_of p.dir p.number column) (bitmap_looks p.dir p.number column condition) done
      by None e =
          subst (λ (o : Option (List Look)). AddsLooks o new (is_free_of p.dir p.number column) (is_bitmap_of p.dir p.number column) (bitmap_looks p.dir p.number column condition) done)
          (same_reads old mid none e) k
      by (Some spec) e =
          free_then (is_free_of p.dir p.number column) (is_bitmap_of p.dir p.number column) (bitmap_looks p.dir p.number column condition) done
          (IsHeadLook files (index_file p)) old mid new (head_is_free spec e) h k

  -- the head alone
  pub head_reads : (old new : Option (List Look)) → IfSome files (λ m. file_at m (index_file p) ≡ None → new ≡ old) → AddsOnly (IsHeadLook files (index_file p)) old new
      → (done → bitmap_looks p.dir p.number column condition ≡ [])
      → AddsLooks old new (is_free_of p.dir p.number column) (is_bitmap_of p.dir p.number column) (bitmap_looks p.dir p.number column condition) done
  head_reads old new none h nothing = head_then old new new none h (unread files p column has condition done new new refl nothing)

pub no_looks : (p : Placed) (column : PartColumn) (condition : PlanAtom) → column.spec ≡ None → bitmap_looks p.dir p.number column condition ≡ []
no_looks p column condition e = unindexed_looks p.dir p.number column condition e

-- the files stayed
pub still_column : (files mid : Option Files) (p : Placed) (column : PartColumn) → mid ≡ files → HasColumn files p column → HasColumn mid p column
still_column files mid p column e h = subst (λ (o : Option Files). HasColumn o p column) (sym e) h
