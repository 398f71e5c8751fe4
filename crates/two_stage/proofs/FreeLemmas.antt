-- Reads that are of no bitmap, before the reads of the bitmaps that a condition needs.
use Rattle.std.proofs.Common.{◌≡◌, ◌⊎◌, inl, inr, ℕ, ◌+◌, ◌<◌, ◌≤◌, Bool, true, false, cond, ◌||◌, ◌&&◌, IsTrue, nat_lt, option_map, List, [], ◌∷◌, ◌++◌, All, get_or, Option, Some, None, IsSome, Ok, refl, sym, ap, subst, ◌∙◌, append-nil, arith}
use Rattle.std.specs.Prelude.{slice_index, Result}
use Rattle.std.specs.List.{AllByRecursion, filter, list_any}
use Rattle.std.specs.Str.{bytes_eq}
use Rattle.std.proofs.lemmas.Bool.{ltb-true}
use Rattle.std.proofs.lemmas.List.{append_cancel_left}
use Rattle.std.proofs.lemmas.List.Elements.{All-head, All-tail}
use Rattle.std.proofs.lemmas.Slice.Eq.{bytes_eq-Decides}
use lib.Chars.{codes}
use Rattle.fb_outside.specs.Files.{Files, file_at}
use Rattle.fb_outside.specs.Reads.{Look, AddsOnly, AddsReads, IsWholeLook}
use Rattle.fb_outside.proofs.ReadLemmas.{AddsReads-trans, AddsReads-weaken, all_weaken}
use Rattle.fb_types.specs.declared.types.ColType.{ColType}
use Rattle.fb_types.specs.declared.types.ColType.TheVariants.{Category, Text}
use Rattle.part_meta.specs.FileNames.{file_name, index_name, leaf, mask_name, part_folder}
use Rattle.part_meta.specs.declared.names.FileKind.{FileKind}
use Rattle.part_meta.specs.declared.names.FileKind.TheVariants as file
use Rattle.stages.specs.Looks.{AddsLooks, Looks}
use Rattle.bin_answers.specs.Fetched.{IsFrontOf}
use Rattle.index_spec.specs.declared.spec.Spec.{Spec}
use Rattle.part_meaning.specs.Bitmaps.{index_places}
use Rattle.part_meaning.specs.Columns.{PartColumn}
use Rattle.part_meaning.specs.Files.{is_bitmap_of, is_free_of, is_past_head, kinds_by_spec, kinds_by_type}

-- ---- of any reads

-- it is allowed, and of no bitmap
abbrev pub IsFree : (Look → Bool) → (Look → Bool) → Look → Type 0
IsFree allowed is_bitmap look = (allowed look ≡ true) × (is_bitmap look ≡ false)

-- it is of a bitmap, and allowed
abbrev pub IsFetch : (Look → Bool) → (Look → Bool) → Look → Type 0
IsFetch allowed is_bitmap look = (is_bitmap look ≡ true) × (allowed look ≡ true)

true_is : (b : Bool) → b ≡ true → IsTrue b
true_is b e = e

module _ (allowed is_bitmap : Look → Bool) (bitmaps : List Look) (done : Type 0) where
  free_front : (xs rest : List Look) → AllByRecursion (IsFree allowed is_bitmap) xs → Looks allowed is_bitmap bitmaps done rest
      → Looks allowed is_bitmap bitmaps done (xs ++ rest)
  free_front [] rest h k = k
  free_front (x ∷ xs) rest h k =
      let more = free_front xs rest h.1 k in
      record {
        each = (true_is (allowed x) h.0.0, more.each);
        left = more.left;
        front = ap (λ b. cond b (x ∷ filter is_bitmap (xs ++ rest)) (filter is_bitmap (xs ++ rest)) ++ more.left) h.0.1 ∙ more.front;
        whole = more.whole;
      }

  free_only : (xs : List Look) → AllByRecursion (IsFree allowed is_bitmap) xs → (done → bitmaps ≡ []) → Looks allowed is_bitmap bitmaps done xs
  free_only [] h none = record { each = tt; left = bitmaps; front = refl; whole = none }
  free_only (x ∷ xs) h none =
      let more = free_only xs h.1 none in
      record {
        each = (true_is (allowed x) h.0.0, more.each);
        left = more.left;
        front = ap (λ b. cond b (x ∷ filter is_bitmap xs) (filter is_bitmap xs) ++ more.left) h.0.1 ∙ more.front;
        whole = more.whole;
      }

  fetch_only : (xs left : List Look) → All (IsFetch allowed is_bitmap) (xs ++ left) → (filter is_bitmap xs ≡ xs) × AllByRecursion (λ look. IsTrue (allowed look)) xs
  fetch_only [] left h = (refl, tt)
  fetch_only (x ∷ xs) left h =
      let first = All-head (IsFetch allowed is_bitmap) x (xs ++ left) h in
      let more = fetch_only xs left (All-tail (IsFetch allowed is_bitmap) x (xs ++ left) h) in
      (ap (λ b. cond b (x ∷ filter is_bitmap xs) (filter is_bitmap xs)) first.0 ∙ ap (λ l. x ∷ l) more.0, (true_is (allowed x) first.1, more.1))

  front_looks : All (IsFetch allowed is_bitmap) bitmaps → (added : List Look) → IsFrontOf bitmaps done added → Looks allowed is_bitmap bitmaps done added
  front_looks h added front =
      let both = fetch_only added front.left (subst (All (IsFetch allowed is_bitmap)) (sym front.front) h) in
      record { each = both.1; left = front.left; front = ap (λ l. l ++ front.left) both.0 ∙ front.front; whole = front.whole }

  -- reads that are of no bitmap come before
  pub free_then : (P : Look → Type 0) (old mid new : Option (List Look)) → ((look : Look) → P look → IsFree allowed is_bitmap look) → AddsOnly P old mid
      → AddsLooks mid new allowed is_bitmap bitmaps done → AddsLooks old new allowed is_bitmap bitmaps done
  free_then P old mid new f h k =
      AddsReads-trans {P = AllByRecursion P} {Q = Looks allowed is_bitmap bitmaps done} {R = Looks allowed is_bitmap bitmaps done} old mid new h k
      (λ xs ys p q. free_front xs ys (all_weaken P (IsFree allowed is_bitmap) f xs p) q)

  -- and there are no others
  pub free_reads : (P : Look → Type 0) (old new : Option (List Look)) → ((look : Look) → P look → IsFree allowed is_bitmap look) → (done → bitmaps ≡ [])
      → AddsOnly P old new → AddsLooks old new allowed is_bitmap bitmaps done
  free_reads P old new f none h =
      AddsReads-weaken {P = AllByRecursion P} {Q = Looks allowed is_bitmap bitmaps done} old new
      (λ xs p. free_only xs (all_weaken P (IsFree allowed is_bitmap) f xs p) none) h

  pub no_reads : (old new : Option (List Look)) → new ≡ old → (done → bitmaps ≡ []) → AddsLooks old new allowed is_bitmap bitmaps done
  no_reads old new e none = free_reads (λ look. ⊥) old new (λ look b. absurd b) none (subst (λ o. AddsOnly (λ look. ⊥) old o) (sym e) (AddsOnly-none old))
    where
      AddsOnly-none : (o : Option (List Look)) → AddsOnly (λ look. ⊥) o o
      AddsOnly-none o = record { added = []; each = tt; told = λ _. with_none o }
        where
          with_none : (q : Option (List Look)) → q ≡ option_map (λ (before : List Look). before ++ []) q
          with_none None = refl
          with_none (Some before) = ap Some (sym (append-nil before))

  -- the bitmaps themselves
  pub fetch_reads : (old new : Option (List Look)) → All (IsFetch allowed is_bitmap) bitmaps → AddsReads old new (IsFrontOf bitmaps done)
      → AddsLooks old new allowed is_bitmap bitmaps done
  fetch_reads old new h k =
      AddsReads-weaken {P = IsFrontOf bitmaps done} {Q = Looks allowed is_bitmap bitmaps done} old new (front_looks h) k

-- ---- of the files of a column

-- what stands behind the name differs
apart_by : (folder a b : List ℕ) → (a ≡ b → ⊥) → folder ++ 47 ∷ a ≡ folder ++ 47 ∷ b → ⊥
apart_by folder a b f e =
    let tails : 47 ∷ a ≡ 47 ∷ b = append_cancel_left folder (47 ∷ a) (47 ∷ b) e in
    f (append_cancel_left (47 ∷ []) a b tails)

mask_apart : (dir : List ℕ) (number : ℕ) (name : List ℕ) → file_name dir number (Some name) file.Mask ≡ index_name dir number name → ⊥
unfolding file_name leaf
mask_apart dir number name e =
    apart_by (part_folder dir number) (name ++ codes ".msk") (name ++ codes ".idx")
    (λ k. let tails : codes ".msk" ≡ codes ".idx" = append_cancel_left name (codes ".msk") (codes ".idx") k in
    let second : 109 ≡ 105 = ap (λ (l : List ℕ). get_or l 1 0) tails in absurd (omega (arith, second))) e

words_apart : (dir : List ℕ) (number : ℕ) (name : List ℕ) → file_name dir number (Some name) file.Words ≡ index_name dir number name → ⊥
unfolding file_name leaf
words_apart dir number name e =
    apart_by (part_folder dir number) (name ++ codes ".dic") (name ++ codes ".idx")
    (λ k. let tails : codes ".dic" ≡ codes ".idx" = append_cancel_left name (codes ".dic") (codes ".idx") k in
    let second : 100 ≡ 105 = ap (λ (l : List ℕ). get_or l 1 0) tails in absurd (omega (arith, second))) e

starts_apart : (dir : List ℕ) (number : ℕ) (name : List ℕ) → file_name dir number (Some name) file.Starts ≡ index_name dir number name → ⊥
unfolding file_name leaf
starts_apart dir number name e =
    apart_by (part_folder dir number) (name ++ codes ".sp") (name ++ codes ".idx")
    (λ k. let tails : codes ".sp" ≡ codes ".idx" = append_cancel_left name (codes ".sp") (codes ".idx") k in
    let second : 115 ≡ 105 = ap (λ (l : List ℕ). get_or l 1 0) tails in absurd (omega (arith, second))) e

not_same : (a b : List ℕ) → (a ≡ b → ⊥) → bytes_eq a b ≡ false
not_same a b f = by (bytes_eq a b) refl
  where
    by : (v : Bool) → bytes_eq a b ≡ v → bytes_eq a b ≡ false
    by false e = e
    by true e = absurd (f ((bytes_eq-Decides a b).0 e))

same_bytes : (a b : List ℕ) → a ≡ b → bytes_eq a b ≡ true
same_bytes a b e = (bytes_eq-Decides a b).1 e

or_left : (a b : Bool) → a ≡ true → a || b ≡ true
or_left true b e = refl
or_left false b e = absurd cc

or_right : (a b : Bool) → b ≡ true → a || b ≡ true
or_right true b e = refl
or_right false b e = e

and_no : (a b : Bool) → a ≡ false → a && b ≡ false
and_no true b e = absurd cc
and_no false b e = refl

not_less : (a b : ℕ) → b ≤ a → nat_lt a b ≡ false
not_less a b h = by (nat_lt a b) refl
  where
    by : (v : Bool) → nat_lt a b ≡ v → nat_lt a b ≡ false
    by false e = e
    by true e = let less : a < b = ltb-true a b e in absurd (omega (arith, less, h))

and_right_no : (a b : Bool) → b ≡ false → a && b ≡ false
and_right_no true b e = e
and_right_no false b e = refl

last_any : (f : FileKind → Bool) (kinds : List FileKind) (kind : FileKind) → f kind ≡ true → list_any f (kinds ++ kind ∷ []) ≡ true
last_any f [] kind e = or_left (f kind) false e
last_any f (k ∷ kinds) kind e = or_right (f k) (list_any f (kinds ++ kind ∷ [])) (last_any f kinds kind e)

module _ (dir : List ℕ) (number : ℕ) (column : PartColumn) (look : Look) where
  no_bitmap : (name : List ℕ) → look.name ≡ name → (name ≡ index_name dir number column.name → ⊥) → is_bitmap_of dir number column look ≡ false
  unfolding is_bitmap_of
  no_bitmap name e f =
      and_no (bytes_eq look.name (index_name dir number column.name)) (is_past_head column.spec column (look.offset + look.room))
      (not_same look.name (index_name dir number column.name) (λ k. f (sym e ∙ k)))

  pub mask_free : look.name ≡ file_name dir number (Some column.name) file.Mask
      → IsFree (is_free_of dir number column) (is_bitmap_of dir number column) look
  unfolding is_free_of
  mask_free e = (
    or_left (bytes_eq look.name (file_name dir number (Some column.name) file.Mask)) _ (same_bytes _ _ e),
    no_bitmap _ e (mask_apart dir number column.name),
  )

  free_words : (ty : ColType) (spec : List FileKind) → ty ≡ Category → look.name ≡ file_name dir number (Some column.name) file.Words
      → list_any (λ kind. bytes_eq look.name (file_name dir number (Some column.name) kind)) (file.Mask ∷ kinds_by_type ty ++ spec) ≡ true
  free_words ty spec e h =
      subst (λ (t : ColType). list_any (λ kind. bytes_eq look.name (file_name dir number (Some column.name) kind)) (file.Mask ∷ kinds_by_type t ++ spec) ≡ true) (sym e)
      (or_right (bytes_eq look.name (file_name dir number (Some column.name) file.Mask)) _
      (or_left (bytes_eq look.name (file_name dir number (Some column.name) file.Words)) _ (same_bytes _ _ h)))

  pub words_free : column.ty ≡ Category → look.name ≡ file_name dir number (Some column.name) file.Words
      → IsFree (is_free_of dir number column) (is_bitmap_of dir number column) look
  unfolding is_free_of
  words_free ty e = (free_words column.ty (kinds_by_spec column.spec) ty e, no_bitmap _ e (words_apart dir number column.name))

  free_starts : (ty : ColType) (spec : List FileKind) → ty ≡ Text → look.name ≡ file_name dir number (Some column.name) file.Starts
      → list_any (λ kind. bytes_eq look.name (file_name dir number (Some column.name) kind)) (file.Mask ∷ kinds_by_type ty ++ spec) ≡ true
  free_starts ty spec e h =
      subst (λ (t : ColType). list_any (λ kind. bytes_eq look.name (file_name dir number (Some column.name) kind)) (file.Mask ∷ kinds_by_type t ++ spec) ≡ true) (sym e)
      (or_right (bytes_eq look.name (file_name dir number (Some column.name) file.Mask)) _
      (or_left (bytes_eq look.name (file_name dir number (Some column.name) file.Starts)) _ (same_bytes _ _ h)))

  pub starts_free : column.ty ≡ Text → look.name ≡ file_name dir number (Some column.name) file.Starts
      → IsFree (is_free_of dir number column) (is_bitmap_of dir number column) look
  unfolding is_free_of
  starts_free ty e = (free_starts column.ty (kinds_by_spec column.spec) ty e, no_bitmap _ e (starts_apart dir number column.name))

  pub index_free : (spec : Spec) → column.spec ≡ Some spec → look.name ≡ index_name dir number column.name → is_free_of dir number column look ≡ true
  unfolding is_free_of
  index_free spec is e =
      ap (λ o. list_any (λ kind. bytes_eq look.name (file_name dir number (Some column.name) kind)) (file.Mask ∷ kinds_by_type column.ty ++ kinds_by_spec o)) is
      ∙ or_right (bytes_eq look.name (file_name dir number (Some column.name) file.Mask)) _ (last_any (λ kind. bytes_eq look.name (file_name dir number (Some column.name) kind))
      (kinds_by_type column.ty) file.Index (same_bytes _ _ e))

  pub head_no_bitmap : (spec : Spec) → column.spec ≡ Some spec → look.offset + look.room ≤ slice_index (index_places spec column) 0 → is_bitmap_of dir number column look ≡ false
  unfolding is_bitmap_of
  head_no_bitmap spec is h =
      ap (λ o. bytes_eq look.name (index_name dir number column.name) && is_past_head o column (look.offset + look.room)) is
      ∙ and_right_no (bytes_eq look.name (index_name dir number column.name)) _ (not_less (slice_index (index_places spec column) 0) (look.offset + look.room) h)
