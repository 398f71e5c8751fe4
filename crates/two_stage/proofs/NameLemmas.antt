-- Reads of a column's files are of no other column's bitmaps.
use Rattle.std.proofs.Common.{◌≡◌, ◌≢◌, ℕ, zero, suc, ◌+◌, ◌<◌, ◌≤◌, Bool, true, false, ◌&&◌, ◌||◌, ◌==◌, IsTrue, cond, List, [], ◌∷◌, ◌++◌, length, get_or, Option, Some, None, refl, sym, ap, subst, ◌∙◌, arith}
use Rattle.std.specs.List.{AllByRecursion, AllPairs, filter, list_any, range_with_len}
use Rattle.std.specs.Str.{bytes_eq}
use Rattle.std.proofs.lemmas.Bool.{eq-eqb, eqb-true}
use Rattle.std.proofs.lemmas.Option.{slice_get-get_or}
use Rattle.std.proofs.lemmas.Slice.Eq.{bytes_eq-Decides}
use Rattle.fb_outside.specs.Reads.{AddsReads, Look}
use Rattle.fb_outside.proofs.ReadLemmas.{AddsReads-weaken}
use Rattle.fb_types.specs.declared.schemas.Column.{Column}
use Rattle.fb_types.specs.declared.types.ColType.{ColType}
use Rattle.fb_types.specs.declared.types.ColType.TheVariants.{Byte, UByte, Short, UShort, Int, UInt, Long, ULong, Category, Text}
use Rattle.index_spec.specs.declared.spec.Spec.{Spec}
use Rattle.part_meta.specs.FileNames.{file_name, index_name}
use Rattle.part_meta.specs.PartText.{IsPart}
use Rattle.part_meta.specs.declared.names.FileKind.{FileKind}
use Rattle.part_meta.specs.declared.names.FileKind.TheVariants as file
use Rattle.part_meta.specs.declared.part.PartMeta.{PartMeta}
use Rattle.part_meta.proofs.FileNameLemmas.{same_file}
use Rattle.world.specs.PartFiles.{part_data}
use Rattle.world.specs.World.{Partition}
use Rattle.world.proofs.PlaceLemmas.{AllPairs-at, same_place}
use Rattle.binning.proofs.TestLemmas.{either}
use Rattle.stages.specs.Looks.{AddsLooks, Looks}
use Rattle.part_meaning.specs.Columns.{PartColumn, column_at, no_column}
use Rattle.part_meaning.specs.Files.{free_kinds, is_bitmap_of, is_free_of, kinds_by_spec, kinds_by_type}
use Rattle.part_meaning.specs.Parts.{is_bitmap_in}
use Rattle.two_stage.proofs.PartFileLemmas.{called, column_named}

-- ---- one number of a range

none_of : (p : ℕ → Bool) (a n : ℕ) → ((k : ℕ) → a ≤ k → k < a + n → p k ≡ false) → list_any p (range_with_len a n) ≡ false
none_of p a zero each = refl
none_of p a (suc n) each =
    ap (λ b. b || list_any p (range_with_len (a + 1) n)) (each a (omega arith) (omega arith))
    ∙ none_of p (a + 1) n (λ k low below. each k (omega arith) (omega arith))

or_false : (a b : Bool) → b ≡ false → (a || b) ≡ a
or_false true b h = refl
or_false false b h = h

one_of : (p : ℕ → Bool) (a n k : ℕ) → a ≤ k → k < a + n → ((other : ℕ) → other < a + n → (other ≡ k → ⊥) → p other ≡ false)
    → list_any p (range_with_len a n) ≡ p k
one_of p a zero k from below others = absurd (omega arith)
one_of p a (suc n) k from below others =
    either (a == k)
    (λ t.
    let here : a ≡ k = eqb-true a k t in
    or_false (p a) (list_any p (range_with_len (a + 1) n))
    (none_of p (a + 1) n (λ other low less. others other (omega arith) (λ same. absurd (omega (arith, here, same)))))
    ∙ ap p here)
    (λ f.
    let differs : a ≡ k → ⊥ = λ e. unequal a k e f in
    ap (λ b. b || list_any p (range_with_len (a + 1) n)) (others a (omega arith) differs)
    ∙ one_of p (a + 1) n k (past a k from differs) (omega arith) (λ other less no. others other (omega arith) no))
  where
    unequal : (a k : ℕ) → a ≡ k → (a == k) ≡ false → ⊥
    unequal a k e f = let bad : true ≡ false = sym (eq-eqb a k e) ∙ f in absurd cc

    past : (a k : ℕ) → a ≤ k → (a ≡ k → ⊥) → a + 1 ≤ k
    past a k from differs = grind arith

-- ---- the kinds of a column's files

abbrev IsOwn : FileKind → Type 0
IsOwn kind = kind ≡ file.PartText → ⊥

all_own : (xs ys : List FileKind) → AllByRecursion IsOwn xs → AllByRecursion IsOwn ys → AllByRecursion IsOwn (xs ++ ys)
all_own [] ys h k = k
all_own (x ∷ xs) ys h k = (h.0, all_own xs ys h.1 k)

own_by_type : (ty : ColType) → AllByRecursion IsOwn (kinds_by_type ty)
own_by_type Byte = tt
own_by_type UByte = tt
own_by_type Short = tt
own_by_type UShort = tt
own_by_type Int = tt
own_by_type UInt = tt
own_by_type Long = tt
own_by_type ULong = tt
own_by_type Category = ((λ e. absurd cc), tt)
own_by_type Text = ((λ e. absurd cc), tt)

own_by_spec : (spec : Option Spec) → AllByRecursion IsOwn (kinds_by_spec spec)
own_by_spec None = tt
own_by_spec (Some spec) = ((λ e. absurd cc), tt)

own_kinds : (column : PartColumn) → AllByRecursion IsOwn (free_kinds column)
own_kinds column =
    all_own (file.Mask ∷ kinds_by_type column.ty) (kinds_by_spec column.spec) ((λ e. absurd cc), own_by_type column.ty) (own_by_spec column.spec)

-- one that passes a test
record Passes (test : FileKind → Bool) : Type 0 where
  kind : FileKind
  own : IsOwn kind
  passes : test kind ≡ true

passing : (test : FileKind → Bool) (kinds : List FileKind) → AllByRecursion IsOwn kinds → list_any test kinds ≡ true → Passes test
passing test [] h e = absurd cc
passing test (kind ∷ kinds) h e =
    either (test kind)
    (λ t. record { kind = kind; own = h.0; passes = t })
    (λ f. passing test kinds h.1 (sym (ap (λ b. b || list_any test kinds) f) ∙ e))

-- ---- reads of a column's files

and_no : (a b : Bool) → (a ≡ true → ⊥) → (a && b) ≡ false
and_no true b h = absurd (h refl)
and_no false b h = refl

some_is : (a b : List ℕ) → Some a ≡ Some b → a ≡ b
some_is a b e = cc

module _ (dir : List ℕ) (meta : PartMeta) (part : Partition) (valid : IsPart meta) (is : meta ≡ part_data meta.schema part) (col : ℕ) (within : col < length meta.schema) where
  abbrev name_at : ℕ → List ℕ
  name_at place = (get_or meta.schema place no_column).name

  number_is : meta.number ≡ part.number
  number_is = ap (λ (p : PartMeta). p.number) is

  below : part.number < 4096
  below = subst (λ (n : ℕ). n < 4096) number_is valid.number

  same_column : (other : ℕ) → other < length meta.schema → name_at col ≡ name_at other → other ≡ col
  same_column other among e =
      let first = slice_get-get_or meta.schema col no_column within in
      let second = slice_get-get_or meta.schema other no_column among in
      same_place other col
      (λ less. AllPairs-at (λ a b. a.name ≢ b.name) meta.schema other col (get_or meta.schema other no_column) (get_or meta.schema col no_column) second first less valid.schema.distinct (sym e))
      (λ more. AllPairs-at (λ a b. a.name ≢ b.name) meta.schema col other (get_or meta.schema col no_column) (get_or meta.schema other no_column) first second more valid.schema.distinct e)

  other_column : (other : ℕ) (kind : FileKind) (look : Look) → other < length meta.schema → (other ≡ col → ⊥) → IsOwn kind
      → look.name ≡ file_name dir part.number (Some (name_at col)) kind → is_bitmap_of dir part.number (column_at meta.schema part other) look ≡ false
  unfolding is_bitmap_of column_at
  other_column other kind look among differs own named =
      and_no (bytes_eq look.name (index_name dir part.number (name_at other))) _
      (λ same.
      let equal = (bytes_eq-Decides look.name (index_name dir part.number (name_at other))).0 same in
      let both = same_file dir dir part.number part.number (Some (name_at col)) (Some (name_at other)) kind file.Index below below
      (called kind (name_at col) own (column_named dir meta part valid is col within)) (column_named dir meta part valid is other among) (sym named ∙ equal) in
      differs (same_column other among (some_is (name_at col) (name_at other) both.2)))

  -- is one of the part's bitmaps where it is one of the column's
  own_bitmaps : (kind : FileKind) (look : Look) → IsOwn kind → look.name ≡ file_name dir part.number (Some (name_at col)) kind
      → is_bitmap_in dir meta.schema part look ≡ is_bitmap_of dir part.number (column_at meta.schema part col) look
  unfolding is_bitmap_in
  own_bitmaps kind look own named =
      one_of (λ place. is_bitmap_of dir part.number (column_at meta.schema part place) look) 0 (length meta.schema) col (omega arith) (omega (arith, within))
      (λ other less differs. other_column other kind look (omega (arith, less)) differs own named)

  pub free_bitmaps : (look : Look) → is_free_of dir part.number (column_at meta.schema part col) look ≡ true
      → is_bitmap_in dir meta.schema part look ≡ is_bitmap_of dir part.number (column_at meta.schema part col) look
  unfolding is_free_of column_at
  free_bitmaps look h =
      let column = column_at meta.schema part col in
      let found = passing (λ kind. bytes_eq look.name (file_name dir part.number (Some column.name) kind)) (free_kinds column) (own_kinds column) h in
      own_bitmaps found.kind look found.own ((bytes_eq-Decides look.name (file_name dir part.number (Some (name_at col)) found.kind)).0 found.passes)
