-- The first difference of two lists of columns.
use Rattle.std.proofs.Common.{◌≡◌, ◌<◌, ◌≤◌, ◌+◌, zero, suc, ℕ, Bool, true, false, cond, ◌&&◌, List, [], ◌∷◌, Option, Some, None, option_map, length, map, drop, get_or, slice_get, bytes_eq, ◌≢◌, length-drop, refl, sym, ap, subst, ◌∙◌, arith}
use Rattle.std.proofs.lemmas.Slice.Eq.{bytes_eq-Decides}
use Rattle.std.proofs.lemmas.List.{drop_more, drop_all}
use Rattle.fb_types.specs.declared.schemas.Column.{Column}
use Rattle.fb_types.specs.declared.types.ColType.{ColType}
use Rattle.fb_types.specs.Types.{type_name}
use Rattle.fb_types.specs.SchemaText.{type_named}
use Rattle.fb_types.proofs.ItemFacts.{type_named-type_name}
use Rattle.std.proofs.lemmas.List.{length-map}
use Rattle.part_meta.specs.declared.part.PartMeta.{PartMeta}
use Rattle.world.specs.Effects.{part_count}
use Rattle.dataset.specs.declared.content.Dataset.{Dataset}
use Rattle.dataset.specs.Opened.{catalog_in}
use Rattle.dataset.specs.Appended.{SchemaDiffers, first_difference, is_same_column, refusal, refusal_by, too_many}
use Rattle.dataset.specs.Refusing.{is_same_at, is_same_found}

-- ---- columns of one name and type

same_type : (a b : ColType) → type_name a ≡ type_name b → a ≡ b
same_type a b h = some_same (sym (type_named-type_name a) ∙ ap type_named h ∙ type_named-type_name b)
  where
    some_same : Some a ≡ Some b → a ≡ b
    some_same e = cc

same_column : (a b : Column) → is_same_column a b ≡ true → a ≡ b
same_column a b h =
    let both = both_true (bytes_eq a.name b.name) (bytes_eq (type_name a.ty) (type_name b.ty)) h in
    let name : a.name ≡ b.name = (bytes_eq-Decides a.name b.name).0 both.0 in
    let ty : a.ty ≡ b.ty = same_type a.ty b.ty ((bytes_eq-Decides (type_name a.ty) (type_name b.ty)).0 both.1) in
    λ i. record { name = name i; ty = ty i }
  where
    both_true : (x y : Bool) → (x && y) ≡ true → (x ≡ true) × (y ≡ true)
    both_true true true e = (refl, refl)
    both_true true false e = absurd (cc)
    both_true false y e = absurd (cc)

pub no_difference : (xs ys : List Column) → first_difference xs ys ≡ None → xs ≡ ys
no_difference [] [] h = refl
no_difference [] (y ∷ ys) h = absurd (cc)
no_difference (x ∷ xs) [] h = absurd (cc)
no_difference (x ∷ xs) (y ∷ ys) h = by_test (no_difference xs ys) (is_same_column x y) refl
  where
    none : (o : Option ℕ) → option_map suc o ≡ None → o ≡ None
    none None e = refl
    none (Some n) e = absurd (cc)

    by_test : (first_difference xs ys ≡ None → xs ≡ ys) → (b : Bool) → is_same_column x y ≡ b → (x ∷ xs) ≡ (y ∷ ys)
    by_test again true e =
        let h' : option_map suc (first_difference xs ys) ≡ None = subst (λ t. cond t (option_map suc (first_difference xs ys)) (Some 1) ≡ None) e h in
        let rest = again (none (first_difference xs ys) h') in
        ap (λ z. z ∷ xs) (same_column x y e) ∙ ap (λ zs. y ∷ zs) rest
    by_test again false e =
        let h' : Some 1 ≡ None = subst (λ t. cond t (option_map suc (first_difference xs ys)) (Some 1) ≡ None) e h in
        absurd (cc)

-- ---- the walk over the columns

-- a difference that is counted from a place on
abbrev pub from_place : ℕ → Option ℕ → Option ℕ
from_place col o = option_map (λ n. col + n) o

pub from_top : (o : Option ℕ) → from_place 0 o ≡ o
from_top None = refl
from_top (Some n) = ap Some (omega arith)

from_next : (col : ℕ) (o : Option ℕ) → from_place col (option_map suc o) ≡ from_place (col + 1) o
from_next col None = refl
from_next col (Some n) = ap Some (omega arith)

drop_none : (ys : List Column) (col : ℕ) → slice_get ys col ≡ None → drop col ys ≡ []
drop_none [] zero h = refl
drop_none [] (suc col) h = refl
drop_none (y ∷ ys) zero h = absurd (cc)
drop_none (y ∷ ys) (suc col) h = drop_none ys col h

drop_some : (ys : List Column) (col : ℕ) (y : Column) → slice_get ys col ≡ Some y → drop col ys ≡ y ∷ drop (suc col) ys
drop_some [] col y h = absurd (cc)
drop_some (z ∷ ys) zero y h = let e : z ≡ y = some_is z y h in ap (λ t. t ∷ ys) e
  where
    some_is : (a b : Column) → Some a ≡ Some b → a ≡ b
    some_is a b e = cc
drop_some (z ∷ ys) (suc col) y h = drop_some ys col y h

-- the column isn't at that place
pub differs_here : (xs ys : List Column) (col : ℕ) (x : Column) → is_same_at ys col x ≡ false → first_difference (x ∷ xs) (drop col ys) ≡ Some 1
differs_here xs ys col x h = by_found (slice_get ys col) refl
  where
    by_found : (o : Option Column) → slice_get ys col ≡ o → first_difference (x ∷ xs) (drop col ys) ≡ Some 1
    by_found None e = ap (first_difference (x ∷ xs)) (drop_none ys col e)
    by_found (Some y) e =
        let d : is_same_column x y ≡ false = ap (is_same_found x) (sym e) ∙ h in
        ap (first_difference (x ∷ xs)) (drop_some ys col y e)
        ∙ ap (λ b. cond b (option_map suc (first_difference xs (drop (suc col) ys))) (Some 1)) d

-- the column is at that place
pub same_here : (xs ys : List Column) (col : ℕ) (x : Column) → is_same_at ys col x ≡ true
    → first_difference (x ∷ xs) (drop col ys) ≡ option_map suc (first_difference xs (drop (suc col) ys))
same_here xs ys col x h = by_found (slice_get ys col) refl
  where
    by_found : (o : Option Column) → slice_get ys col ≡ o
        → first_difference (x ∷ xs) (drop col ys) ≡ option_map suc (first_difference xs (drop (suc col) ys))
    by_found None e = let f : false ≡ true = ap (is_same_found x) (sym e) ∙ h in absurd (cc)
    by_found (Some y) e =
        let d : is_same_column x y ≡ true = ap (is_same_found x) (sym e) ∙ h in
        ap (first_difference (x ∷ xs)) (drop_some ys col y e)
        ∙ ap (λ b. cond b (option_map suc (first_difference xs (drop (suc col) ys))) (Some 1)) d

pub differs_at : (xs ys : List Column) (col : ℕ) (x : Column) → col < length xs → x ≡ get_or xs col x → is_same_at ys col x ≡ false
    → first_difference xs ys ≡ from_place col (first_difference (drop col xs) (drop col ys)) → first_difference xs ys ≡ Some (col + 1)
differs_at xs ys col x h is differs so_far =
    let left : drop col xs ≡ x ∷ drop (col + 1) xs = drop_more xs col x h ∙ ap (λ z. z ∷ drop (col + 1) xs) (sym is) in
    so_far ∙ ap (λ zs. from_place col (first_difference zs (drop col ys))) left ∙ ap (from_place col) (differs_here (drop (col + 1) xs) ys col x differs)

pub same_at : (xs ys : List Column) (col : ℕ) (x : Column) → col < length xs → x ≡ get_or xs col x → is_same_at ys col x ≡ true
    → first_difference xs ys ≡ from_place col (first_difference (drop col xs) (drop col ys))
    → first_difference xs ys ≡ from_place (col + 1) (first_difference (drop (col + 1) xs) (drop (col + 1) ys))
same_at xs ys col x h is same so_far =
    let left : drop col xs ≡ x ∷ drop (col + 1) xs = drop_more xs col x h ∙ ap (λ z. z ∷ drop (col + 1) xs) (sym is) in
    let e : suc col ≡ col + 1 = omega arith in
    so_far ∙ ap (λ zs. from_place col (first_difference zs (drop col ys))) left
    ∙ ap (from_place col) (same_here (drop (col + 1) xs) ys col x same ∙ ap (λ k. option_map suc (first_difference (drop (col + 1) xs) (drop k ys))) e)
    ∙ from_next col (first_difference (drop (col + 1) xs) (drop (col + 1) ys))

-- no column differs, and the other list is as long or has more
pub at_the_end : (xs ys : List Column) → length xs ≡ length ys
    → first_difference xs ys ≡ from_place (length xs) (first_difference (drop (length xs) xs) (drop (length xs) ys)) → first_difference xs ys ≡ None
at_the_end xs ys len so_far =
    let none : drop (length xs) xs ≡ [] = drop_all (length xs) xs (omega arith) in
    let none' : drop (length xs) ys ≡ [] = drop_all (length xs) ys (omega arith) in
    so_far ∙ ap (λ zs. from_place (length xs) (first_difference zs (drop (length xs) ys))) none ∙ ap (λ zs. from_place (length xs) (first_difference [] zs)) none'

pub more_columns : (xs ys : List Column) → length xs ≢ length ys
    → first_difference xs ys ≡ from_place (length xs) (first_difference (drop (length xs) xs) (drop (length xs) ys))
    → length xs ≤ length ys → first_difference xs ys ≡ Some (length xs + 1)
more_columns xs ys len so_far within =
    let none : drop (length xs) xs ≡ [] = drop_all (length xs) xs (omega arith) in
    so_far ∙ ap (λ zs. from_place (length xs) (first_difference zs (drop (length xs) ys))) none ∙ ap (from_place (length xs)) (some_left (drop (length xs) ys) left)
  where
    left : 0 < length (drop (length xs) ys)
    left = omega (arith, length-drop (length xs) ys)

    some_left : (zs : List Column) → 0 < length zs → first_difference [] zs ≡ Some 1
    some_left [] h = absurd (omega arith)
    some_left (z ∷ zs) h = refl

pub same_within : (ys : List Column) (col : ℕ) (x : Column) → is_same_at ys col x ≡ true → col < length ys
same_within [] zero x h = absurd (cc)
same_within [] (suc col) x h = absurd (cc)
same_within (y ∷ ys) zero x h = omega arith
same_within (y ∷ ys) (suc col) x h = let rest = same_within ys col x h in omega (arith, rest)

-- ---- the refusal

pub refused_column : (dataset : Dataset) (schema : List Column) (per_part rows column : ℕ) → first_difference dataset.schema schema ≡ Some column
    → refusal (catalog_in dataset) schema per_part rows ≡ Some (SchemaDiffers column)
unfolding refusal
refused_column dataset schema per_part rows column h =
    ap (λ o. refusal_by o (too_many (length (map (λ (part : PartMeta). part.number) dataset.parts) + part_count per_part rows) (dataset.next + part_count per_part rows))) h

pub refused_by : (dataset : Dataset) (schema : List Column) (per_part rows parts next : ℕ) → first_difference dataset.schema schema ≡ None
    → parts ≡ length dataset.parts + part_count per_part rows → next ≡ dataset.next + part_count per_part rows
    → refusal (catalog_in dataset) schema per_part rows ≡ too_many parts next
unfolding refusal
refused_by dataset schema per_part rows parts next h p n =
    ap (λ o. refusal_by o (too_many (length (map (λ (part : PartMeta). part.number) dataset.parts) + part_count per_part rows) (dataset.next + part_count per_part rows))) h
    ∙ ap (λ k. too_many (k + part_count per_part rows) (dataset.next + part_count per_part rows)) (length-map dataset.parts (λ (part : PartMeta). part.number))
    ∙ ap (λ k. too_many k (dataset.next + part_count per_part rows)) (sym p) ∙ ap (too_many parts) (sym n)
