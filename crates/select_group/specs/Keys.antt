-- Keys of groups as keys of a map: what they are hashed by, and the laws of their order.
use Rattle.std.specs.Prelude.{◌≡◌, ℕ, Bool, true, List, [], ◌∷◌, ◌++◌, ℤ, pos, Some, IsTrue, refl, false}
use Rattle.std.proofs.Common.{sym, ap, subst, ◌∙◌}
use Rattle.std.specs.Hash as fed
use Rattle.std.specs.Ordering.{int_cmp, nat_cmp, on, ordering_then, then_cmp}
use Rattle.std.specs.Cmp.{IsEquivalence, IsPartialEquivalence, IsPartialOrder, IsTotalOrder, Equal-is, partial_equiv_from_equiv, po}
use Rattle.std.specs.Cmp.Lexicographic.{slice_cmp}
use Rattle.std.specs.declared.cmp.Ordering.{Ordering}
use Rattle.std.specs.declared.cmp.Ordering.TheVariants.{Less, Equal, Greater}
use Rattle.std.proofs.lemmas.Cmp.{eq_by_cmp_equiv, int_cmp_total, lists_total, nat_cmp_total, nat_list_cmp_total, on_total, then_total, tied_itself}
use Rattle.std.proofs.lemmas.Map.Lookups.{exact_bytes, exact_signed}
use Rattle.fb_types.specs.declared.cells.Cell.{Cell}
use Rattle.fb_types.specs.declared.cells.Cell.TheVariants.{Null, Whole, Word}
use Rattle.select_group.specs.Rows.{cell_cmp, cells_cmp, cells_eq}

-- ---- what a key is hashed by

abbrev pub cell_input : Cell → List (List ℕ)
cell_input Null = fed.u8 0
cell_input (Whole n) = fed.i128 n
cell_input (Word w) = w ∷ []

abbrev pub cells_input : List Cell → List (List ℕ)
cells_input [] = []
cells_input (c ∷ cells) = cell_input c ++ cells_input cells

-- ---- cells are in a total order: by sort, then by number, then by word

abbrev sort_in : Cell → ℕ
sort_in Null = 0
sort_in (Whole n) = 1
sort_in (Word w) = 2

abbrev number_of : Cell → ℤ
number_of Null = pos 0
number_of (Whole n) = n
number_of (Word w) = pos 0

abbrev word_of : Cell → List ℕ
word_of Null = []
word_of (Whole n) = []
word_of (Word w) = w

abbrev by_parts : Cell → Cell → Ordering
by_parts = then_cmp (on sort_in nat_cmp) (then_cmp (on number_of int_cmp) (on word_of (slice_cmp nat_cmp)))

int_itself : (n : ℤ) → int_cmp n n ≡ Equal
int_itself n = tied_itself int_cmp_total n

then_equal : (o : Ordering) → ordering_then o Equal ≡ o
then_equal Less = refl
then_equal Equal = refl
then_equal Greater = refl

by_parts_is : (a b : Cell) → by_parts a b ≡ cell_cmp a b
by_parts_is Null Null = refl
by_parts_is Null (Whole m) = refl
by_parts_is Null (Word v) = refl
by_parts_is (Whole n) Null = refl
by_parts_is (Whole n) (Whole m) = then_equal (int_cmp n m)
by_parts_is (Whole n) (Word v) = refl
by_parts_is (Word w) Null = refl
by_parts_is (Word w) (Whole m) = refl
by_parts_is (Word w) (Word v) = refl

pub cell_cmp-total : IsTotalOrder cell_cmp
cell_cmp-total = subst IsTotalOrder (λ i a b. by_parts_is a b i) (then_total (on_total sort_in nat_cmp_total) (then_total (on_total number_of int_cmp_total) (on_total word_of nat_list_cmp_total)))

pub cells_cmp-total : IsTotalOrder cells_cmp
cells_cmp-total = lists_total cell_cmp-total

pub cells_eq-equivalence : IsEquivalence cells_eq
cells_eq-equivalence = eq_by_cmp_equiv cells_cmp-total

pub cells_eq-partial : IsPartialEquivalence cells_eq
cells_eq-partial = partial_equiv_from_equiv cells_eq-equivalence

pub cells_cmp-partial : IsPartialOrder cells_eq (λ a b. Some (cells_cmp a b))
cells_cmp-partial = po cells_cmp-total (λ a b. refl)

-- ---- what ties is the same

pub cell_cmp-same : (a b : Cell) → cell_cmp a b ≡ Equal → a ≡ b
cell_cmp-same Null Null e = refl
cell_cmp-same Null (Whole m) e = cc
cell_cmp-same Null (Word v) e = cc
cell_cmp-same (Whole n) Null e = cc
cell_cmp-same (Whole n) (Whole m) e = ap Whole (exact_signed n m e)
cell_cmp-same (Whole n) (Word v) e = cc
cell_cmp-same (Word w) Null e = cc
cell_cmp-same (Word w) (Whole m) e = cc
cell_cmp-same (Word w) (Word v) e = ap Word (exact_bytes w v e)

both_equal : (o p : Ordering) → ordering_then o p ≡ Equal → (o ≡ Equal) × (p ≡ Equal)
both_equal Less p e = cc
both_equal Equal p e = (refl, e)
both_equal Greater p e = cc

pub cells_cmp-same : (xs ys : List Cell) → cells_cmp xs ys ≡ Equal → xs ≡ ys
cells_cmp-same [] [] e = refl
cells_cmp-same [] (b ∷ ys) e = cc
cells_cmp-same (a ∷ xs) [] e = cc
cells_cmp-same (a ∷ xs) (b ∷ ys) e =
    let two = both_equal (cell_cmp a b) (cells_cmp xs ys) e in
    let first = cell_cmp-same a b two.0 in
    let rest = cells_cmp-same xs ys two.1 in
    cc

pub cells_eq-same : (xs ys : List Cell) → cells_eq xs ys ≡ true → xs ≡ ys
cells_eq-same xs ys e = cells_cmp-same xs ys ((Equal-is (cells_cmp xs ys)).0 e)

pub cells_input-same : (xs ys : List Cell) → IsTrue (cells_eq xs ys) → cells_input xs ≡ cells_input ys
cells_input-same xs ys e = ap cells_input (cells_eq-same xs ys e)
