-- The order of rows is a total one, so a sort by it puts each row into its place.
use Rattle.std.proofs.Common.{◌≡◌, ℕ, Bool, true, false, List, [], ◌∷◌, refl, sym, ap, subst}
use Rattle.std.specs.Prelude.{slice_index_or}
use denote.Ref.{Bor}
use Rattle.std.specs.Cmp.{IsStrictWeakOrder, IsTotalOrder}
use Rattle.std.specs.Fn.{Called, ComparesAs, Mut}
use Rattle.std.specs.List.Sorted.{IsSortedByClosure, IsStableByClosure}
use Rattle.std.specs.Ordering.{is_lt}
use Rattle.std.specs.declared.cmp.Ordering.{Ordering}
use Rattle.std.specs.declared.cmp.Ordering.TheVariants.{Less, Equal, Greater}
use Rattle.std.proofs.lemmas.Cmp.{back_total, on_total, then_total}
use Rattle.std.proofs.lemmas.Fn.{always_returns_same}
use Rattle.std.proofs.lemmas.List.MinMax.{ranks_by}
use Rattle.fb_types.specs.declared.cells.Cell.{Cell}
use Rattle.fb_types.specs.declared.cells.Cell.TheVariants.{Null}
use Rattle.query_grammar.specs.declared.picking.OrderPlace.{OrderPlace}
use Rattle.select_group.specs.Keys.{cell_cmp-total}
use Rattle.select_group.specs.Order.{comes_before, in_direction, row_cmp, sorted}
use Rattle.select_group.specs.Rows.{cell_cmp}
use Rattle.select_group.proofs.Stable.{stable_is}

place_total : (place : ℕ) (down : Bool) → IsTotalOrder (λ (a b : List Cell). in_direction down (cell_cmp (slice_index_or a place Null) (slice_index_or b place Null)))
place_total place false = on_total (λ row. slice_index_or row place Null) cell_cmp-total
place_total place true =
    let o : IsTotalOrder (λ (a b : List Cell). cell_cmp (slice_index_or a place Null) (slice_index_or b place Null)) = on_total (λ row. slice_index_or row place Null) cell_cmp-total in
    subst IsTotalOrder (λ i a b. o.antisymm b a i) (back_total o)

all_tie : IsTotalOrder (λ (a b : List Cell). Equal)
all_tie = record { antisymm = λ a b. refl; trans = λ a b c p q. absurd cc; congr = λ a b c p. refl }

pub row_cmp-total : (order : List OrderPlace) → IsTotalOrder (row_cmp order)
row_cmp-total [] = all_tie
row_cmp-total (by ∷ order) = then_total (place_total by.place by.down) (row_cmp-total order)

pub rows_ranked : (order : List OrderPlace) → IsStrictWeakOrder (comes_before order)
rows_ranked order = ranks_by (row_cmp-total order) (λ row. row)

-- what a stable sort gives whose closure compares rows
pub sorted_by_closure : {F : Type 0} {g : Mut F (Bor (List Cell) × (Bor (List Cell) × Unit {0})) Ordering} {f : F} (order : List OrderPlace) (xs ys : List (List Cell))
    → ((a : Bor (List Cell) × (Bor (List Cell) × Unit {0})) (r : Ordering) (f' : F) → Called g f a r f' → (r ≡ row_cmp order a.0.now a.1.0.now) × (f' ≡ f))
    → IsSortedByClosure g f ys → IsStableByClosure g f xs ys → ys ≡ sorted (comes_before order) xs
sorted_by_closure {g = g} {f = f} order xs ys calls up stays =
    let same : ComparesAs g (comes_before order) f =
    always_returns_same g (λ a r. is_lt r ≡ comes_before order a.0.now a.1.0.now) f (λ a r f' k. (ap is_lt (calls a r f' k).0, (calls a r f' k).1)) in
    let ranked = rows_ranked order in
    stable_is (comes_before order) ranked xs ys (up (comes_before order) ranked same) (stays (comes_before order) ranked same)
