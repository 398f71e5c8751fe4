-- Bins are in order exactly where none is out of order.
use Rattle.std.proofs.Common.{◌≡◌, suc, Bool, true, false, not, ◌||◌, cond, List, [], ◌∷◌, ℤ, ◌≤ℤ◌, ◌<ℤ◌, int_lt, Some, None, option_map, refl, ap, ◌∙◌, arith}
use Rattle.std.proofs.lemmas.Int.{ints}
use Rattle.index_file.specs.Order.{AreAbove, AreInOrder, first_misplaced, first_out_of_order, is_misplaced, is_turned}
use Rattle.index_file.specs.declared.edge.Edge.{Edge}
use Rattle.index_file.proofs.PlacesLemmas.{none_of}

lt_of : (a b : ℤ) → int_lt a b ≡ true → a <ℤ b
lt_of a b h = grind (arith, ints)

le_of : (a b : ℤ) → int_lt a b ≡ false → b ≤ℤ a
le_of a b h = grind (arith, ints)

is_lt : (a b : ℤ) (t : Bool) → int_lt a b ≡ t → a <ℤ b → t ≡ true
is_lt a b true e h = refl
is_lt a b false e h = let other = le_of a b e in absurd (omega (arith, ints))

is_le : (a b : ℤ) (t : Bool) → int_lt a b ≡ t → b ≤ℤ a → t ≡ false
is_le a b false e h = refl
is_le a b true e h = let other = lt_of a b e in absurd (omega (arith, ints))

neither : (a b : Bool) → (a || not b) ≡ false → (a ≡ false) × (b ≡ true)
neither true b h = absurd (cc)
neither false true h = (refl, refl)
neither false false h = absurd (cc)

above_of : (before : ℤ) (edges : List Edge) → first_misplaced before edges ≡ None → AreAbove before edges
above_of before [] h = tt
above_of before (e ∷ es) h =
    let two = none_of (is_misplaced before e) (first_misplaced e.greatest es) h in
    let tests = neither (is_turned e) (int_lt before e.least) two.0 in
    (lt_of before e.least tests.1, le_of e.greatest e.least tests.0, above_of e.greatest es two.1)

of_above : (before : ℤ) (edges : List Edge) → AreAbove before edges → first_misplaced before edges ≡ None
of_above before [] h = refl
of_above before (e ∷ es) h =
    ap (λ t. cond (t || not (int_lt before e.least)) (Some 0) (option_map suc (first_misplaced e.greatest es))) (is_le e.greatest e.least (is_turned e) refl h.1)
    ∙ ap (λ t. cond (not t) (Some 0) (option_map suc (first_misplaced e.greatest es))) (is_lt before e.least (int_lt before e.least) refl h.0)
    ∙ ap (option_map suc) (of_above e.greatest es h.2)

pub order_of : (edges : List Edge) → first_out_of_order edges ≡ None → AreInOrder edges
order_of [] h = tt
order_of (e ∷ es) h =
    let two = none_of (is_turned e) (first_misplaced e.greatest es) h in
    (le_of e.greatest e.least two.0, above_of e.greatest es two.1)

pub of_order : (edges : List Edge) → AreInOrder edges → first_out_of_order edges ≡ None
of_order [] h = refl
of_order (e ∷ es) h =
    ap (λ t. cond t (Some 0) (option_map suc (first_misplaced e.greatest es))) (is_le e.greatest e.least (is_turned e) refl h.0)
    ∙ ap (option_map suc) (of_above e.greatest es h.1)
