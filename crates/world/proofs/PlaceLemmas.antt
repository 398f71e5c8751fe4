-- What stands at the places of a list.
use Rattle.std.proofs.Common.{◌≡◌, ◌<◌, nat_lt, ℕ, Bool, true, false, List, Some, All, refl, subst, arith, get_or}
use Rattle.std.specs.List.{AllPairs, slice_get}
use Rattle.std.proofs.lemmas.Bool.Decides.{nat_tests}
use Rattle.std.proofs.lemmas.Option.{get_or_from_slice_get, slice_get_within}

pub All-at : {X : Type 0} (P : X → Type 0) (xs : List X) (i : ℕ) (x : X) → slice_get xs i ≡ Some x → All P xs → P x
All-at P xs i x e h = subst P (get_or_from_slice_get xs i x x e) (h i x (slice_get_within xs i x e))

pub AllPairs-at : {X : Type 0} (R : X → X → Type 0) (xs : List X) (i j : ℕ) (x y : X) → slice_get xs i ≡ Some x → slice_get xs j ≡ Some y
    → i < j → AllPairs R xs → R x y
AllPairs-at R xs i j x y first second before h =
    subst (λ a. R a y) (get_or_from_slice_get xs i x x first)
    (subst (R (get_or xs i x)) (get_or_from_slice_get xs j y x second) (h i j x before (slice_get_within xs j y second)))

-- neither is before the other
pub same_place : (i j : ℕ) → (i < j → ⊥) → (j < i → ⊥) → i ≡ j
same_place i j less more = by (nat_lt i j) (nat_lt j i) refl refl
  where
    by : (a b : Bool) → nat_lt i j ≡ a → nat_lt j i ≡ b → i ≡ j
    by true b h k = absurd (less (grind (arith, nat_tests)))
    by false true h k = absurd (more (grind (arith, nat_tests)))
    by false false h k = grind (arith, nat_tests)
