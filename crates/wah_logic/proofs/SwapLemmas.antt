-- The operation with its operands swapped.
use Rattle.std.proofs.Common.{◌≡◌, Bool, List, [], ◌∷◌, refl, ap}
use Rattle.wah_logic.specs.Logic.{each_place}

pub each_swapped : (op : Bool → Bool → Bool) (x y : List Bool) → each_place (λ p q. op q p) x y ≡ each_place op y x
unfolding each_place
each_swapped op [] [] = refl
each_swapped op [] (b ∷ y) = refl
each_swapped op (a ∷ x) [] = refl
each_swapped op (a ∷ x) (b ∷ y) = ap (λ l. op b a ∷ l) (each_swapped op x y)
