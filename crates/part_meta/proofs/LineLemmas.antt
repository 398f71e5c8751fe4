-- The lines of a catalog.
use Rattle.std.proofs.Common.{◌≡◌, ◌+◌, ◌<◌, ℕ, List, [], ◌∷◌, ◌++◌, length, get_or, take, map, sym, ap, refl, ◌∙◌, append_assoc}
use Rattle.std.specs.List.{flat_map}
use Rattle.std.proofs.lemmas.List.{flat_map_more, take_more}
use Rattle.part_meta.specs.CatalogText.{part_line}
use Rattle.part_meta.specs.Lines.{joined}

-- one more line
pub lines-step : (head xs : List ℕ) (i : ℕ) (before now : List ℕ) → i < length xs → before ≡ head ++ flat_map part_line (take i xs)
    → now ≡ before ++ part_line (get_or xs i 0) → now ≡ head ++ flat_map part_line (take (i + 1) xs)
lines-step head xs i before now h old is =
    is ∙ ap (λ b. b ++ part_line (get_or xs i 0)) old ∙ flat_map_more part_line head (take i xs) (get_or xs i 0)
    ∙ ap (λ t. head ++ flat_map part_line t) (sym (take_more xs i 0 h))

-- a catalog's pieces
pub catalog-joined : (a b s n f : List ℕ) → (((a ++ b) ++ s) ++ 10 ∷ []) ++ (n ++ f) ≡ a ++ (((b ++ s) ++ 10 ∷ []) ++ (n ++ f))
catalog-joined a b s n f = simp append_assoc

-- the text of lines that are made one by one
pub joined-map : {A : Type 0} (f : A → List ℕ) (xs : List A) → joined (map f xs) ≡ flat_map f xs
joined-map f [] = refl
joined-map f (x ∷ xs) = ap (λ t. f x ++ t) (joined-map f xs)
