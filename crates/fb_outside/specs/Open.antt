-- The names of open files, that of the file which was used last at the end.
use Rattle.std.specs.Prelude.{◌≡◌, ◌⊎◌, ◌-◌, ℕ, List, [], ◌∷◌, ◌++◌, drop, filter, length, not, bytes_eq}

-- the names but this one
abbrev pub without : List ℕ → List (List ℕ) → List (List ℕ)
without name names = filter (λ n. not (bytes_eq n name)) names

-- the last seven names: with one more there are eight
abbrev pub last_seven : List (List ℕ) → List (List ℕ)
last_seven names = drop (length names - 7) names

-- the name stands behind the seven before it, or, where memory was wanting, isn't kept
abbrev pub KeepsLast : List (List ℕ) → List (List ℕ) → List ℕ → Type 0
KeepsLast old new name = (new ≡ last_seven old ++ name ∷ []) ⊎ (new ≡ last_seven old)
