-- A list of answers: all their values, or the first that is missing.
use Rattle.std.specs.Prelude.{◌≡◌, ℕ, ◌+◌, List, [], ◌∷◌, ◌++◌, Result, Ok, Err, length, map}

-- a list with these in front, where there is a list
abbrev pub behind : {A E : Type 0} → List A → Result (List A) E → Result (List A) E
behind front (Ok rest) = Ok (front ++ rest)
behind front (Err e) = Err e

-- all the values, or the first that is missing: its number, counted from n, and why it is
unfoldable pub all_or_first : {A E : Type 0} → ℕ → List (Result A E) → Result (List A) (ℕ × E)
all_or_first n [] = Ok []
all_or_first n (Ok value ∷ rest) = behind (value ∷ []) (all_or_first (n + 1) rest)
all_or_first n (Err why ∷ rest) = Err (n, why)

-- the values come one after the other, and then, at the place counted from n, the first that is missing
pub record StopsAt {A E : Type 0} (n : ℕ) (all : List (Result A E)) (place : ℕ) (why : E) : Type 0 where
  pub before : List A
  pub after : List (Result A E)
  pub split : all ≡ map Ok before ++ Err why ∷ after
  pub counted : place ≡ n + length before
