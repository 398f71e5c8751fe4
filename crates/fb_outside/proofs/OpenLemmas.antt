-- The names of open files, and the files.
use Rattle.std.proofs.Common.{◌≡◌, ◌<◌, ◌≤◌, ℕ, List, [], ◌∷◌, Bool, true, false, cond, nat_lt, Some, None, map, filter, length, get_or, refl, ap, subst, arith}
use Rattle.std.specs.List.{position, position_or_len}
use Rattle.std.proofs.lemmas.Bool.{ltb-true, ltb-false}
use Rattle.std.proofs.lemmas.List.Sums.{passes_at_first, fails_before_first}

-- the names of the files that are left are those names that are left
pub map-filter : {A B : Type 0} (f : A → B) (test : B → Bool) → (xs : List A) → map f (filter (λ x. test (f x)) xs) ≡ filter test (map f xs)
map-filter f test [] = refl
map-filter f test (x ∷ xs) =
    elim (test (f x)) as (λ b. map f (cond b (x ∷ filter (λ y. test (f y)) xs) (filter (λ y. test (f y)) xs)) ≡ cond b (f x ∷ filter test (map f xs)) (filter test (map f xs)))
    [ true ↦ ap (λ ys. f x ∷ ys) (map-filter f test xs) | false ↦ map-filter f test xs ]

-- the element at the place passes the test
pub at_place : {X : Type 0} (test : X → Bool) → (xs : List X) (k : ℕ) (d : X) → position test xs ≡ Some k → test (get_or xs k d) ≡ true
at_place test xs k d h =
    let first = position_or_len test xs in
    elim (nat_lt first (length xs)) as (λ b. nat_lt first (length xs) ≡ b → cond b (Some first) None ≡ Some k → test (get_or xs k d) ≡ true) [
      | true ↦ λ t is.
          let same : first ≡ k = cc in
          let below : first < length xs = ltb-true first (length xs) t in
          subst (λ j. test (get_or xs j d) ≡ true) same (passes_at_first test xs d below)
      | false ↦ λ t is. absurd (cc)
    ] refl h

-- without a place no element passes it
pub no_place : {X : Type 0} (test : X → Bool) → (xs : List X) → position test xs ≡ None → (k : ℕ) (d : X) → k < length xs → test (get_or xs k d) ≡ false
no_place test xs h k d fits =
    let first = position_or_len test xs in
    elim (nat_lt first (length xs)) as (λ b. nat_lt first (length xs) ≡ b → cond b (Some first) None ≡ None → test (get_or xs k d) ≡ false) [
      | true ↦ λ t is. absurd (cc)
      | false ↦ λ t is.
          let past : length xs ≤ first = ltb-false first (length xs) t in
          fails_before_first test xs k d (omega arith)
    ] refl h
