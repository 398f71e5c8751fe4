-- Lists up to a place, and the item there.
use Rattle.std.proofs.Common.{◌≡◌, ℕ, zero, suc, ◌+◌, ◌*◌, ◌≤◌, ◌||◌, Bool, true, false, IsTrue, List, [], ◌∷◌, ◌++◌, Some, Result, Ok, Err, All, length, map, take, drop, get_or, refl, sym, ap, subst, ◌∙◌, arith}
use Rattle.std.specs.Prelude.{IsErr, IsOk, slice_get}
use Rattle.std.specs.List.{AllByRecursion, flat_map, list_any, sum_by}
use Rattle.std.proofs.Math.Nat.{mul-le-mul_left}
use Rattle.std.proofs.lemmas.List.{take_more, map-append}
use Rattle.std.proofs.lemmas.List.Concat.{flat_map-append}
use Rattle.std.proofs.lemmas.List.Elements.{All-from_recursion}
use Rattle.std.proofs.lemmas.List.Sums.{sum_by-append, sum_by-cons}
use Rattle.std.proofs.lemmas.Option.{get_or_from_slice_get, slice_get_within}

-- with the item at a place
pub taken_more : {X : Type 0} (xs : List X) (i : ℕ) (x : X) → slice_get xs i ≡ Some x → take (i + 1) xs ≡ take i xs ++ x ∷ []
taken_more xs i x h = take_more xs i x (slice_get_within xs i x h) ∙ ap (λ y. take i xs ++ y ∷ []) (get_or_from_slice_get xs i x x h)

pub map_taken : {X Y : Type 0} (f : X → Y) (xs : List X) (i : ℕ) (x : X) → slice_get xs i ≡ Some x → map f (take (i + 1) xs) ≡ map f (take i xs) ++ f x ∷ []
map_taken f xs i x h = ap (map f) (taken_more xs i x h) ∙ map-append f (take i xs) (x ∷ [])

append_none : {X : Type 0} (xs : List X) → xs ++ [] ≡ xs
append_none [] = refl
append_none (x ∷ xs) = ap (λ l. x ∷ l) (append_none xs)

pub flat_map_taken : {X Y : Type 0} (f : X → List Y) (xs : List X) (i : ℕ) (x : X) → slice_get xs i ≡ Some x → flat_map f (take (i + 1) xs) ≡ flat_map f (take i xs) ++ f x
flat_map_taken f xs i x h = ap (flat_map f) (taken_more xs i x h) ∙ flat_map-append f (take i xs) (x ∷ []) ∙ ap (λ l. flat_map f (take i xs) ++ l) (append_none (f x))

pub sum_by_taken : {X : Type 0} (f : X → ℕ) (xs : List X) (i : ℕ) (x : X) → slice_get xs i ≡ Some x → sum_by f (take (i + 1) xs) ≡ sum_by f (take i xs) + f x
sum_by_taken f xs i x h =
    let one : sum_by f (x ∷ []) ≡ f x = sum_by-cons f x [] ∙ omega arith in
    ap (sum_by f) (taken_more xs i x h) ∙ sum_by-append f (take i xs) (x ∷ []) ∙ ap (λ n. sum_by f (take i xs) + n) one

-- what comes behind the first places
pub front_and_rest : {X : Type 0} (xs : List X) (i : ℕ) → take i xs ++ drop i xs ≡ xs
front_and_rest [] zero = refl
front_and_rest [] (suc i) = refl
front_and_rest (x ∷ xs) zero = refl
front_and_rest (x ∷ xs) (suc i) = ap (λ l. x ∷ l) (front_and_rest xs i)

pub flat_map_front : {X Y : Type 0} (f : X → List Y) (xs : List X) (i : ℕ) → flat_map f (take i xs) ++ flat_map f (drop i xs) ≡ flat_map f xs
flat_map_front f xs i = sym (flat_map-append f (take i xs) (drop i xs)) ∙ ap (flat_map f) (front_and_rest xs i)

pub sum_by_front : {X : Type 0} (f : X → ℕ) (xs : List X) (i : ℕ) → sum_by f (take i xs) ≤ sum_by f xs
sum_by_front f xs i =
    let whole : sum_by f xs ≡ sum_by f (take i xs) + sum_by f (drop i xs) = sym (ap (sum_by f) (front_and_rest xs i)) ∙ sum_by-append f (take i xs) (drop i xs) in
    omega (arith, whole)

pub all_taken : {X : Type 0} (xs : List X) (i : ℕ) → length xs ≤ i → take i xs ≡ xs
all_taken [] zero h = refl
all_taken [] (suc i) h = refl
all_taken (x ∷ xs) zero h = absurd (omega arith)
all_taken (x ∷ xs) (suc i) h = ap (λ l. x ∷ l) (all_taken xs i (omega arith))

-- the item at a place
pub all_at : {X : Type 0} (P : X → Type 0) (xs : List X) (i : ℕ) (x : X) → AllByRecursion P xs → slice_get xs i ≡ Some x → P x
all_at P [] i x all h = absurd cc
all_at P (y ∷ ys) zero x all h = let same : y ≡ x = cc in subst P same all.0
all_at P (y ∷ ys) (suc i) x all h = all_at P ys i x all.1 h

or_left : (a b : Bool) → IsTrue a → IsTrue (a || b)
or_left true b h = h
or_left false b h = absurd cc

or_right : (a b : Bool) → IsTrue b → IsTrue (a || b)
or_right true b h = refl
or_right false b h = h

pub any_at : {X : Type 0} (p : X → Bool) (xs : List X) (i : ℕ) (x : X) → slice_get xs i ≡ Some x → IsTrue (p x) → IsTrue (list_any p xs)
any_at p [] i x h k = absurd cc
any_at p (y ∷ ys) zero x h k = let same : x ≡ y = cc in or_left (p y) (list_any p ys) (subst (λ z. IsTrue (p z)) same k)
any_at p (y ∷ ys) (suc i) x h k = or_right (p y) (list_any p ys) (any_at p ys i x h k)

or_weaker : (a b c d : Bool) → (IsTrue a → IsTrue c) → (IsTrue b → IsTrue d) → IsTrue (a || b) → IsTrue (c || d)
or_weaker true b c d f g h = or_left c d (f refl)
or_weaker false b c d f g h = or_right c d (g h)

pub any_weaker : {X : Type 0} (p q : X → Bool) → ((x : X) → IsTrue (p x) → IsTrue (q x)) → (xs : List X) → IsTrue (list_any p xs) → IsTrue (list_any q xs)
any_weaker p q f [] h = h
any_weaker p q f (x ∷ xs) h = or_weaker (p x) (list_any p xs) (q x) (list_any q xs) (f x) (any_weaker p q f xs) h

pub first_holds : (a b : Bool) → IsTrue a → IsTrue (a || b)
first_holds a b h = or_left a b h

pub map_at : {X Y : Type 0} (f : X → Y) (xs : List X) (i : ℕ) (x : X) (d : Y) → slice_get xs i ≡ Some x → get_or (map f xs) i d ≡ f x
map_at f [] i x d h = absurd cc
map_at f (y ∷ ys) zero x d h = let same : y ≡ x = cc in ap f same
map_at f (y ∷ ys) (suc i) x d h = map_at f ys i x d h

pub one_long : {X : Type 0} (P : X → Type 0) (x : X) → P x → All P (x ∷ [])
one_long P x h = All-from_recursion P (x ∷ []) (h, tt)

-- ---- answers of calls

pub err_not_ok : {A E : Type 0} (r : Result A E) → IsErr r → IsOk r → ⊥
err_not_ok (Ok value) h k = cc
err_not_ok (Err fault) h k = cc

-- ---- steps

pub mul_more : (g a b : ℕ) → a ≤ b → 2 * g * a ≤ 2 * g * b
mul_more g a b h = mul-le-mul_left (2 * g) h
