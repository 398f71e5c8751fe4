-- Vectors of what is said of each row: their rows, how many there are, and operations on two.
use Rattle.std.proofs.Common.{◌≡◌, ℕ, zero, suc, ◌+◌, Bool, true, false, cond, List, [], ◌∷◌, length, map, get_or, refl, sym, ap, ◌∙◌, arith}
use Rattle.std.specs.List.{count_by, filter, range_with_len}
use Rattle.std.proofs.lemmas.List.Sums.{length-filter, sum_by-cons}
use Rattle.wah_iter.specs.Rows.{rows_from}
use Rattle.wah_logic.specs.Logic.{and, each_place, ones}

pub each_place-map : {X : Type 0} (op : Bool → Bool → Bool) (f g : X → Bool) (xs : List X) → each_place op (map f xs) (map g xs) ≡ map (λ x. op (f x) (g x)) xs
unfolding each_place
each_place-map op f g [] = refl
each_place-map op f g (x ∷ xs) = ap (λ l. op (f x) (g x) ∷ l) (each_place-map op f g xs)

pub map-map : {X Y Z : Type 0} (f : Y → Z) (g : X → Y) (xs : List X) → map f (map g xs) ≡ map (λ x. f (g x)) xs
map-map f g [] = refl
map-map f g (x ∷ xs) = ap (λ l. f (g x) ∷ l) (map-map f g xs)

pub map_same : {X Y : Type 0} (f g : X → Y) (xs : List X) → ((x : X) → f x ≡ g x) → map f xs ≡ map g xs
map_same f g [] h = refl
map_same f g (x ∷ xs) h = ap (λ y. y ∷ map f xs) (h x) ∙ ap (λ l. g x ∷ l) (map_same f g xs h)

here : (b : Bool) (place : ℕ) (v : List Bool) → rows_from place (b ∷ v) ≡ cond b (place ∷ rows_from (place + 1) v) (rows_from (place + 1) v)
unfolding rows_from
here true place v = refl
here false place v = refl

pub rows_from-map : (p : ℕ → Bool) (first n : ℕ) → rows_from first (map p (range_with_len first n)) ≡ filter p (range_with_len first n)
unfolding rows_from
rows_from-map p first zero = refl
rows_from-map p first (suc n) =
    here (p first) first (map p (range_with_len (first + 1) n)) ∙ ap (λ l. cond (p first) (first ∷ l) l) (rows_from-map p (first + 1) n)

pub count_by-map : {X : Type 0} (p : X → Bool) (xs : List X) → count_by (λ b. b) (map p xs) ≡ count_by p xs
count_by-map p [] = refl
count_by-map p (x ∷ xs) =
    sum_by-cons (λ b. cond b 1 0) (p x) (map p xs) ∙ ap (λ n. cond (p x) 1 0 + n) (count_by-map p xs) ∙ sym (sum_by-cons (λ y. cond (p y) 1 0) x xs)

pub count_by-filter : {X : Type 0} (p : X → Bool) (xs : List X) → count_by (λ b. b) (map p xs) ≡ length (filter p xs)
count_by-filter p xs = count_by-map p xs ∙ sym (length-filter p xs)

-- a vector without rows has none in common with another
pub none_in_common : (v w : List Bool) → ones v ≡ 0 → length v ≡ length w → each_place and v w ≡ v
unfolding each_place
none_in_common [] w h k = refl
none_in_common (x ∷ v) [] h k = absurd (omega arith)
none_in_common (true ∷ v) (y ∷ w) h k = let one = sum_by-cons (λ b. cond b 1 0) true v in absurd (omega (arith, one, h))
none_in_common (false ∷ v) (y ∷ w) h k =
    let one = sum_by-cons (λ b. cond b 1 0) false v in
    ap (λ l. false ∷ l) (none_in_common v w (omega (arith, one, h)) (omega arith))

-- a row of both is one of the first
pub row_of_first : (v w : List Bool) (k : ℕ) → get_or (each_place and v w) k false ≡ true → get_or v k false ≡ true
unfolding each_place
row_of_first [] w k h = h
row_of_first (x ∷ v) [] k h = absurd (cc)
row_of_first (true ∷ v) (y ∷ w) zero h = refl
row_of_first (false ∷ v) (y ∷ w) zero h = absurd (cc)
row_of_first (x ∷ v) (y ∷ w) (suc k) h = row_of_first v w k h
