-- The longest front whose elements pass a test.
use Rattle.std.proofs.Common.{◌≡◌, ℕ, suc, ◌+◌, ◌-◌, ◌≤◌, ◌<◌, Bool, true, false, cond, List, [], ◌∷◌, ◌++◌, length, take, drop, refl, ap, arith, eqb, length-drop}
use Rattle.std.proofs.lemmas.Bool.{and_from, and_parts}
use Rattle.std.proofs.lemmas.Bool.Decides.{nat_tests}
use Rattle.std.specs.List.{prefix_len, list_all}
use Rattle.lexing.specs.Blanks.{StopsAt}

at_test : (p : ℕ → Bool) (b : ℕ) (bs : List ℕ) (test : Bool) → p b ≡ test → (list_all p bs ≡ true → list_all p (b ∷ bs) ≡ test)
at_test p b bs true e all = rw (e, all) refl
at_test p b bs false e all = rw e refl

-- what holds of each element of a list holds of each of both parts
pub all_append : (p : ℕ → Bool) (xs ys : List ℕ) → list_all p (xs ++ ys) ≡ true → (list_all p xs ≡ true) × (list_all p ys ≡ true)
all_append p [] ys e = (refl, e)
all_append p (x ∷ xs) ys e =
    let parts = and_parts (p x) (list_all p (xs ++ ys)) e in
    let more = all_append p xs ys parts.1 in
    (and_from (p x) (list_all p xs) parts.0 more.0, more.1)

pub append_all : (p : ℕ → Bool) (xs ys : List ℕ) → list_all p xs ≡ true → list_all p ys ≡ true → list_all p (xs ++ ys) ≡ true
append_all p [] ys e f = f
append_all p (x ∷ xs) ys e f =
    let parts = and_parts (p x) (list_all p xs) e in
    and_from (p x) (list_all p (xs ++ ys)) parts.0 (append_all p xs ys parts.1 f)

front_step : (p : ℕ → Bool) (b : ℕ) (bs : List ℕ) (test : Bool) → p b ≡ test → list_all p (take (prefix_len p bs) bs) ≡ true → list_all p (take (cond test (1 + prefix_len p bs) 0) (b ∷ bs)) ≡ true
front_step p b bs true e all = let n : 1 + prefix_len p bs ≡ suc (prefix_len p bs) = omega arith in rw (n, e, all) refl
front_step p b bs false e all = refl

pub front_passes : (p : ℕ → Bool) (bs : List ℕ) → list_all p (take (prefix_len p bs) bs) ≡ true
front_passes p [] = refl
front_passes p (b ∷ bs) = front_step p b bs (p b) refl (front_passes p bs)

rest_step : (p : ℕ → Bool) (b : ℕ) (bs : List ℕ) (test : Bool) → p b ≡ test → StopsAt p (drop (prefix_len p bs) bs) → StopsAt p (drop (cond test (1 + prefix_len p bs) 0) (b ∷ bs))
rest_step p b bs true e stops = let n : 1 + prefix_len p bs ≡ suc (prefix_len p bs) = omega arith in rw n stops
rest_step p b bs false e stops = e

pub rest_stops : (p : ℕ → Bool) (bs : List ℕ) → StopsAt p (drop (prefix_len p bs) bs)
rest_stops p [] = tt
rest_stops p (b ∷ bs) = rest_step p b bs (p b) refl (rest_stops p bs)

stopped_here : (p : ℕ → Bool) (rest : List ℕ) → StopsAt p rest → prefix_len p rest ≡ 0
stopped_here p [] stops = refl
stopped_here p (b ∷ bs) stops = rw stops refl

-- the other way: a front that passes, and a rest that stops
pub prefix_len-cut : (p : ℕ → Bool) (front rest : List ℕ) → list_all p front ≡ true → StopsAt p rest → prefix_len p (front ++ rest) ≡ length front
prefix_len-cut p [] rest all stops = stopped_here p rest stops
prefix_len-cut p (b ∷ bs) rest all stops =
    let parts = and_parts (p b) (list_all p bs) all in
    let more = prefix_len-cut p bs rest parts.1 stops in
    let head : p b ≡ true = parts.0 in
    let n : 1 + length bs ≡ suc (length bs) = omega arith in
    rw (head, more) n

-- a front of some bytes leaves a shorter rest
pub dropped_less : (n : ℕ) (text rest : List ℕ) → eqb n 0 ≡ false → n ≤ length text → drop n text ≡ rest → length rest < length text
dropped_less n text rest some within e =
    let same : length (drop n text) ≡ length rest = ap length e in
    let cut : length (drop n text) ≡ length text - n = length-drop n text in
    grind (arith, nat_tests)
