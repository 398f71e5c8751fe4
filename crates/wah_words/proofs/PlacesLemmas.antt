-- Lists of truth values as numbers, and back.
use Rattle.std.proofs.Common.{◌≡◌, ℕ, zero, suc, ◌+◌, ◌*◌, ◌/◌, ◌%◌, ◌^◌, ◌<◌, Bool, true, false, cond, eqb, List, [], ◌∷◌, ◌++◌, length, replicate, refl, sym, ap, ◌∙◌, arith, length-append, lit<}
use Rattle.std.proofs.lemmas.List.{length-replicate}
use Rattle.std.proofs.lemmas.Nat.{pow_pos, mod-pow-add, mod_below, div-mul-add}
use Rattle.std.proofs.Math.Nat.{pow-suc, mul-add-div_right, div-add-mod', mod-eq_of_lt}
use Rattle.std.proofs.lemmas.Grind.{pow_more}
use Rattle.std.specs.Int.{from_bool}
use Rattle.wah_words.specs.Places.{places, number}

pub length-places : (c n : ℕ) → length (places c n) ≡ c
unfolding places
length-places zero n = refl
length-places (suc c) n = ap (λ k. suc k) (length-places c n)

pub number_below : (v : List Bool) → number v < 2 ^ length v
number_below [] = lit< tt
number_below (true ∷ v) = rw (pow-suc 2 (length v)) (omega (arith, number_below v))
number_below (false ∷ v) = rw (pow-suc 2 (length v)) (omega (arith, number_below v))

-- a place is 1 or 0
one_place : (p x : ℕ) → x < 2 → cond (eqb x 1) p 0 ≡ x * p
one_place p zero h = omega arith
one_place p (suc zero) h = omega arith
one_place p (suc (suc x)) h = absurd (omega arith)

mod_next : (c n : ℕ) → n % 2 ^ suc c ≡ (n / 2 ^ c % 2) * 2 ^ c + n % 2 ^ c
mod_next c n = let e : suc c ≡ 1 + c = omega arith in rw e (mod-pow-add n 1 c)

pub number-places : (c n : ℕ) → number (places c n) ≡ n % 2 ^ c
unfolding places
number-places zero n = omega arith
number-places (suc c) n =
    let low : n / 2 ^ c % 2 < 2 = mod_below (n / 2 ^ c) 2 (lit< tt) in
    let one = one_place (2 ^ c) (n / 2 ^ c % 2) low in
    rw (length-places c n, number-places c n, mod_next c n, one) refl

pub number-places_below : (c n : ℕ) → n < 2 ^ c → number (places c n) ≡ n
number-places_below c n h = number-places c n ∙ mod-eq_of_lt h

high_halves : (m p n q : ℕ) → q ≡ p * 2 → 0 < p → (m * q + n) / p ≡ m * 2 + n / p
high_halves m p n q e h =
    let regroup : m * q + n ≡ (m * 2) * p + n = rw e (omega arith) in
    ap (λ x. x / p) regroup ∙ mul-add-div_right h (m * 2) n

-- higher places do not count
pub places-add : (c m n : ℕ) → places c (m * 2 ^ c + n) ≡ places c n
unfolding places
places-add zero m n = refl
places-add (suc c) m n =
    let halves : (m * 2 ^ suc c + n) / 2 ^ c ≡ m * 2 + n / 2 ^ c = high_halves m (2 ^ c) n (2 ^ suc c) (pow-suc 2 c) (pow_pos c) in
    let parity : (m * 2 + n / 2 ^ c) % 2 ≡ n / 2 ^ c % 2 = omega arith in
    let regroup : m * 2 ^ suc c + n ≡ (m * 2) * 2 ^ c + n = rw (pow-suc 2 c) (omega arith) in
    let rest : places c (m * 2 ^ suc c + n) ≡ places c n = ap (places c) regroup ∙ places-add c (m * 2) n in
    rw (halves, parity, rest) refl

pub places-mod : (c n : ℕ) → places c (n % 2 ^ c) ≡ places c n
places-mod c n =
    let split : n ≡ n / 2 ^ c * 2 ^ c + n % 2 ^ c = sym (div-add-mod' n (2 ^ c)) in
    sym (ap (places c) split ∙ places-add c (n / 2 ^ c) (n % 2 ^ c))

head_true : (p r : ℕ) → r < p → (p + r) / p ≡ 1
head_true p r h = let e : p + r ≡ 1 * p + r = omega arith in ap (λ x. x / p) e ∙ div-mul-add 1 p r h

head_false : (p r : ℕ) → r < p → (0 + r) / p ≡ 0
head_false p r h = let e : 0 + r ≡ 0 * p + r = omega arith in ap (λ x. x / p) e ∙ div-mul-add 0 p r h

-- the places of the number of a list are the list
pub places-number : (v : List Bool) → places (length v) (number v) ≡ v
unfolding places
places-number [] = refl
places-number (true ∷ v) =
    let head : (2 ^ length v + number v) / 2 ^ length v ≡ 1 = head_true (2 ^ length v) (number v) (number_below v) in
    let regroup : 2 ^ length v + number v ≡ 1 * 2 ^ length v + number v = omega arith in
    let rest : places (length v) (2 ^ length v + number v) ≡ v = ap (places (length v)) regroup ∙ places-add (length v) 1 (number v) ∙ places-number v in
    rw (head, rest) refl
places-number (false ∷ v) =
    let head : (0 + number v) / 2 ^ length v ≡ 0 = head_false (2 ^ length v) (number v) (number_below v) in
    let regroup : 0 + number v ≡ number v = omega arith in
    let rest : places (length v) (0 + number v) ≡ v = ap (places (length v)) regroup ∙ places-number v in
    rw (head, rest) refl

pub number-replicate_false : (c : ℕ) → number (replicate c false) ≡ 0
number-replicate_false zero = refl
number-replicate_false (suc c) = omega (arith, number-replicate_false c)

pub number-replicate_true : (c : ℕ) → number (replicate c true) + 1 ≡ 2 ^ c
number-replicate_true zero = refl
number-replicate_true (suc c) = rw (length-replicate c true, pow-suc 2 c) (omega (arith, number-replicate_true c))

-- the places of a number that is known to be that of a list
pub places-of_number : (c n : ℕ) (v : List Bool) → length v ≡ c → number v ≡ n → places c n ≡ v
places-of_number c n v l e = rw (← l, ← e) (places-number v)

pub places-zeros : (c : ℕ) → places c 0 ≡ replicate c false
places-zeros c = places-of_number c 0 (replicate c false) (length-replicate c false) (number-replicate_false c)

pub places-ones : (c n : ℕ) → n + 1 ≡ 2 ^ c → places c n ≡ replicate c true
places-ones c n e = places-of_number c n (replicate c true) (length-replicate c true) (omega (arith, number-replicate_true c, e))

pub number-push : (v : List Bool) (b : Bool) → number (v ++ b ∷ []) ≡ 2 * number v + from_bool b
number-push [] true = refl
number-push [] false = refl
number-push (true ∷ v) b = rw (length-append v (b ∷ []), pow_more 2 (length v)) (omega (arith, number-push v b))
number-push (false ∷ v) b = omega (arith, number-push v b)

-- one place more at the low end
pub places-push : (c n : ℕ) (b : Bool) → n < 2 ^ c → places (c + 1) (2 * n + from_bool b) ≡ places c n ++ b ∷ []
places-push c n b h =
    places-of_number (c + 1) (2 * n + from_bool b) (places c n ++ b ∷ []) (length-append (places c n) (b ∷ []) ∙ ap (λ k. k + 1) (length-places c n)) (number-push (places c n) b ∙ ap (λ k. 2 * k + from_bool b) (number-places_below c n h))
