-- How many places are true.
use Rattle.std.proofs.Common.{◌≡◌, ℕ, zero, suc, ◌+◌, ◌*◌, ◌/◌, ◌%◌, ◌^◌, ◌<◌, Bool, cond, eqb, List, [], ◌∷◌, ◌++◌, sym, ap, ◌∙◌, arith}
use Rattle.std.specs.Prelude.{count_ones}
use Rattle.std.proofs.lemmas.List.Sums.{sum_by-append}
use Rattle.std.proofs.lemmas.Nat.{pow_pos, mod_below}
use Rattle.std.proofs.Math.Nat.{pow-suc, div-add-mod'}
use native.Mathlib.Nat.{div-lt_iff_lt-mul}
use lib.Count.{ones_cat, ones-ones}
use Rattle.wah_words.specs.Places.{places}
use Rattle.wah_words.proofs.PlacesLemmas.{places-mod}
use Rattle.wah_logic.specs.Logic.{ones}

pub ones-append : (v w : List Bool) → ones (v ++ w) ≡ ones v + ones w
ones-append v w = sum_by-append (λ b. cond b 1 0) v w

count_digit : (d : ℕ) → d < 2 → count_ones d ≡ ones (eqb (d % 2) 1 ∷ [])
count_digit zero h = ones-ones 0
count_digit (suc zero) h = ones-ones 1
count_digit (suc (suc d)) h = absurd (omega arith)

count_none : (n : ℕ) → n < 1 → count_ones n ≡ 0
count_none zero h = ones-ones 0
count_none (suc n) h = absurd (omega arith)

high_digit : (c n : ℕ) → n < 2 ^ suc c → n / 2 ^ c < 2
high_digit c n h =
    let h' : n < 2 * 2 ^ c = omega (arith, h, pow-suc 2 c) in
    (div-lt_iff_lt-mul (pow_pos c)).1 h'

-- the places of a number that are true are its digits that are 1
pub count_places : (c n : ℕ) → n < 2 ^ c → count_ones n ≡ ones (places c n)
unfolding places
count_places zero n h = count_none n h
count_places (suc c) n h =
    let d = n / 2 ^ c in
    let r = n % 2 ^ c in
    let low : r < 2 ^ c = mod_below n (2 ^ c) (pow_pos c) in
    let rest : count_ones r ≡ ones (places c n) = count_places c r low ∙ ap ones (places-mod c n) in
    ap count_ones (sym (div-add-mod' n (2 ^ c))) ∙ ones_cat c d r low ∙ ap (λ k. k + count_ones r) (count_digit d (high_digit c n h)) ∙ ap (λ k. ones (eqb (d % 2) 1 ∷ []) + k) rest ∙ sym (ones-append (eqb (d % 2) 1 ∷ []) (places c n))
