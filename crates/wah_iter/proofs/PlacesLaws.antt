-- Places of joined numbers, one place, and how many places are set.
use Rattle.std.proofs.Common.{◌≡◌, ℕ, zero, suc, ◌+◌, ◌-◌, ◌*◌, ◌/◌, ◌%◌, ◌^◌, ◌<◌, ◌≤◌, Bool, false, cond, eqb, List, [], ◌∷◌, ◌++◌, length, get_or, refl, sym, ap, ◌∙◌, arith, lit<, count_by, zero-add, take, drop}
use Rattle.std.proofs.lemmas.List.Sums.{sum_by-append}
use Rattle.std.proofs.lemmas.List.{drop_at, take_at}
use Rattle.std.specs.Int.RustNames.{count_ones}
use Rattle.std.proofs.lemmas.Nat.{pow_pos, shr-shr, shr_high, mod_below, ones_cat, mod-pow-add, shr_split}
use Rattle.std.proofs.Math.Nat.{mod-eq_of_lt}
use Rattle.wah_words.specs.Places.{places}
use Rattle.wah_words.proofs.PlacesLemmas.{length-places, places-add, places-mod}

-- the places of a number before those of another
pub places-cat : (k c q r : ℕ) → r < 2 ^ c → places (k + c) (q * 2 ^ c + r) ≡ places k q ++ places c r
unfolding places
places-cat zero c q r h = let e : 0 + c ≡ c = omega arith in rw e (places-add c q r)
places-cat (suc k) c q r h =
    let e : suc k + c ≡ suc (k + c) = omega arith in
    let e2 : k + c ≡ c + k = omega arith in
    let high : (q * 2 ^ c + r) / 2 ^ (k + c) ≡ q / 2 ^ k = ap (λ x. (q * 2 ^ c + r) / 2 ^ x) e2 ∙ sym (shr-shr (q * 2 ^ c + r) c k) ∙ ap (λ x. x / 2 ^ k) (shr_high q c r h) in
    rw e (rw (high, places-cat k c q r h) refl)

-- a number's places in two parts
pub places-split : (k c n : ℕ) → places (k + c) n ≡ places k (n / 2 ^ c) ++ places c (n % 2 ^ c)
places-split k c n =
    ap (places (k + c)) (sym (shr_split n c)) ∙ places-cat k c (n / 2 ^ c) (n % 2 ^ c) (mod_below n (2 ^ c) (pow_pos c))

-- one place
pub get_or-places : (c n i : ℕ) → i < c → get_or (places c n) i false ≡ eqb (n / 2 ^ (c - 1 - i) % 2) 1
unfolding places
get_or-places zero n i h = absurd (omega arith)
get_or-places (suc c) n zero h = let e : suc c - 1 - 0 ≡ c = omega arith in rw e refl
get_or-places (suc c) n (suc i) h = let e : suc c - 1 - suc i ≡ c - 1 - i = omega arith in rw e (get_or-places c n i (omega arith))

pub take-drop_parts : (a b c : List Bool) (n m : ℕ) → length a ≡ n → length b ≡ m → take m (drop n (a ++ (b ++ c))) ≡ b
take-drop_parts a b c n m e f = ap (take m) (drop_at a (b ++ c) n e) ∙ take_at b c m f

-- some of a number's places
pub part-places : (f c r n : ℕ) → take c (drop f (places (f + (c + r)) n)) ≡ places c (n / 2 ^ r % 2 ^ c)
part-places f c r n =
    let low : places (c + r) (n % 2 ^ (c + r)) ≡ places c (n / 2 ^ r) ++ places r (n % 2 ^ r) = places-mod (c + r) n ∙ places-split c r n in
    let all : places (f + (c + r)) n ≡ places f (n / 2 ^ (c + r)) ++ (places c (n / 2 ^ r) ++ places r (n % 2 ^ r)) = places-split f (c + r) n ∙ ap (λ l. places f (n / 2 ^ (c + r)) ++ l) low in
    ap (λ l. take c (drop f l)) all ∙ take-drop_parts (places f (n / 2 ^ (c + r))) (places c (n / 2 ^ r)) (places r (n % 2 ^ r)) f c (length-places f (n / 2 ^ (c + r))) (length-places c (n / 2 ^ r)) ∙ sym (places-mod c (n / 2 ^ r))

pub part-places_of : (t f c n : ℕ) → f + c ≤ t → take c (drop f (places t n)) ≡ places c (n / 2 ^ (t - f - c) % 2 ^ c)
part-places_of t f c n h =
    let e : t ≡ f + (c + (t - f - c)) = omega arith in
    ap (λ x. take c (drop f (places x n))) e ∙ part-places f c (t - f - c) n
