-- The complement of a run.
use Rattle.std.proofs.Common.{◌≡◌, ℕ, zero, suc, ◌+◌, ◌-◌, ◌*◌, ◌%◌, ◌^◌, ◌<◌, ◌≤◌, Bool, true, false, not, map, List, [], ◌∷◌, ◌++◌, length, replicate, refl, sym, ap, ◌∙◌, arith, append_assoc, length-append}
use Rattle.std.proofs.lemmas.List.{length-map, map-append, append-nil}
use Rattle.std.proofs.Math.Nat.{pow-suc}
use Rattle.std.proofs.Math.Pow.{pow_mono}
use Rattle.wah_words.specs.Places.{places, number}
use Rattle.wah_words.proofs.PlacesLemmas.{length-places, number-places_below, places-of_number}

number_not : (v : List Bool) → number (map not v) + number v + 1 ≡ 2 ^ length v
number_not [] = refl
number_not (true ∷ v) = rw (pow-suc 2 (length v)) (omega (arith, number_not v))
number_not (false ∷ v) = rw (length-map v not, pow-suc 2 (length v)) (omega (arith, number_not v))

pub places_not : (c m n : ℕ) → m + n + 1 ≡ 2 ^ c → places c m ≡ map not (places c n)
places_not c m n e =
    let below : n < 2 ^ c = omega arith in
    let l = length-places c n in
    places-of_number c m (map not (places c n)) (length-map (places c n) not ∙ l) (omega (arith, number_not (places c n), number-places_below c n below, ap (λ k. 2 ^ k) l))

pub replicate_not : (n : ℕ) (b : Bool) → replicate n (not b) ≡ map not (replicate n b)
replicate_not zero b = refl
replicate_not (suc n) b = ap (λ l. not b ∷ l) (replicate_not n b)

pub tail_not : (count bits : ℕ) → count < 31 → bits < 2 ^ count → places count (1 * 2 ^ count % 4294967296 - 1 - bits) ≡ map not (places count bits)
tail_not count bits few fits =
    let few' : count ≤ 31 = omega arith in
    let most : 2 ^ count ≤ 2 ^ 31 = pow_mono few' in
    let same : 1 * 2 ^ count % 4294967296 ≡ 2 ^ count = omega arith in
    rw same (places_not count (2 ^ count - 1 - bits) bits (omega arith))

-- so much is out and still to come
pub not_before : (out x a : List Bool) → out ++ map not x ≡ map not a → length out + length x ≡ length a
not_before out x a e = omega (arith, ap length e, length-append out (map not x), length-map x not, length-map a not)

pub not_grows : (out x run rest a : List Bool) → out ++ map not x ≡ map not a → x ≡ run ++ rest → (out ++ map not run) ++ map not rest ≡ map not a
not_grows out x run rest a e h = append_assoc out (map not run) (map not rest) ∙ ap (λ l. out ++ l) (sym (map-append not run rest)) ∙ ap (λ l. out ++ map not l) (sym h) ∙ e

pub not_ends : (out x a : List Bool) → x ≡ [] → out ++ map not x ≡ map not a → out ≡ map not a
not_ends out x a e h = sym (append-nil out) ∙ ap (λ l. out ++ map not l) (sym e) ∙ h
