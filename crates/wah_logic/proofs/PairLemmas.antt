-- Fronts of two vectors.
use Rattle.std.proofs.Common.{◌≡◌, ℕ, ◌+◌, ◌-◌, ◌*◌, ◌^◌, ◌<◌, ◌≤◌, Bool, cond, List, [], ◌++◌, length, replicate, refl, sym, ap, ◌∙◌, arith, length-append}
use Rattle.std.proofs.lemmas.List.{append-nil}
use Rattle.wah_words.specs.Places.{places}
use Rattle.wah_words.proofs.PlacesLemmas.{length-places}
use Rattle.wah_logic.specs.declared.lockstep.Pair.{Pair}
use Rattle.wah_logic.specs.declared.lockstep.Pair.TheVariants as pairs
use Rattle.wah_logic.specs.Pairs.{IsPair, Splits, first_values, second_values}
use Rattle.wah_logic.proofs.JoinLemmas.{fill_splits, places_group, same_fills, fill_long, word_long}

pub splits_front : (x y u v : List Bool) (pair : Pair) → x ≡ first_values pair ++ u → y ≡ second_values pair ++ v → length (first_values pair) ≡ length (second_values pair) → length x ≡ length y → IsPair pair u → Splits x y pair u v
splits_front x y u v pair ex ey same all part = record {
  first = ex;
  second = ey;
  part = part;
  same = omega (arith, ap length ex, ap length ey, length-append (first_values pair) u, length-append (second_values pair) v);
}

pub splits_fills : (p q : Bool) (m n k : ℕ) (u y v : List Bool) → y ≡ replicate (31 * n) q ++ v → k ≤ m → k ≤ n → 0 < k → 31 * m + length u ≡ length y → Splits (replicate (31 * m) p ++ u) y (pairs.Fills p q k) (replicate (31 * (m - k)) p ++ u) (replicate (31 * (n - k)) q ++ v)
splits_fills p q m n k u y v ey hm hn some all =
    splits_front (replicate (31 * m) p ++ u) y (replicate (31 * (m - k)) p ++ u) (replicate (31 * (n - k)) q ++ v) (pairs.Fills p q k) (fill_splits p m k u hm) (ey ∙ fill_splits q n k v hn) (same_fills (31 * k) p q) (fill_long p m u y all) some

group_front : (p : Bool) (m : ℕ) (u : List Bool) → 0 < m → replicate (31 * m) p ++ u ≡ places 31 (cond p 2147483647 0) ++ (replicate (31 * (m - 1)) p ++ u)
group_front p m u some = fill_splits p m 1 u (omega arith) ∙ ap (λ l. l ++ (replicate (31 * (m - 1)) p ++ u)) (sym (places_group p))

words_long : (c a b : ℕ) → length (places c a) ≡ length (places c b)
words_long c a b = length-places c a ∙ sym (length-places c b)

pub splits_fill_word : (p : Bool) (m w : ℕ) (u y v : List Bool) → y ≡ places 31 w ++ v → 0 < m → cond p 2147483647 0 < 2 ^ 31 → w < 2 ^ 31 → 31 * m + length u ≡ length y → Splits (replicate (31 * m) p ++ u) y (pairs.Words (cond p 2147483647 0) w) (replicate (31 * (m - 1)) p ++ u) v
splits_fill_word p m w u y v ey some small fits all =
    splits_front (replicate (31 * m) p ++ u) y (replicate (31 * (m - 1)) p ++ u) v (pairs.Words (cond p 2147483647 0) w) (group_front p m u some) ey (words_long 31 (cond p 2147483647 0) w) (fill_long p m u y all) (small, fits)

pub splits_word_fill : (q : Bool) (n w : ℕ) (u y v : List Bool) → y ≡ replicate (31 * n) q ++ v → 0 < n → w < 2 ^ 31 → cond q 2147483647 0 < 2 ^ 31 → 31 + length u ≡ length y → Splits (places 31 w ++ u) y (pairs.Words w (cond q 2147483647 0)) u (replicate (31 * (n - 1)) q ++ v)
splits_word_fill q n w u y v ey some fits small all =
    splits_front (places 31 w ++ u) y u (replicate (31 * (n - 1)) q ++ v) (pairs.Words w (cond q 2147483647 0)) refl (ey ∙ group_front q n v some) (words_long 31 w (cond q 2147483647 0)) (word_long w u y all) (fits, small)

pub splits_words : (w z : ℕ) (u y v : List Bool) → y ≡ places 31 z ++ v → w < 2 ^ 31 → z < 2 ^ 31 → 31 + length u ≡ length y → Splits (places 31 w ++ u) y (pairs.Words w z) u v
splits_words w z u y v ey fits small all =
    splits_front (places 31 w ++ u) y u v (pairs.Words w z) refl ey (words_long 31 w z) (word_long w u y all) (fits, small)

pub splits_tails : (a b count most : ℕ) (y v : List Bool) → y ≡ places most b ++ v → v ≡ [] → count ≡ length y → a < 2 ^ count → b < 2 ^ most → 0 < count → count < 31 → Splits (places count a) y (pairs.Tails a b count) [] v
splits_tails a b count most y v ey ev all fits small some few =
    let same : most ≡ count = omega (arith, ap length ey, ap length ev, length-append (places most b) v, length-places most b) in
    let ey' : y ≡ places count b ++ v = rw same at ey in
    let small' : b < 2 ^ count = rw same at small in
    splits_front (places count a) y [] v (pairs.Tails a b count) (sym (append-nil (places count a))) ey' (words_long count a b) (length-places count a ∙ all) (some, few, fits, small', refl)
