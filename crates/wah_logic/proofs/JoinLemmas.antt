-- The operation on fronts of two lists.
use Rattle.std.proofs.Common.{◌≡◌, ℕ, zero, suc, ◌+◌, ◌-◌, ◌*◌, ◌^◌, ◌<◌, ◌≤◌, Bool, true, false, cond, List, [], ◌∷◌, ◌++◌, length, drop, take, replicate, refl, sym, ap, ◌∙◌, arith, append_assoc, length-append}
use Rattle.std.proofs.lemmas.List.{length-replicate, replicate-append-replicate, take-append-drop, length-take, append-nil}
use Rattle.wah_words.specs.declared.run.Run.{Run}
use Rattle.wah_words.specs.declared.run.Run.TheVariants as runs
use Rattle.wah_words.specs.Places.{places}
use Rattle.wah_words.specs.Left.{run_values}
use Rattle.wah_words.proofs.PlacesLemmas.{length-places, places-zeros, places-ones}
use mathlib.Core.Bool.{beq}
use Rattle.wah_logic.specs.Logic.{each_place}
use Rattle.wah_logic.specs.Rest.{IsPart, Joins}

pub each_append : (op : Bool → Bool → Bool) (f u g v : List Bool) → length f ≡ length g → each_place op (f ++ u) (g ++ v) ≡ each_place op f g ++ each_place op u v
unfolding each_place
each_append op [] u [] v e = refl
each_append op [] u (y ∷ g) v e = absurd (omega arith)
each_append op (x ∷ f) u [] v e = absurd (omega arith)
each_append op (x ∷ f) u (y ∷ g) v e = ap (λ l. op x y ∷ l) (each_append op f u g v (omega arith))

pub length-each : (op : Bool → Bool → Bool) (x y : List Bool) → length x ≡ length y → length (each_place op x y) ≡ length x
unfolding each_place
length-each op [] y e = refl
length-each op (a ∷ x) [] e = absurd (omega arith)
length-each op (a ∷ x) (b ∷ y) e = ap (λ n. suc n) (length-each op x y (omega arith))

pub each_replicate : (op : Bool → Bool → Bool) (n : ℕ) (p q : Bool) → each_place op (replicate n p) (replicate n q) ≡ replicate n (op p q)
unfolding each_place
each_replicate op zero p q = refl
each_replicate op (suc n) p q = ap (λ l. op p q ∷ l) (each_replicate op n p q)

pub each_left : (op : Bool → Bool → Bool) (p : Bool) → op p false ≡ op p true → (n : ℕ) (y : List Bool) → length y ≡ n → each_place op (replicate n p) y ≡ replicate n (op p false)
unfolding each_place
each_left op p e zero [] h = refl
each_left op p e zero (b ∷ y) h = absurd (omega arith)
each_left op p e (suc n) [] h = absurd (omega arith)
each_left op p e (suc n) (false ∷ y) h = ap (λ l. op p false ∷ l) (each_left op p e n y (omega arith))
each_left op p e (suc n) (true ∷ y) h = rw (← e) (ap (λ l. op p false ∷ l) (each_left op p e n y (omega arith)))

pub each_right : (op : Bool → Bool → Bool) (q : Bool) → op false q ≡ op true q → (n : ℕ) (x : List Bool) → length x ≡ n → each_place op x (replicate n q) ≡ replicate n (op false q)
unfolding each_place
each_right op q e zero [] h = refl
each_right op q e zero (b ∷ x) h = absurd (omega arith)
each_right op q e (suc n) [] h = absurd (omega arith)
each_right op q e (suc n) (false ∷ x) h = ap (λ l. op false q ∷ l) (each_right op q e n x (omega arith))
each_right op q e (suc n) (true ∷ x) h = rw (← e) (ap (λ l. op false q ∷ l) (each_right op q e n x (omega arith)))

-- ---- one run

pub joins_front : (op : Bool → Bool → Bool) (x y f g u v : List Bool) (run : Run) → x ≡ f ++ u → y ≡ g ++ v → length f ≡ length g → each_place op f g ≡ run_values run → length x ≡ length y → IsPart run u → Joins op x y run u v
joins_front op x y f g u v run ex ey same e all part = record {
  values = ap (λ l. each_place op l y) ex ∙ ap (λ l. each_place op (f ++ u) l) ey ∙ each_append op f u g v same ∙ ap (λ l. l ++ each_place op u v) e;
  part = part;
  same = omega (arith, ap length ex, ap length ey, length-append f u, length-append g v);
}

pub fill_splits : (p : Bool) (m k : ℕ) (u : List Bool) → k ≤ m → replicate (31 * m) p ++ u ≡ replicate (31 * k) p ++ (replicate (31 * (m - k)) p ++ u)
fill_splits p m k u h =
    let e : 31 * m ≡ 31 * k + 31 * (m - k) = omega arith in
    ap (λ n. replicate n p ++ u) e ∙ ap (λ l. l ++ u) (sym (replicate-append-replicate (31 * k) (31 * (m - k)) p)) ∙ append_assoc (replicate (31 * k) p) (replicate (31 * (m - k)) p) u

pub places_group : (b : Bool) → places 31 (cond b 2147483647 0) ≡ replicate (31 * 1) b
places_group true = places-ones 31 2147483647 refl
places_group false = places-zeros 31

pub length-group : (b : Bool) (w : ℕ) → length (replicate (31 * 1) b) ≡ length (places 31 w)
length-group b w = length-replicate (31 * 1) b ∙ sym (length-places 31 w)

pub same_fills : (n : ℕ) (p q : Bool) → length (replicate n p) ≡ length (replicate n q)
same_fills n p q = length-replicate n p ∙ sym (length-replicate n q)

-- two fills give a fill
pub joins_fills : (op : Bool → Bool → Bool) (p q : Bool) (m n k : ℕ) (u y v : List Bool) → y ≡ replicate (31 * n) q ++ v → k ≤ m → k ≤ n → 0 < k → length (replicate (31 * m) p ++ u) ≡ length y → Joins op (replicate (31 * m) p ++ u) y (runs.Fill (op p q) k) (replicate (31 * (m - k)) p ++ u) (replicate (31 * (n - k)) q ++ v)
joins_fills op p q m n k u y v ey hm hn some all =
    joins_front op (replicate (31 * m) p ++ u) y (replicate (31 * k) p) (replicate (31 * k) q) (replicate (31 * (m - k)) p ++ u) (replicate (31 * (n - k)) q ++ v) (runs.Fill (op p q) k) (fill_splits p m k u hm) (ey ∙ fill_splits q n k v hn) (same_fills (31 * k) p q) (each_replicate op (31 * k) p q) all some

-- a fill that the other side does not change
pub joins_left : (op : Bool → Bool → Bool) (p : Bool) (m : ℕ) (u y : List Bool) → op p false ≡ op p true → 0 < m → length (replicate (31 * m) p ++ u) ≡ length y → 31 * m ≤ length y → Joins op (replicate (31 * m) p ++ u) y (runs.Fill (op p false) m) u (drop (31 * m) y)
joins_left op p m u y e some all fits =
    let front : length (take (31 * m) y) ≡ 31 * m = omega (arith, length-take (31 * m) y) in
    joins_front op (replicate (31 * m) p ++ u) y (replicate (31 * m) p) (take (31 * m) y) u (drop (31 * m) y) (runs.Fill (op p false) m) refl (sym (take-append-drop (31 * m) y)) (length-replicate (31 * m) p ∙ sym front) (each_left op p e (31 * m) (take (31 * m) y) front) all some

-- a first group, then what is left of the fill on the other side
pub joins_right : (op : Bool → Bool → Bool) (q : Bool) (n w : ℕ) (u y v : List Bool) → op false q ≡ op true q → y ≡ replicate (31 * n) q ++ v → 0 < n → length (places 31 w ++ u) ≡ length y → 31 * (n - 1) ≤ length u → Joins op (places 31 w ++ u) y (runs.Fill (op false q) n) (drop (31 * (n - 1)) u) v
joins_right op q n w u y v e ey some all fits =
    let k = 31 * (n - 1) in
    let f = places 31 w ++ take k u in
    let front : length f ≡ 31 * n = omega (arith, length-append (places 31 w) (take k u), length-places 31 w, length-take k u) in
    let ex : places 31 w ++ u ≡ f ++ drop k u = ap (λ l. places 31 w ++ l) (sym (take-append-drop k u)) ∙ sym (append_assoc (places 31 w) (take k u) (drop k u)) in
    joins_front op (places 31 w ++ u) y f (replicate (31 * n) q) (drop k u) v (runs.Fill (op false q) n) ex ey (front ∙ sym (length-replicate (31 * n) q)) (each_right op q e (31 * n) f front) all some

-- a group of a fill, and a literal
pub joins_fill_word : (op : Bool → Bool → Bool) (p : Bool) (m w r : ℕ) (u y v : List Bool) → y ≡ places 31 w ++ v → 0 < m → places 31 r ≡ each_place op (places 31 (cond p 2147483647 0)) (places 31 w) → r < 2 ^ 31 → length (replicate (31 * m) p ++ u) ≡ length y → Joins op (replicate (31 * m) p ++ u) y (runs.Literal r) (replicate (31 * (m - 1)) p ++ u) v
joins_fill_word op p m w r u y v ey some e fits all =
    joins_front op (replicate (31 * m) p ++ u) y (replicate (31 * 1) p) (places 31 w) (replicate (31 * (m - 1)) p ++ u) v (runs.Literal r) (fill_splits p m 1 u (omega arith)) ey (length-group p w) (sym (e ∙ ap (λ l. each_place op l (places 31 w)) (places_group p))) all fits

pub joins_word_fill : (op : Bool → Bool → Bool) (q : Bool) (n w r : ℕ) (u y v : List Bool) → y ≡ replicate (31 * n) q ++ v → 0 < n → places 31 r ≡ each_place op (places 31 w) (places 31 (cond q 2147483647 0)) → r < 2 ^ 31 → length (places 31 w ++ u) ≡ length y → Joins op (places 31 w ++ u) y (runs.Literal r) u (replicate (31 * (n - 1)) q ++ v)
joins_word_fill op q n w r u y v ey some e fits all =
    joins_front op (places 31 w ++ u) y (places 31 w) (replicate (31 * 1) q) u (replicate (31 * (n - 1)) q ++ v) (runs.Literal r) refl (ey ∙ fill_splits q n 1 v (omega arith)) (sym (length-group q w)) (sym (e ∙ ap (each_place op (places 31 w)) (places_group q))) all fits

pub joins_words : (op : Bool → Bool → Bool) (w z r : ℕ) (u y v : List Bool) → y ≡ places 31 z ++ v → places 31 r ≡ each_place op (places 31 w) (places 31 z) → r < 2 ^ 31 → length (places 31 w ++ u) ≡ length y → Joins op (places 31 w ++ u) y (runs.Literal r) u v
joins_words op w z r u y v ey e fits all =
    joins_front op (places 31 w ++ u) y (places 31 w) (places 31 z) u v (runs.Literal r) refl ey (length-places 31 w ∙ sym (length-places 31 z)) (sym e) all fits

-- ---- as the code has it

pub beq_same : (x y a b : Bool) → beq x y ≡ true → x ≡ a → y ≡ b → a ≡ b
beq_same true true a b e h k = cc
beq_same false false a b e h k = cc
beq_same true false a b e h k = absurd cc
beq_same false true a b e h k = absurd cc

pub fill_long : (p : Bool) (m : ℕ) (u y : List Bool) → 31 * m + length u ≡ length y → length (replicate (31 * m) p ++ u) ≡ length y
fill_long p m u y e = omega (arith, length-append (replicate (31 * m) p) u, length-replicate (31 * m) p)

pub word_long : (w : ℕ) (u y : List Bool) → 31 + length u ≡ length y → length (places 31 w ++ u) ≡ length y
word_long w u y e = omega (arith, length-append (places 31 w) u, length-places 31 w)

pub group_small : (b : Bool) → cond b 2147483647 0 < 2 ^ 31
group_small true = omega arith
group_small false = omega arith

pub tail_same : (b most count : ℕ) (y v : List Bool) → y ≡ places most b ++ v → v ≡ [] → count ≡ length y → most ≡ count
tail_same b most count y v ey ev all = omega (arith, ap length ey, ap length ev, length-append (places most b) v, length-places most b)

-- two tails
pub joins_tails : (op : Bool → Bool → Bool) (a b r count most : ℕ) (y v : List Bool) → y ≡ places most b ++ v → v ≡ [] → count ≡ length y → (most ≡ count → places count r ≡ each_place op (places count a) (places count b)) → (most ≡ count → r < 2 ^ count) → 0 < count → count < 31 → Joins op (places count a) y (runs.Tail r count) [] v
joins_tails op a b r count most y v ey ev all law fits some few =
    let same : most ≡ count = tail_same b most count y v ey ev all in
    let ey' : y ≡ places count b ++ v = rw same at ey in
    joins_front op (places count a) y (places count a) (places count b) [] v (runs.Tail r count) (sym (append-nil (places count a))) ey' (length-places count a ∙ sym (length-places count b)) (sym (law same)) (length-places count a ∙ all) (some, few, fits same, refl)

pub tail_below : (n most count : ℕ) → n < 2 ^ most → most ≡ count → n < 2 ^ count
tail_below n most count h e = rw (← e) h
