-- What the walk of `combine` puts out.
use Rattle.std.proofs.Common.{◌≡◌, ℕ, ◌+◌, ◌-◌, ◌*◌, ◌%◌, ◌^◌, ◌<◌, ◌≤◌, Bool, true, false, cond, List, ◌++◌, length, take, drop, replicate, refl, sym, ap, ◌∙◌, arith, length-append}
use Rattle.std.proofs.lemmas.List.{length-replicate, replicate-append-replicate, take-append-drop, take-append-le, take-replicate, length-take-le, length-drop, append-nil}
use Rattle.std.proofs.Math.Seq.{take-append-add}
use Rattle.wah_words.specs.declared.run.Run.{Run}
use Rattle.wah_words.specs.declared.run.Run.TheVariants as runs
use Rattle.wah_words.proofs.PlacesLemmas.{length-places}
use Rattle.wah_words.specs.Left.{run_values}
use Rattle.wah_words.specs.Places.{places}
use Rattle.wah_logic.specs.Logic.{each_place}
use Rattle.wah_logic.specs.Rest.{Joins, Puts}
use Rattle.wah_logic.proofs.WalkLemmas.{length-run_values}
use Rattle.wah_logic.proofs.LogicLemmas.{aligned_after, out_grows}
use Rattle.wah_logic.proofs.SwapLemmas.{each_swapped}
use Rattle.wah_logic.proofs.JoinLemmas.{each_append, length-each, each_replicate, each_left, places_group, joins_words, joins_word_fill, word_long}

-- ---- a fill beside the words of y

-- a word that is a front of y
pub beside : (op : Bool → Bool → Bool) (p : Bool) (f y v : List Bool) (n m k : ℕ) → y ≡ f ++ v → length f ≡ m → n ≡ m + k → each_place op (replicate n p) (take n y) ≡ each_place op (replicate m p) f ++ each_place op (replicate k p) (take k v)
beside op p f y v n m k e l s =
    let n' : n ≡ length f + k = omega arith in
    let front : take n y ≡ f ++ take k v = ap (λ i. take i y) n' ∙ ap (take (length f + k)) e ∙ take-append-add f v k in
    let parts : replicate n p ≡ replicate m p ++ replicate k p = ap (λ i. replicate i p) s ∙ sym (replicate-append-replicate m k p) in
    ap (each_place op (replicate n p)) front ∙ ap (λ r. each_place op r (f ++ take k v)) parts ∙ each_append op (replicate m p) (replicate k p) f (take k v) (length-replicate m p ∙ sym l)

-- what is out after that word
pub beside_grows : (op : Bool → Bool → Bool) (p : Bool) (out run all f y v : List Bool) (n m k : ℕ) → out ++ each_place op (replicate n p) (take n y) ≡ all → y ≡ f ++ v → length f ≡ m → n ≡ m + k → run ≡ each_place op (replicate m p) f → (out ++ run) ++ each_place op (replicate k p) (take k v) ≡ all
beside_grows op p out run all f y v n m k h e l s r =
    out_grows out run all (each_place op (replicate k p) (take k v)) (each_place op (replicate n p) (take n y)) h (beside op p f y v n m k e l s ∙ ap (λ z. z ++ each_place op (replicate k p) (take k v)) (sym r))

-- a fill of y that goes on
pub beside_ends : (op : Bool → Bool → Bool) (p q : Bool) (y v : List Bool) (n m : ℕ) → y ≡ replicate m q ++ v → n ≤ m → each_place op (replicate n p) (take n y) ≡ replicate n (op p q)
beside_ends op p q y v n m e h =
    let fits : n ≤ length (replicate m q) = omega (arith, length-replicate m q) in
    let front : take n y ≡ replicate n q = ap (take n) e ∙ take-append-le n (replicate m q) v fits ∙ take-replicate n m q h in
    ap (each_place op (replicate n p)) front ∙ each_replicate op n p q

pub group_beside : (op : Bool → Bool → Bool) (p : Bool) (w r : ℕ) → places 31 r ≡ each_place op (places 31 (cond p 2147483647 0)) (places 31 w) → places 31 r ≡ each_place op (replicate 31 p) (places 31 w)
group_beside op p w r e = e ∙ ap (λ l. each_place op l (places 31 w)) (places_group p)

-- a fill that y doesn't change
pub beside_any : (op : Bool → Bool → Bool) (p : Bool) (n : ℕ) (y : List Bool) → op p false ≡ op p true → n ≤ length y → each_place op (replicate n p) (take n y) ≡ replicate n (op p false)
beside_any op p n y e h = each_left op p e n (take n y) (length-take-le n y h)

-- so much longer
pub filled_length : (op : Bool → Bool → Bool) (p : Bool) (n : ℕ) (y out new : List Bool) → new ≡ out ++ each_place op (replicate n p) (take n y) → n ≤ length y → length new ≡ length out + n
filled_length op p n y out new e h =
    let front : length (take n y) ≡ n = length-take-le n y h in
    let put : length (each_place op (replicate n p) (take n y)) ≡ n = length-each op (replicate n p) (take n y) (length-replicate n p ∙ sym front) ∙ length-replicate n p in
    ap length e ∙ length-append out (each_place op (replicate n p) (take n y)) ∙ ap (λ k. length out + k) put

-- no groups
pub beside_none : (op : Bool → Bool → Bool) (p : Bool) (out y : List Bool) (n : ℕ) → n ≡ 0 → out ≡ out ++ each_place op (replicate (31 * n) p) (take (31 * n) y)
unfolding each_place
beside_none op p out y n e = rw e (sym (append-nil out))

-- ---- both vectors

pub puts_run : (op : Bool → Bool → Bool) (x y out u v : List Bool) (run : Run) → Joins op x y run u v → length out % 31 ≡ 0 → Puts op x y out u v (out ++ run_values run)
puts_run op x y out u v run h e = record {
  values = out_grows out (run_values run) (out ++ each_place op x y) (each_place op u v) (each_place op x y) refl h.values;
  same = h.same;
  aligned = λ some. rw (length-append out (run_values run), length-run_values run) (aligned_after run u (length out) h.part e some);
}

pub puts_fill : (op : Bool → Bool → Bool) (p : Bool) (m : ℕ) (u y out : List Bool) → 31 * m + length u ≡ length y → length out % 31 ≡ 0 → Puts op (replicate (31 * m) p ++ u) y out u (drop (31 * m) y) (out ++ each_place op (replicate (31 * m) p) (take (31 * m) y))
puts_fill op p m u y out same e =
    let n = 31 * m in
    let front : length (take n y) ≡ n = length-take-le n y (omega arith) in
    let now : each_place op (replicate n p ++ u) y ≡ each_place op (replicate n p) (take n y) ++ each_place op u (drop n y) = ap (each_place op (replicate n p ++ u)) (sym (take-append-drop n y)) ∙ each_append op (replicate n p) u (take n y) (drop n y) (length-replicate n p ∙ sym front) in
    let put : length (each_place op (replicate n p) (take n y)) ≡ n = length-each op (replicate n p) (take n y) (length-replicate n p ∙ sym front) ∙ length-replicate n p in
    record {
      values = out_grows out (each_place op (replicate n p) (take n y)) (out ++ each_place op (replicate n p ++ u) y) (each_place op u (drop n y)) (each_place op (replicate n p ++ u) y) refl now;
      same = omega (arith, length-drop n y);
      aligned = λ some. rw (length-append out (each_place op (replicate n p) (take n y)), put) (omega arith);
    }

pub puts_swapped : (op : Bool → Bool → Bool) (x y out u v grown : List Bool) → Puts (λ p q. op q p) y x out v u grown → Puts op x y out u v grown
puts_swapped op x y out u v grown h = record {
  values = ap (λ l. grown ++ l) (sym (each_swapped op v u)) ∙ h.values ∙ ap (λ l. out ++ l) (each_swapped op y x);
  same = sym h.same;
  aligned = λ some. h.aligned (omega (arith, h.same));
}

pub puts_both : (op : Bool → Bool → Bool) (x y a u v b s t c : List Bool) → Puts op x y a u v b → Puts op u v b s t c → Puts op x y a s t c
puts_both op x y a u v b s t c h k = record {
  values = k.values ∙ h.values;
  same = k.same;
  aligned = k.aligned;
}

-- ---- after what is out already

pub puts_words : (op : Bool → Bool → Bool) (x₀ y₀ out₀ : List Bool) (w z r : ℕ) (u y v out : List Bool) → Puts op x₀ y₀ out₀ (places 31 w ++ u) y out → y ≡ places 31 z ++ v → places 31 r ≡ each_place op (places 31 w) (places 31 z) → r < 2 ^ 31 → 31 + length u ≡ length y → length out % 31 ≡ 0 → Puts op x₀ y₀ out₀ u v (out ++ places 31 r)
puts_words op x₀ y₀ out₀ w z r u y v out h e law fits same whole =
    puts_both op x₀ y₀ out₀ (places 31 w ++ u) y out u v (out ++ places 31 r) h (puts_run op (places 31 w ++ u) y out u v (runs.Literal r) (joins_words op w z r u y v e law fits (word_long w u y same)) whole)

-- a literal and a fill, of which the rest comes beside u
pub puts_word_fill : (op : Bool → Bool → Bool) (x₀ y₀ out₀ : List Bool) (q : Bool) (n w r : ℕ) (u y v out : List Bool) → Puts op x₀ y₀ out₀ (places 31 w ++ u) y out → y ≡ replicate (31 * n) q ++ v → 0 < n → places 31 r ≡ each_place op (places 31 w) (places 31 (cond q 2147483647 0)) → r < 2 ^ 31 → 31 + length u ≡ length y → length out % 31 ≡ 0 → Puts op x₀ y₀ out₀ (drop (31 * (n - 1)) u) v ((out ++ places 31 r) ++ each_place (λ a b. op b a) (replicate (31 * (n - 1)) q) (take (31 * (n - 1)) u))
puts_word_fill op x₀ y₀ out₀ q n w r u y v out h e some law fits same whole =
    let m = n - 1 in
    let one = out ++ places 31 r in
    let more = replicate (31 * m) q ++ v in
    let end = one ++ each_place (λ a b. op b a) (replicate (31 * m) q) (take (31 * m) u) in
    let long : length y ≡ 31 * n + length v = ap length e ∙ length-append (replicate (31 * n) q) v ∙ ap (λ k. k + length v) (length-replicate (31 * n) q) in
    let left : 31 * m + length v ≡ length u = omega (arith, long, same, some) in
    let whole' : length one % 31 ≡ 0 = omega (arith, length-append out (places 31 r), length-places 31 r, whole) in
    let first = puts_run op (places 31 w ++ u) y out u more (runs.Literal r) (joins_word_fill op q n w r u y v e some law fits (word_long w u y same)) whole in
    let second = puts_swapped op u more one (drop (31 * m) u) v end (puts_fill (λ a b. op b a) q m v u one left whole') in
    puts_both op x₀ y₀ out₀ (places 31 w ++ u) y out (drop (31 * m) u) v end h (puts_both op (places 31 w ++ u) y out u more one (drop (31 * m) u) v end first second)

-- nothing yet
pub puts_none : (op : Bool → Bool → Bool) (x y out : List Bool) → length x ≡ length y → length out % 31 ≡ 0 → Puts op x y out x y out
puts_none op x y out same whole = record {
  values = refl;
  same = same;
  aligned = λ some. whole;
}
