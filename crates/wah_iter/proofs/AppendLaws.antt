-- How a number is added below a part of a group, and the group taken off.
use Rattle.std.proofs.Common.{◌≡◌, ℕ, zero, suc, ◌+◌, ◌-◌, ◌*◌, ◌/◌, ◌%◌, ◌^◌, ◌<◌, ◌≤◌, Bool, List, [], ◌∷◌, ◌++◌, length, replicate, refl, sym, ap, ◌∙◌, arith, append_assoc, length-append, subst, take, drop, ◌⊎◌, inl, inr, length-drop, length-take, min}
use Rattle.std.proofs.lemmas.Nat.{pow_pos, pow-add, pow_below, mul-add-lt, shr_below, mod_below}
use Rattle.std.proofs.lemmas.List.{replicate-append-replicate, append-nil, drop-replicate, take-replicate, drop-drop, drop_at, drop-append-le, take_all, take-append-le}
use Rattle.wah_words.specs.Places.{places}
use Rattle.wah_words.proofs.PlacesLemmas.{length-places}
use Rattle.wah_iter.proofs.PlacesLaws.{places-cat, places-split}

pub below_2_31 : (k n : ℕ) → n < 2 ^ k → k < 31 → n < 2147483648
below_2_31 k n h few = let p : 2 ^ k < 2147483648 = pow_below k 31 few in omega arith

pub joined_below : (k c q r : ℕ) → q < 2 ^ k → r < 2 ^ c → q * 2 ^ c + r < 2 ^ (k + c)
joined_below k c q r hq hr =
    let e : k + c ≡ c + k = omega arith in
    rw (e, pow-add 2 c k) (mul-add-lt q (2 ^ c) r (2 ^ k) hq hr)

pub whole_below : (k c n : ℕ) → n < 2 ^ (k + c) → 31 ≤ k + c → n / 2 ^ (k + c - 31) < 2147483648
whole_below k c n h most =
    let e : k + c ≡ 31 + (k + c - 31) = omega arith in
    let h2 : n < 2 ^ (31 + (k + c - 31)) = (let P : ℕ → Type 0 = λ x. n < 2 ^ x in subst P e h) in
    shr_below n 31 (k + c - 31) h2

pub cut_at : (k c q r : ℕ) → r < 2 ^ c → 31 ≤ k + c → places 31 ((q * 2 ^ c + r) / 2 ^ (k + c - 31)) ++ places (k + c - 31) ((q * 2 ^ c + r) % 2 ^ (k + c - 31)) ≡ places k q ++ places c r
cut_at k c q r hr most =
    let e : 31 + (k + c - 31) ≡ k + c = omega arith in
    sym (places-split 31 (k + c - 31) (q * 2 ^ c + r)) ∙ ap (λ x. places x (q * 2 ^ c + r)) e ∙ places-cat k c q r hr

pub rest_below : (n r : ℕ) → n % 2 ^ r < 2 ^ r
rest_below n r = mod_below n (2 ^ r) (pow_pos r)

pub same_after : (v : List Bool) (k c q r : ℕ) (old : List Bool) → v ++ places k q ≡ old → r < 2 ^ c → v ++ places (k + c) (q * 2 ^ c + r) ≡ old ++ places c r
same_after v k c q r old e hr =
    ap (λ l. v ++ l) (places-cat k c q r hr) ∙ sym (append_assoc v (places k q) (places c r)) ∙ ap (λ l. l ++ places c r) e

pub cut_after : (v new : List Bool) (k c q r : ℕ) (old : List Bool) → v ++ places k q ≡ old → new ≡ v ++ places 31 ((q * 2 ^ c + r) / 2 ^ (k + c - 31)) → r < 2 ^ c → 31 ≤ k + c → new ++ places (k + c - 31) ((q * 2 ^ c + r) % 2 ^ (k + c - 31)) ≡ old ++ places c r
cut_after v new k c q r old e n hr most =
    let a = places 31 ((q * 2 ^ c + r) / 2 ^ (k + c - 31)) in
    let b = places (k + c - 31) ((q * 2 ^ c + r) % 2 ^ (k + c - 31)) in
    ap (λ l. l ++ b) n ∙ append_assoc v a b ∙ ap (λ l. v ++ l) (cut_at k c q r hr most) ∙ sym (append_assoc v (places k q) (places c r)) ∙ ap (λ l. l ++ places c r) e

-- the length of groups and a part
pub length_parts : (v : List Bool) (k q : ℕ) (old : List Bool) → v ++ places k q ≡ old → length old ≡ length v + k
length_parts v k q old e = sym (ap length e) ∙ length-append v (places k q) ∙ ap (λ n. length v + n) (length-places k q)

pub fill_after : (v new : List Bool) (b : Bool) (n m c q : ℕ) (old : List Bool) → v ≡ old → new ≡ v ++ replicate n b → places c q ≡ replicate c b → n + c ≡ m → new ++ places c q ≡ old ++ replicate m b
fill_after v new b n m c q old e f p s =
    let joined : replicate n b ++ replicate c b ≡ replicate m b = replicate-append-replicate n c b ∙ ap (λ x. replicate x b) s in
    rw (f, e, p) (append_assoc old (replicate n b) (replicate c b) ∙ ap (λ l. old ++ l) joined)

pub fills_after : (a b c : List Bool) (x : Bool) (n m s : ℕ) → b ≡ a ++ replicate n x → c ≡ b ++ replicate m x → n + m ≡ s → c ≡ a ++ replicate s x
fills_after a b c x n m s e f h = f ∙ ap (λ l. l ++ replicate m x) e ∙ append_assoc a (replicate n x) (replicate m x) ∙ ap (λ l. a ++ l) (replicate-append-replicate n m x ∙ ap (λ k. replicate k x) h)

-- whole groups with no part after them
pub aligned_part : (v : List Bool) (k q : ℕ) (old : List Bool) → v ++ places k q ≡ old → length v % 31 ≡ 0 → k < 31 → length old % 31 ≡ 0 → v ≡ old
unfolding places
aligned_part v zero q old e h few a = sym (append-nil v) ∙ e
aligned_part v (suc k) q old e h few a = absurd (omega (arith, length_parts v (suc k) q old e))

-- ---- parts

pub part-replicate : (n f c : ℕ) (b : Bool) → f + c ≤ n → take c (drop f (replicate n b)) ≡ replicate c b
part-replicate n f c b h = ap (take c) (drop-replicate f n b) ∙ take-replicate c (n - f) b (omega arith)

-- what is left where a run is skipped, and where some of it is taken
pub skip_run : (old rv rest : List Bool) (skip left : ℕ) → old ≡ rv ++ rest → length rv ≤ skip → take left (drop skip old) ≡ take left (drop (skip - length rv) rest)
skip_run old rv rest skip left e h =
    let s : skip ≡ length rv + (skip - length rv) = omega arith in
    let two : drop skip old ≡ drop (skip - length rv) (drop (length rv) old) = ap (λ n. drop n old) s ∙ sym (drop-drop (skip - length rv) (length rv) old) in
    ap (take left) (two ∙ ap (λ l. drop (skip - length rv) (drop (length rv) l)) e ∙ ap (drop (skip - length rv)) (drop_at rv rest (length rv) refl))

take-whole : (a rest : List Bool) (m : ℕ) → take (length a + m) (a ++ rest) ≡ a ++ take m rest
take-whole [] rest m = let e : 0 + m ≡ m = omega arith in ap (λ n. take n rest) e
take-whole (x ∷ xs) rest m =
    let e : suc (length xs) + m ≡ suc (length xs + m) = omega arith in
    ap (λ n. take n (x ∷ (xs ++ rest))) e ∙ ap (λ l. x ∷ l) (take-whole xs rest m)

take_two : (a rest : List Bool) (left taken : ℕ) → taken ≤ length a → (taken ≡ left) ⊎ ((taken ≡ length a) × (taken ≤ left)) → take left (a ++ rest) ≡ take taken a ++ take (left - taken) rest
take_two a rest left taken h c =
    elim c [
      | inl same ↦
          let none : left - taken ≡ 0 = omega arith in
          take-append-le left a rest (omega arith) ∙ ap (λ n. take n a) (sym same) ∙ sym (append-nil (take taken a)) ∙ ap (λ n. take taken a ++ take n rest) (sym none)
      | inr whole ↦
          let s : left ≡ length a + (left - taken) = omega (arith, whole.0, whole.1) in
          ap (λ n. take n (a ++ rest)) s ∙ take-whole a rest (left - taken) ∙ ap (λ l. l ++ take (left - taken) rest) (sym (take_all taken a (omega (arith, whole.0))))
    ]

pub take_run : (old rv rest : List Bool) (skip left taken : ℕ) → old ≡ rv ++ rest → skip ≤ length rv → taken + skip ≤ length rv → (taken ≡ left) ⊎ ((taken + skip ≡ length rv) × (taken ≤ left)) → take left (drop skip old) ≡ take taken (drop skip rv) ++ take (left - taken) rest
take_run old rv rest skip left taken e h t c =
    let len = length-drop skip rv in
    let cases : (taken ≡ left) ⊎ ((taken ≡ length (drop skip rv)) × (taken ≤ left)) = (elim c [ inl a ↦ inl a | inr b ↦ inr (omega (arith, b.0, len), b.1) ]) in
    ap (λ l. take left (drop skip l)) e ∙ ap (take left) (drop-append-le skip rv rest h) ∙ take_two (drop skip rv) rest left taken (omega (arith, len)) cases

pub more_done : (out new part rest old : List Bool) (left_now left_new : List Bool) → new ≡ out ++ part → left_now ≡ part ++ left_new → out ++ left_now ≡ old → new ++ left_new ≡ old
more_done out new part rest old left_now left_new n e d = ap (λ l. l ++ left_new) n ∙ append_assoc out part left_new ∙ ap (λ l. out ++ l) (sym e) ∙ d

pub length_part : (rv : List Bool) (skip taken : ℕ) → taken + skip ≤ length rv → length (take taken (drop skip rv)) ≡ taken
length_part rv skip taken h = omega (arith, length-take taken (drop skip rv), length-drop skip rv)

-- ---- room

pub spare_more : (all most words len total taken spare new : ℕ) → all + min (2 * (words + 1)) (total / 31 - len / 31) ≤ spare + most → spare ≤ new + min 2 ((len + taken) / 31 - len / 31) → len + taken ≤ total → all + min (2 * words) (total / 31 - (len + taken) / 31) ≤ new + most
spare_more all most words len total taken spare new h s t =
    let q : len / 31 ≤ (len + taken) / 31 = omega arith in
    let r : (len + taken) / 31 ≤ total / 31 = omega arith in
    grind arith

pub spare_less : (all most words a spare : ℕ) → all + min (2 * (words + 1)) a ≤ spare + most → all + min (2 * words) a ≤ spare + most
spare_less all most words a spare h = omega arith
