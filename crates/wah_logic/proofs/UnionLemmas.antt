-- Unions.
use Rattle.std.proofs.Common.{◌≡◌, ℕ, zero, suc, ◌+◌, ◌-◌, ◌*◌, ◌/◌, ◌%◌, ◌^◌, ◌<◌, ◌≤◌, Bool, true, false, List, [], ◌∷◌, ◌++◌, length, take, drop, map, get_or, replicate, All, Result, Ok, Err, OnOk, OnErr, refl, sym, ap, subst, ◌∙◌, arith}
use Rattle.std.proofs.lemmas.List.{length-replicate, replicate-append-replicate, drop_more, drop_all, append-nil, map-append, take-map, drop-map}
use Rattle.std.proofs.lemmas.List.Elements.{All-drop, All-take}
use Rattle.std.proofs.lemmas.List.Sums.{sum_by-append, sum_by-cons}
use Rattle.std.proofs.Math.Nat.{pow-succ', mul-le-mul_left, mul-le-mul_right}
use Rattle.wah_words.specs.Spelling.{words_of}
use Rattle.wah_words.proofs.SpellingLemmas.{words_of_le}
use Rattle.wah_logic.specs.Logic.{each_place, or, union, groups_and_rest, words_in}
use Rattle.wah_logic.proofs.JoinLemmas.{length-each}

or_assoc : (x y z : Bool) → or (or x y) z ≡ or x (or y z)
or_assoc true y z = refl
or_assoc false y z = refl

or_false : (x : Bool) → or x false ≡ x
or_false true = refl
or_false false = refl

pub each_or_assoc : (a b c : List Bool) → length a ≡ length b → length b ≡ length c → each_place or (each_place or a b) c ≡ each_place or a (each_place or b c)
unfolding each_place
each_or_assoc [] b c h k = refl
each_or_assoc (x ∷ a) [] c h k = absurd (omega arith)
each_or_assoc (x ∷ a) (y ∷ b) [] h k = absurd (omega arith)
each_or_assoc (x ∷ a) (y ∷ b) (z ∷ c) h k = rw (or_assoc x y z, each_or_assoc a b c (omega arith) (omega arith)) refl

pub each_zeros_left : (n : ℕ) (v : List Bool) → length v ≡ n → each_place or (replicate n false) v ≡ v
unfolding each_place
each_zeros_left zero [] h = refl
each_zeros_left zero (x ∷ v) h = absurd (omega arith)
each_zeros_left (suc n) [] h = absurd (omega arith)
each_zeros_left (suc n) (x ∷ v) h = ap (λ l. x ∷ l) (each_zeros_left n v (omega arith))

pub each_zeros_right : (n : ℕ) (v : List Bool) → length v ≡ n → each_place or v (replicate n false) ≡ v
unfolding each_place
each_zeros_right zero [] h = refl
each_zeros_right zero (x ∷ v) h = absurd (omega arith)
each_zeros_right (suc n) [] h = absurd (omega arith)
each_zeros_right (suc n) (x ∷ v) h = rw (or_false x, each_zeros_right n v (omega arith)) refl

head_long : (len : ℕ) (v : List Bool) (vs : List (List Bool)) → All (λ x. length x ≡ len) (v ∷ vs) → length v ≡ len
head_long len v vs h = h 0 v (omega arith)

tail_long : (len : ℕ) (v : List Bool) (vs : List (List Bool)) → All (λ x. length x ≡ len) (v ∷ vs) → All (λ x. length x ≡ len) vs
tail_long len v vs h = All-drop (λ x. length x ≡ len) 1 (v ∷ vs) h

pub length-union : (len : ℕ) (vs : List (List Bool)) → All (λ v. length v ≡ len) vs → length (union len vs) ≡ len
unfolding union
length-union len [] h = length-replicate len false
length-union len (v ∷ vs) h = length-each or v (union len vs) (head_long len v vs h ∙ sym (length-union len vs (tail_long len v vs h))) ∙ head_long len v vs h

pub words_few : (len : ℕ) (v : List Bool) → length v ≡ len → words_of v ≤ groups_and_rest len
words_few len v h = omega (arith, words_of_le v, h)

-- ---- two lists of vectors

pub union-append : (len : ℕ) (vs ws : List (List Bool)) → All (λ v. length v ≡ len) vs → All (λ v. length v ≡ len) ws → union len (vs ++ ws) ≡ each_place or (union len vs) (union len ws)
unfolding union
union-append len [] ws h k = sym (each_zeros_left len (union len ws) (length-union len ws k))
union-append len (v ∷ vs) ws h k =
    let long = head_long len v vs h in
    let all = tail_long len v vs h in
    ap (λ u. each_place or v u) (union-append len vs ws all k) ∙ sym (each_or_assoc v (union len vs) (union len ws) (long ∙ sym (length-union len vs all)) (length-union len vs all ∙ sym (length-union len ws k)))

pub union-one : (len : ℕ) (v : List Bool) → length v ≡ len → union len (v ∷ []) ≡ v
unfolding union
union-one len v h = each_zeros_right len v h

pub union-two : (len : ℕ) (v w : List Bool) → length w ≡ len → union len (v ∷ w ∷ []) ≡ each_place or v w
unfolding union
union-two len v w h = ap (λ u. each_place or v u) (each_zeros_right len w h)

pub union-three : (len : ℕ) (v w x : List Bool) → length x ≡ len → union len (v ∷ w ∷ x ∷ []) ≡ each_place or v (each_place or w x)
unfolding union
union-three len v w x h = ap (λ u. each_place or v (each_place or w u)) (each_zeros_right len x h)

pub union-none : (len : ℕ) → union len [] ≡ replicate len false
unfolding union
union-none len = refl

-- ---- a list of few, by its elements

pub one_item : {X : Type 0} (list : List X) (a : X) → length list ≡ 1 → a ≡ get_or list 0 a → list ≡ a ∷ []
one_item [] a h e = absurd (omega arith)
one_item (x ∷ []) a h e = ap (λ y. y ∷ []) (sym e)
one_item (x ∷ y ∷ l) a h e = absurd (omega arith)

pub two_items : {X : Type 0} (list : List X) (a b : X) → length list ≡ 2 → a ≡ get_or list 0 a → b ≡ get_or list 1 b → list ≡ a ∷ b ∷ []
two_items [] a b h e k = absurd (omega arith)
two_items (x ∷ []) a b h e k = absurd (omega arith)
two_items (x ∷ y ∷ []) a b h e k = rw (sym e, sym k) refl
two_items (x ∷ y ∷ z ∷ l) a b h e k = absurd (omega arith)

pub three_items : {X : Type 0} (list : List X) (a b c : X) → length list ≡ 3 → a ≡ get_or list 0 a → b ≡ get_or list 1 b → c ≡ get_or list 2 c → list ≡ a ∷ b ∷ c ∷ []
three_items [] a b c h e k l = absurd (omega arith)
three_items (x ∷ []) a b c h e k l = absurd (omega arith)
three_items (x ∷ y ∷ []) a b c h e k l = absurd (omega arith)
three_items (x ∷ y ∷ z ∷ []) a b c h e k l = rw (sym e, sym k, sym l) refl
three_items (x ∷ y ∷ z ∷ u ∷ m) a b c h e k l = absurd (omega arith)

-- ---- digits

pub one_digit : (d : ℕ) → 2 ≤ 2 ^ d → 1 ≤ d
one_digit zero h = absurd (omega arith)
one_digit (suc d) h = omega arith

pub two_digits : (d : ℕ) → 3 ≤ 2 ^ d → 2 ≤ d
two_digits zero h = absurd (omega arith)
two_digits (suc zero) h = absurd (omega arith)
two_digits (suc (suc d)) h = omega arith

pub some_digits : (d k : ℕ) → 0 < k → k < 2 ^ d → 1 ≤ d
some_digits zero k h l = absurd (omega arith)
some_digits (suc d) k h l = omega arith

-- each half has one digit less
pub half_digits : (d k : ℕ) → 4 ≤ k → k ≤ 2 ^ d → (e : ℕ) × (d ≡ e + 1) × (k / 2 ≤ 2 ^ e) × (k - k / 2 ≤ 2 ^ e)
half_digits zero k h l = absurd (omega arith)
half_digits (suc e) k h l =
    let p : 2 ^ suc e ≡ 2 * 2 ^ e = pow-succ' 2 e in
    (e, omega arith, omega (arith, l, p), omega (arith, l, p))

-- ---- both halves of a list

pub all_front : {X : Type 0} (f : X → List Bool) (len n : ℕ) (list front : List X) → front ≡ take n list → All (λ v. length v ≡ len) (map f list) → All (λ v. length v ≡ len) (map f front)
all_front f len n list front e h =
    subst (λ vs. All (λ v. length v ≡ len) vs) (take-map f n list ∙ ap (map f) (sym e)) (All-take (λ v. length v ≡ len) n (map f list) h)

pub all_back : {X : Type 0} (f : X → List Bool) (len n : ℕ) (list back : List X) → back ≡ drop n list → All (λ v. length v ≡ len) (map f list) → All (λ v. length v ≡ len) (map f back)
all_back f len n list back e h =
    subst (λ vs. All (λ v. length v ≡ len) vs) (drop-map f n list ∙ ap (map f) (sym e)) (All-drop (λ v. length v ≡ len) n (map f list) h)

pub halves_union : {X : Type 0} (f : X → List Bool) (len n : ℕ) (list front back : List X) (u v : List Bool) → list ≡ front ++ back → front ≡ take n list → back ≡ drop n list → All (λ v. length v ≡ len) (map f list) → u ≡ union len (map f front) → v ≡ union len (map f back) → each_place or u v ≡ union len (map f list)
halves_union f len n list front back u v e d k h a b =
    let w = union-append len (map f front) (map f back) (all_front f len n list front d h) (all_back f len n list back k h) in
    rw (a, b) (sym w) ∙ ap (union len) (sym (map-append f front back) ∙ ap (map f) (sym e))

pub halves_words : {X : Type 0} (f : X → List Bool) (list front back : List X) → list ≡ front ++ back → words_in (map f list) ≡ words_in (map f front) + words_in (map f back)
halves_words f list front back e =
    ap words_in (ap (map f) e ∙ map-append f front back) ∙ sum_by-append words_of (map f front) (map f back)

pub halves_long : {X : Type 0} (f : X → List Bool) (len n : ℕ) (list front back : List X) (u v : List Bool) → front ≡ take n list → back ≡ drop n list → All (λ v. length v ≡ len) (map f list) → u ≡ union len (map f front) → v ≡ union len (map f back) → (length u ≡ len) × (length v ≡ len)
halves_long f len n list front back u v d k h a b =
    (ap length a ∙ length-union len (map f front) (all_front f len n list front d h), ap length b ∙ length-union len (map f back) (all_back f len n list back k h))

-- the digits of both halves make those of the list, where the union of both follows or not
pub halves_digits : (d k s r t p q : ℕ) → 4 ≤ k → k ≤ 2 ^ d → ((e : ℕ) → k / 2 ≤ 2 ^ e → r ≤ s + e * p) → ((e : ℕ) → k - k / 2 ≤ 2 ^ e → t ≤ r + e * q) → t + p + q ≤ s + d * (p + q)
halves_digits d k s r t p q h l a b =
    let e = half_digits d k h l in
    let x = a e.0 e.2 in
    let y = b e.0 e.3 in
    let z : (e.0 + 1) * (p + q) ≡ e.0 * p + e.0 * q + p + q = grind arith in
    rw e.1 (omega (arith, x, y, z))

pub halves_steps : (g s r t u f b k : ℕ) → f + b ≡ k → r + 2 * g ≤ s + 2 * g * f → t + 2 * g ≤ r + 2 * g * b → u ≤ t + 2 * g → u + 2 * g ≤ s + 2 * g * k
halves_steps g s r t u f b k e h l m =
    let z : 2 * g * (f + b) ≡ 2 * g * f + 2 * g * b = grind arith in
    let w : 2 * g * (f + b) ≡ 2 * g * k = ap (λ n. 2 * g * n) e in
    omega (arith, h, l, m, z, w)

-- ---- two vectors, and three

pub two_long : {X : Type 0} (f : X → List Bool) (len : ℕ) (list : List X) (a b : X) → list ≡ a ∷ b ∷ [] → All (λ v. length v ≡ len) (map f list) → (length (f a) ≡ len) × (length (f b) ≡ len)
two_long f len list a b e h =
    let all : All (λ v. length v ≡ len) (f a ∷ f b ∷ []) = rw e at h in
    (all 0 (f a) (omega arith), all 1 (f b) (omega arith))

pub three_long : {X : Type 0} (f : X → List Bool) (len : ℕ) (list : List X) (a b c : X) → list ≡ a ∷ b ∷ c ∷ [] → All (λ v. length v ≡ len) (map f list) → (length (f a) ≡ len) × (length (f b) ≡ len) × (length (f c) ≡ len)
three_long f len list a b c e h =
    let all : All (λ v. length v ≡ len) (f a ∷ f b ∷ f c ∷ []) = rw e at h in
    (all 0 (f a) (omega arith), all 1 (f b) (omega arith), all 2 (f c) (omega arith))

pub two_union : {X : Type 0} (f : X → List Bool) (len : ℕ) (list : List X) (a b : X) (u v : List Bool) → list ≡ a ∷ b ∷ [] → All (λ v. length v ≡ len) (map f list) → u ≡ f a → v ≡ f b → each_place or u v ≡ union len (map f list)
two_union f len list a b u v e h k l =
    rw (k, l) (sym (union-two len (f a) (f b) (two_long f len list a b e h).1)) ∙ ap (λ l. union len (map f l)) (sym e)

pub three_union : {X : Type 0} (f : X → List Bool) (len : ℕ) (list : List X) (a b c : X) (u v : List Bool) → list ≡ a ∷ b ∷ c ∷ [] → All (λ v. length v ≡ len) (map f list) → u ≡ f a → v ≡ each_place or (f b) (f c) → each_place or u v ≡ union len (map f list)
three_union f len list a b c u v e h k l =
    rw (k, l) (sym (union-three len (f a) (f b) (f c) (three_long f len list a b c e h).2)) ∙ ap (λ l. union len (map f l)) (sym e)

pub two_words : {X : Type 0} (f : X → List Bool) (list : List X) (a b : X) → list ≡ a ∷ b ∷ [] → words_in (map f list) ≡ words_of (f a) + words_of (f b)
two_words f list a b e = rw e (omega arith)

pub three_words : {X : Type 0} (f : X → List Bool) (list : List X) (a b c : X) → list ≡ a ∷ b ∷ c ∷ [] → words_in (map f list) ≡ words_of (f a) + words_of (f b) + words_of (f c)
three_words f list a b c e = rw e (omega arith)

pub so_many_times : (n d w s t : ℕ) → n ≤ d → t ≤ s + n * w → t ≤ s + d * w
so_many_times n d w s t h k = omega (arith, k, mul-le-mul_right w h)

-- n operations on k vectors
pub few_steps : (g n k s t : ℕ) → n + 1 ≤ k → t ≤ s + 2 * g * n → t + 2 * g ≤ s + 2 * g * k
few_steps g n k s t h l =
    let z : 2 * g * (n + 1) ≡ 2 * g * n + 2 * g = grind arith in
    omega (arith, l, z, mul-le-mul_left (2 * g) h)

pub one_words : {X : Type 0} (f : X → List Bool) (list : List X) (a : X) → list ≡ a ∷ [] → words_in (map f list) ≡ words_of (f a)
one_words f list a e = rw e (omega arith)

pub one_union : {X : Type 0} (f : X → List Bool) (len : ℕ) (list : List X) (a : X) → list ≡ a ∷ [] → All (λ v. length v ≡ len) (map f list) → (length (f a) ≡ len) × (f a ≡ union len (map f list))
one_union f len list a e h =
    let all : All (λ v. length v ≡ len) (f a ∷ []) = rw e at h in
    let long = all 0 (f a) (omega arith) in
    (long, rw e (sym (union-one len (f a) long)))

pub copy_steps : {A B : Type 0} (r : Result A B) (s t w : ℕ) → OnOk r (t ≡ s + w) → OnErr r (t ≡ s) → t ≤ s + w
copy_steps (Ok x) s t w h k = omega (arith, h)
copy_steps (Err e) s t w h k = omega (arith, k)

pub no_item : {X : Type 0} (f : X → List Bool) (len : ℕ) (list : List X) → length list < 1 → replicate len false ≡ union len (map f list)
no_item f len [] h = sym (union-none len)
no_item f len (x ∷ l) h = absurd (omega arith)

pub twice_each : (g k s t : ℕ) → 1 ≤ k → t ≤ s + g → t ≤ s + 2 * g * k
twice_each g k s t h l = omega (arith, l, mul-le-mul_left (2 * g) h)

-- ---- zeros

pub fill_none : (n : ℕ) → n ≤ 0 → [] ≡ replicate (31 * n) false
fill_none zero h = refl
fill_none (suc n) h = absurd (omega arith)

pub places_rest : (v : List Bool) (c : ℕ) → c ≤ 0 → v ≡ v ++ replicate c false
places_rest v zero h = sym (append-nil v)
places_rest v (suc c) h = absurd (omega arith)

pub zeros_all : (len : ℕ) → replicate (31 * (len / 31)) false ++ replicate (len % 31) false ≡ replicate len false
zeros_all len =
    let e : 31 * (len / 31) + len % 31 ≡ len = omega arith in
    replicate-append-replicate (31 * (len / 31)) (len % 31) false ∙ ap (λ n. replicate n false) e

-- ---- vectors one by one

-- what is left of the list, where x comes next
rest_is : {X : Type 0} (f : X → List Bool) (i : ℕ) (list : List X) (x : X) → i < length list → x ≡ get_or list i x → map f (drop i list) ≡ f x ∷ map f (drop (i + 1) list)
rest_is f i list x h e = ap (map f) (drop_more list i x h ∙ ap (λ y. y ∷ drop (i + 1) list) (sym e))

pub rest_union : {X : Type 0} (f : X → List Bool) (len i : ℕ) (list : List X) (x : X) (u v w : List Bool) → i < length list → x ≡ get_or list i x → v ≡ f x → All (λ v. length v ≡ len) (map f list) → length u ≡ len → w ≡ each_place or u v → (each_place or w (union len (map f (drop (i + 1) list))) ≡ each_place or u (union len (map f (drop i list)))) × (length w ≡ len)
unfolding union
rest_union f len i list x u v w h e k all long l =
    let rest = map f (drop (i + 1) list) in
    let some = rest_is f i list x h e in
    let left : All (λ v. length v ≡ len) (f x ∷ rest) = subst (λ vs. All (λ v. length v ≡ len) vs) some (all_back f len i list (drop i list) refl all) in
    let one : length v ≡ len = ap length k ∙ head_long len (f x) rest left in
    let others : length (union len rest) ≡ len = length-union len rest (tail_long len (f x) rest left) in
    let step : each_place or w (union len rest) ≡ each_place or u (each_place or v (union len rest)) = ap (λ a. each_place or a (union len rest)) l ∙ each_or_assoc u v (union len rest) (long ∙ sym one) (one ∙ sym others) in
    (step ∙ ap (λ a. each_place or u (each_place or a (union len rest))) k ∙ ap (λ vs. each_place or u (union len vs)) (sym some), ap length l ∙ length-each or u v (long ∙ sym one) ∙ long)

pub rest_words : {X : Type 0} (f : X → List Bool) (i : ℕ) (list : List X) (x : X) → i < length list → x ≡ get_or list i x → words_in (map f (drop i list)) ≡ words_of (f x) + words_in (map f (drop (i + 1) list))
rest_words f i list x h e = ap words_in (rest_is f i list x h e) ∙ sum_by-cons words_of (f x) (map f (drop (i + 1) list))

pub next_long : {X : Type 0} (f : X → List Bool) (len i : ℕ) (list : List X) (x : X) → i < length list → x ≡ get_or list i x → All (λ v. length v ≡ len) (map f list) → length (f x) ≡ len
next_long f len i list x h e all =
    head_long len (f x) (map f (drop (i + 1) list)) (subst (λ vs. All (λ v. length v ≡ len) vs) (rest_is f i list x h e) (all_back f len i list (drop i list) refl all))

pub union_all : {X : Type 0} (f : X → List Bool) (len i : ℕ) (list : List X) (u all : List Bool) → length list ≤ i → length u ≡ len → each_place or u (union len (map f (drop i list))) ≡ all → u ≡ all
unfolding union
union_all f len i list u all h long e =
    let none : union len (map f (drop i list)) ≡ replicate len false = ap (λ l. union len (map f l)) (drop_all i list h) in
    sym (each_zeros_right len u long) ∙ ap (each_place or u) (sym none) ∙ e

pub union_start : (len : ℕ) (u v : List Bool) → u ≡ replicate len false → length v ≡ len → (each_place or u v ≡ v) × (length u ≡ len)
union_start len u v e h = (ap (λ a. each_place or a v) e ∙ each_zeros_left len v h, ap length e ∙ length-replicate len false)

pub words_bound : {X : Type 0} (f : X → List Bool) (len : ℕ) (list : List X) → All (λ v. length v ≡ len) (map f list) → words_in (map f list) ≤ groups_and_rest len * length list
words_bound f len [] all = omega arith
words_bound f len (x ∷ l) all =
    let g = groups_and_rest len in
    let z : g * (length l + 1) ≡ g * length l + g = grind arith in
    omega (arith, z, sum_by-cons words_of (f x) (map f l), words_few len (f x) (head_long len (f x) (map f l) all), words_bound f len l (tail_long len (f x) (map f l) all))

pub twice_all : (g k s t w : ℕ) → w ≤ g * k → t ≤ s + w → t ≤ s + 2 * g * k
twice_all g k s t w h l =
    let z : 2 * g * k ≡ g * k + g * k = grind arith in
    omega (arith, z, h, l)
