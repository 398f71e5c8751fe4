-- Unions over sets of bins: for bins apart, an operation on two unions is the union over the operation on the sets.
use Rattle.std.proofs.Common.{◌≡◌, ◌==◌, ℕ, zero, suc, ◌+◌, ◌-◌, ◌<◌, ◌≤◌, Bool, true, false, ◌&&◌, ◌||◌, if◌then◌else◌, nat_lt, map, List, [], ◌∷◌, ◌++◌, All, length, take, drop, replicate, get_or, refl, sym, ap, ◌∙◌, ◌⊎◌, inl, inr, arith}
use Rattle.std.specs.List.{list_any, range_with_len}
use Rattle.std.proofs.lemmas.Bool.Decides.{nat_tests}
use Rattle.std.proofs.lemmas.List.{length-map, map-id}
use Rattle.std.proofs.lemmas.List.FromFn.{map-range_with_len_more}
use Rattle.std.proofs.lemmas.List.Elements.{All-drop}
use Rattle.wah_logic.specs.Logic.{each_place, and, or, union}
use Rattle.wah_logic.proofs.JoinLemmas.{each_replicate}
use Rattle.wah_logic.proofs.UnionLemmas.{each_zeros_left, length-union, union-one}
use Rattle.index_spec.specs.Members.{from_to}
use Rattle.binning.specs.declared.gathering.Bin.{Bin}
use Rattle.binning.specs.Members.{chosen, union_of, in_run, AreBins}
use Rattle.binning.specs.Encodings.{vectors}

-- ---- lists without a place that is true in both

pub Apart : List Bool → List Bool → Type 0
Apart [] w = Unit {0}
Apart (x ∷ v) [] = Unit {0}
Apart (x ∷ v) (y ∷ w) = (x ≡ true → y ≡ false) × Apart v w

apart_zeros : (v : List Bool) (n : ℕ) → Apart v (replicate n false)
unfolding Apart
apart_zeros [] n = tt
apart_zeros (x ∷ v) zero = tt
apart_zeros (x ∷ v) (suc n) = (λ h. refl, apart_zeros v n)

apart_or : (v a b : List Bool) → Apart v a → Apart v b → Apart v (each_place or a b)
unfolding Apart each_place
apart_or [] a b h k = tt
apart_or (x ∷ v) [] b h k = tt
apart_or (x ∷ v) (y ∷ a) [] h k = tt
apart_or (x ∷ v) (false ∷ a) (z ∷ b) h k = (k.0, apart_or v a b h.1 k.1)
apart_or (x ∷ v) (true ∷ a) (z ∷ b) h k = (h.0, apart_or v a b h.1 k.1)

-- v is apart from each
pub ApartFrom : List Bool → List (List Bool) → Type 0
ApartFrom v [] = Unit {0}
ApartFrom v (w ∷ ws) = Apart v w × ApartFrom v ws

-- each is apart from the later ones
pub AllApart : List (List Bool) → Type 0
AllApart [] = Unit {0}
AllApart (v ∷ vs) = ApartFrom v vs × AllApart vs

apart_chosen : (v : List Bool) (set : ℕ → Bool) (vs : List (List Bool)) → ApartFrom v vs → ApartFrom v (chosen set vs)
unfolding ApartFrom
apart_chosen v set [] h = tt
apart_chosen v set (w ∷ ws) h = elim (set 0) as (λ t. ApartFrom v (if t then w ∷ chosen (λ b. set (suc b)) ws else chosen (λ b. set (suc b)) ws))
    [ true ↦ (h.0, apart_chosen v (λ b. set (suc b)) ws h.1) | false ↦ apart_chosen v (λ b. set (suc b)) ws h.1 ]

apart_union : (v : List Bool) (len : ℕ) (vs : List (List Bool)) → ApartFrom v vs → Apart v (union len vs)
unfolding ApartFrom union
apart_union v len [] h = apart_zeros v len
apart_union v len (w ∷ ws) h = apart_or v w (union len ws) h.0 (apart_union v len ws h.1)

pub apart_union_of : (v : List Bool) (len : ℕ) (set : ℕ → Bool) (vs : List (List Bool)) → ApartFrom v vs → Apart v (union_of len set vs)
apart_union_of v len set vs h = apart_union v len (chosen set vs) (apart_chosen v set vs h)

-- ---- lengths

head_long : (len : ℕ) (v : List Bool) (vs : List (List Bool)) → All (λ x. length x ≡ len) (v ∷ vs) → length v ≡ len
head_long len v vs h = h 0 v (omega arith)

tail_long : (len : ℕ) (v : List Bool) (vs : List (List Bool)) → All (λ x. length x ≡ len) (v ∷ vs) → All (λ x. length x ≡ len) vs
tail_long len v vs h = All-drop (λ x. length x ≡ len) 1 (v ∷ vs) h

none_long : (len : ℕ) → let none : List (List Bool) = [] in All (λ x. length x ≡ len) none
none_long len k d h = absurd (omega arith)

more_long : (len : ℕ) (v : List Bool) (vs : List (List Bool)) → length v ≡ len → All (λ x. length x ≡ len) vs → All (λ x. length x ≡ len) (v ∷ vs)
more_long len v vs h k zero d l = h
more_long len v vs h k (suc i) d l = k i d (omega arith)

pub chosen_long : (len : ℕ) (set : ℕ → Bool) (vs : List (List Bool)) → All (λ x. length x ≡ len) vs → All (λ x. length x ≡ len) (chosen set vs)
chosen_long len set [] h = none_long len
chosen_long len set (v ∷ vs) h = elim (set 0) as (λ t. All (λ x. length x ≡ len) (if t then v ∷ chosen (λ b. set (suc b)) vs else chosen (λ b. set (suc b)) vs)) [
  | true ↦ more_long len v (chosen (λ b. set (suc b)) vs) (head_long len v vs h) (chosen_long len (λ b. set (suc b)) vs (tail_long len v vs h))
  | false ↦ chosen_long len (λ b. set (suc b)) vs (tail_long len v vs h)
]

pub length-union_of : (len : ℕ) (set : ℕ → Bool) (vs : List (List Bool)) → All (λ x. length x ≡ len) vs → length (union_of len set vs) ≡ len
length-union_of len set vs h = length-union len (chosen set vs) (chosen_long len set vs h)

-- ---- the first bin and the others

-- the list, or values that are all false
pub kept_if : Bool → List Bool → List Bool
kept_if s v = map (λ x. and s x) v

kept_true : (v : List Bool) → kept_if true v ≡ v
unfolding kept_if
kept_true [] = refl
kept_true (x ∷ v) = ap (λ l. x ∷ l) (kept_true v)

kept_false : (v : List Bool) → kept_if false v ≡ replicate (length v) false
unfolding kept_if
kept_false [] = refl
kept_false (x ∷ v) = ap (λ l. false ∷ l) (kept_false v)

pub union_of-cons : (len : ℕ) (set : ℕ → Bool) (v : List Bool) (vs : List (List Bool)) → All (λ x. length x ≡ len) (v ∷ vs) → union_of len set (v ∷ vs) ≡ each_place or (kept_if (set 0) v) (union_of len (λ b. set (suc b)) vs)
unfolding union
union_of-cons len set v vs h = elim (set 0) as (λ t. union len (if t then v ∷ chosen (λ b. set (suc b)) vs else chosen (λ b. set (suc b)) vs) ≡ each_place or (kept_if t v) (union_of len (λ b. set (suc b)) vs)) [
  | true ↦ ap (λ l. each_place or l (union_of len (λ b. set (suc b)) vs)) (sym (kept_true v))
  | false ↦ sym (ap (λ l. each_place or l (union_of len (λ b. set (suc b)) vs)) (kept_false v) ∙ each_zeros_left (length v) (union_of len (λ b. set (suc b)) vs) (length-union_of len (λ b. set (suc b)) vs (tail_long len v vs h) ∙ sym (head_long len v vs h)))
]

and_true : (x : Bool) → and x true ≡ x
and_true true = refl
and_true false = refl

and_false : (x : Bool) → and x false ≡ false
and_false true = refl
and_false false = refl

or_false : (x : Bool) → or x false ≡ x
or_false true = refl
or_false false = refl

-- at one place: x is the first bin's, y and z are those of unions of the others
place_op : (op : Bool → Bool → Bool) → op false false ≡ false → (s t x y z : Bool) → (x ≡ true → y ≡ false) → (x ≡ true → z ≡ false) → op (or (and s x) y) (or (and t x) z) ≡ or (and (op s t) x) (op y z)
place_op op e s t true y z h k = rw (h refl, k refl, and_true s, and_true t, or_false s, or_false t, e, and_true (op s t), or_false (op s t)) refl
place_op op e s t false y z h k = rw (and_false s, and_false t, and_false (op s t)) refl

each_op : (op : Bool → Bool → Bool) → op false false ≡ false → (s t : Bool) (v a b : List Bool) → length v ≡ length a → length v ≡ length b → Apart v a → Apart v b → each_place op (each_place or (kept_if s v) a) (each_place or (kept_if t v) b) ≡ each_place or (kept_if (op s t) v) (each_place op a b)
unfolding each_place kept_if Apart
each_op op e s t [] a b h k p q = refl
each_op op e s t (x ∷ v) [] b h k p q = absurd (omega arith)
each_op op e s t (x ∷ v) (y ∷ a) [] h k p q = absurd (omega arith)
each_op op e s t (x ∷ v) (y ∷ a) (z ∷ b) h k p q = rw (place_op op e s t x y z p.0 q.0, each_op op e s t v a b (omega arith) (omega arith) p.1 q.1) refl

-- The lemma: an operation that is false of false and false, on unions over two sets.
pub union_of-op : (op : Bool → Bool → Bool) → op false false ≡ false → (len : ℕ) (s t : ℕ → Bool) (vs : List (List Bool)) → All (λ x. length x ≡ len) vs → AllApart vs → each_place op (union_of len s vs) (union_of len t vs) ≡ union_of len (λ b. op (s b) (t b)) vs
unfolding AllApart union
union_of-op op e len s t [] h a = each_replicate op len false false ∙ ap (λ b. replicate len b) e
union_of-op op e len s t (v ∷ vs) h a =
    let more = tail_long len v vs h in
    let s' : ℕ → Bool = λ b. s (suc b) in
    let t' : ℕ → Bool = λ b. t (suc b) in
    let long = head_long len v vs h in
    rw (union_of-cons len s v vs h, union_of-cons len t v vs h, union_of-cons len (λ b. op (s b) (t b)) v vs h)
    (each_op op e (s 0) (t 0) v (union_of len s' vs) (union_of len t' vs) (long ∙ sym (length-union_of len s' vs more)) (long ∙ sym (length-union_of len t' vs more)) (apart_union_of v len s' vs a.0) (apart_union_of v len t' vs a.0)
    ∙ ap (λ l. each_place or (kept_if (op (s 0) (t 0)) v) l) (union_of-op op e len s' t' vs more a.1))

-- ---- sets

chosen-same : (s t : ℕ → Bool) (vs : List (List Bool)) → ((b : ℕ) → b < length vs → s b ≡ t b) → chosen s vs ≡ chosen t vs
chosen-same s t [] h = refl
chosen-same s t (v ∷ vs) h =
    let more = chosen-same (λ b. s (suc b)) (λ b. t (suc b)) vs (λ b l. h (suc b) (omega arith)) in
    ap (λ x. if x then v ∷ chosen (λ b. s (suc b)) vs else chosen (λ b. s (suc b)) vs) (h 0 (omega arith)) ∙ ap (λ l. if t 0 then v ∷ l else l) more

-- sets that agree on the numbers of bins
pub union_of-same : (len : ℕ) (s t : ℕ → Bool) (vs : List (List Bool)) → ((b : ℕ) → b < length vs → s b ≡ t b) → union_of len s vs ≡ union_of len t vs
union_of-same len s t vs h = ap (λ l. union len l) (chosen-same s t vs h)

pub chosen_all : (vs : List (List Bool)) → chosen (λ b. true) vs ≡ vs
chosen_all [] = refl
chosen_all (v ∷ vs) = ap (λ l. v ∷ l) (chosen_all vs)

pub union_of-all : (len : ℕ) (vs : List (List Bool)) → union len vs ≡ union_of len (λ b. true) vs
union_of-all len vs = ap (λ l. union len l) (sym (chosen_all vs))

chosen_none : (vs : List (List Bool)) → chosen (λ b. false) vs ≡ []
chosen_none [] = refl
chosen_none (v ∷ vs) = chosen_none vs

pub union_of-none : (len : ℕ) (vs : List (List Bool)) → union_of len (λ b. false) vs ≡ replicate len false
unfolding union
union_of-none len vs = ap (λ l. union len l) (chosen_none vs)

-- ---- unions of unions

or_is : (x y : Bool) → or x y ≡ (x || y)
or_is true y = refl
or_is false y = refl

-- a union of unions is the union over the bins that are in one of the sets
pub union-unions : (len : ℕ) (sets : ℕ → ℕ → Bool) (ks : List ℕ) (vs : List (List Bool)) → All (λ x. length x ≡ len) vs → AllApart vs → union len (map (λ k. union_of len (sets k) vs) ks) ≡ union_of len (λ b. list_any (λ k. sets k b) ks) vs
unfolding union
union-unions len sets [] vs h a = sym (union_of-none len vs)
union-unions len sets (k ∷ ks) vs h a =
    ap (λ l. each_place or (union_of len (sets k) vs) l) (union-unions len sets ks vs h a)
    ∙ union_of-op or refl len (sets k) (λ b. list_any (λ n. sets n b) ks) vs h a
    ∙ union_of-same len (λ b. or (sets k b) (list_any (λ n. sets n b) ks)) (λ b. list_any (λ n. sets n b) (k ∷ ks)) vs (λ b l. or_is (sets k b) (list_any (λ n. sets n b) ks))

-- ---- bins

places_apart : (v w : List Bool) → ((row : ℕ) → get_or v row false ≡ true → get_or w row false ≡ true → ⊥) → Apart v w
unfolding Apart
places_apart [] w h = tt
places_apart (x ∷ v) [] h = tt
places_apart (x ∷ v) (false ∷ w) h = (λ e. refl, places_apart v w (λ row. h (suc row)))
places_apart (false ∷ v) (true ∷ w) h = (λ e. sym e, places_apart v w (λ row. h (suc row)))
places_apart (true ∷ v) (true ∷ w) h = absurd (h 0 refl refl)

first_apart : (v : List Bool) (vs : List (List Bool)) → ((b row : ℕ) → get_or v row false ≡ true → get_or (get_or vs b []) row false ≡ true → ⊥) → ApartFrom v vs
unfolding ApartFrom
first_apart v [] h = tt
first_apart v (w ∷ ws) h = (places_apart v w (h 0), first_apart v ws (λ b. h (suc b)))

one_bin : List (List Bool) → Type 0
one_bin vs = (a b row : ℕ) → get_or (get_or vs a []) row false ≡ true → get_or (get_or vs b []) row false ≡ true → a ≡ b

all_apart : (vs : List (List Bool)) → one_bin vs → AllApart vs
unfolding AllApart one_bin
all_apart [] h = tt
all_apart (v ∷ vs) h = (
  first_apart v vs (λ b row x y. (let e : zero ≡ suc b = h 0 (suc b) row x y in absurd (omega (arith, e)))),
  all_apart vs (λ a b row x y. (let e : suc a ≡ suc b = h (suc a) (suc b) row x y in omega (arith, e))),
)

pub bins_apart : (len : ℕ) (vs : List (List Bool)) → AreBins len vs → AllApart vs
unfolding one_bin
bins_apart len vs h = all_apart vs h.apart

-- the lemma and that on unions of unions, of bins
pub bins-op : (op : Bool → Bool → Bool) → op false false ≡ false → (len : ℕ) (s t : ℕ → Bool) (vs : List (List Bool)) → AreBins len vs → each_place op (union_of len s vs) (union_of len t vs) ≡ union_of len (λ b. op (s b) (t b)) vs
bins-op op e len s t vs h = union_of-op op e len s t vs h.long (bins_apart len vs h)

pub bins-unions : (len : ℕ) (sets : ℕ → ℕ → Bool) (ks : List ℕ) (vs : List (List Bool)) → AreBins len vs → union len (map (λ k. union_of len (sets k) vs) ks) ≡ union_of len (λ b. list_any (λ k. sets k b) ks) vs
bins-unions len sets ks vs h = union-unions len sets ks vs h.long (bins_apart len vs h)

-- ---- numbers in a range

pub any-range : (b i n : ℕ) → list_any (λ k. b == k) (range_with_len i n) ≡ in_run i (i + n) b
any-range b i zero = grind (arith, nat_tests)
any-range b i (suc n) = rw (any-range b (i + 1) n) (grind (arith, nat_tests))

pub any-from_to : (b i j : ℕ) → i ≤ j → list_any (λ k. b == k) (from_to i j) ≡ in_run i j b
any-from_to b i j h = any-range b i (j - i) ∙ ap (λ e. in_run i e b) (omega arith)

-- ---- groups of bins as bins

kept_if-union_of : (len : ℕ) (s : Bool) (set : ℕ → Bool) (vs : List (List Bool)) → All (λ x. length x ≡ len) vs → kept_if s (union_of len set vs) ≡ union_of len (λ b. s && set b) vs
kept_if-union_of len true set vs h = kept_true (union_of len set vs)
kept_if-union_of len false set vs h = kept_false (union_of len set vs) ∙ ap (λ n. replicate n false) (length-union_of len set vs h) ∙ sym (union_of-none len vs)

and_one : (x : Bool) → or (x && true) false ≡ x
and_one true = refl
and_one false = refl

and_none : (x : Bool) → (x && false) ≡ false
and_none true = refl
and_none false = refl

-- the bins of each class t of n classes from a on
abbrev pub classes : ℕ → (ℕ → ℕ) → List (List Bool) → ℕ → ℕ → List (List Bool)
classes len class vs a n = map (λ t. union_of len (λ b. class b == t) vs) (range_with_len a n)

classes_long : (len : ℕ) (class : ℕ → ℕ) (vs : List (List Bool)) (a n : ℕ) → All (λ x. length x ≡ len) vs → All (λ x. length x ≡ len) (classes len class vs a n)
classes_long len class vs a zero h = none_long len
classes_long len class vs a (suc n) h = more_long len (union_of len (λ b. class b == a) vs) (classes len class vs (a + 1) n) (length-union_of len (λ b. class b == a) vs h) (classes_long len class vs (a + 1) n h)

first_class : (set : ℕ → Bool) (a n c : ℕ) → or (set (a + 0) && (c == a)) (in_run (a + 1) (a + 1 + n) c && set c) ≡ (in_run a (a + suc n) c && set c)
first_class set a n c = elim (c == a) as (λ t. (c == a) ≡ t → or (set (a + 0) && t) (in_run (a + 1) (a + 1 + n) c && set c) ≡ (in_run a (a + suc n) c && set c)) [
  | true ↦ λ e. (let same : c ≡ a + 0 = grind (arith, nat_tests) in let out : in_run (a + 1) (a + 1 + n) c ≡ false = grind (arith, nat_tests) in let inside : in_run a (a + suc n) c ≡ true = grind (arith, nat_tests) in rw (out, inside, ← ap set same) (and_one (set c)))
  | false ↦ λ e. (let same : in_run (a + 1) (a + 1 + n) c ≡ in_run a (a + suc n) c = grind (arith, nat_tests) in rw (and_none (set (a + 0)), same) refl)
]
    refl

-- a union of classes is the union of the bins whose class is in the set
classes-union : (len : ℕ) (class : ℕ → ℕ) (vs : List (List Bool)) (set : ℕ → Bool) (a n : ℕ) → All (λ x. length x ≡ len) vs → AllApart vs → union_of len (λ t. set (a + t)) (classes len class vs a n) ≡ union_of len (λ b. in_run a (a + n) (class b) && set (class b)) vs
unfolding union
classes-union len class vs set a zero h p = sym (union_of-same len (λ b. in_run a (a + 0) (class b) && set (class b)) (λ b. false) vs (λ b l. (let none : in_run a (a + 0) (class b) ≡ false = grind (arith, nat_tests) in ap (λ t. t && set (class b)) none)) ∙ union_of-none len vs)
classes-union len class vs set a (suc n) h p =
    union_of-cons len (λ t. set (a + t)) (union_of len (λ b. class b == a) vs) (classes len class vs (a + 1) n) (classes_long len class vs a (suc n) h)
    ∙ ap (λ l. each_place or l (union_of len (λ t. set (a + suc t)) (classes len class vs (a + 1) n))) (kept_if-union_of len (set (a + 0)) (λ b. class b == a) vs h)
    ∙ ap (λ l. each_place or (union_of len (λ b. set (a + 0) && (class b == a)) vs) l)
    (union_of-same len (λ t. set (a + suc t)) (λ t. set (a + 1 + t)) (classes len class vs (a + 1) n) (λ t l. ap set (omega arith)) ∙ classes-union len class vs set (a + 1) n h p)
    ∙ union_of-op or refl len (λ b. set (a + 0) && (class b == a)) (λ b. in_run (a + 1) (a + 1 + n) (class b) && set (class b)) vs h p
    ∙ union_of-same len (λ b. or (set (a + 0) && (class b == a)) (in_run (a + 1) (a + 1 + n) (class b) && set (class b))) (λ b. in_run a (a + suc n) (class b) && set (class b)) vs (λ b l. first_class set a n (class b))

-- the class of each bin is one of the n
pub union_of-classes : (len : ℕ) (class : ℕ → ℕ) (vs : List (List Bool)) (set : ℕ → Bool) (n : ℕ) → AreBins len vs → ((b : ℕ) → b < length vs → class b < n) → union_of len set (classes len class vs 0 n) ≡ union_of len (λ b. set (class b)) vs
union_of-classes len class vs set n h below =
    union_of-same len set (λ t. set (0 + t)) (classes len class vs 0 n) (λ b l. ap set (omega arith))
    ∙ classes-union len class vs set 0 n h.long (bins_apart len vs h)
    ∙ union_of-same len (λ b. in_run 0 (0 + n) (class b) && set (class b)) (λ b. set (class b)) vs (λ b l. (let few : class b < n = below b l in let inside : in_run 0 (0 + n) (class b) ≡ true = grind (arith, nat_tests) in ap (λ t. t && set (class b)) inside))

-- a row that is true in a union is true in a bin of the set
true_of_each : (v w : List Bool) (row : ℕ) → get_or (each_place or v w) row false ≡ true → (get_or v row false ≡ true) ⊎ (get_or w row false ≡ true)
unfolding each_place
true_of_each [] w row h = absurd (cc)
true_of_each (x ∷ v) [] row h = absurd (cc)
true_of_each (true ∷ v) (y ∷ w) zero h = inl refl
true_of_each (false ∷ v) (y ∷ w) zero h = inr h
true_of_each (x ∷ v) (y ∷ w) (suc row) h = true_of_each v w row h

not_in_zeros : (n row : ℕ) → get_or (replicate n false) row false ≡ false
not_in_zeros zero row = refl
not_in_zeros (suc n) zero = refl
not_in_zeros (suc n) (suc row) = not_in_zeros n row

-- bin b of the set has the row
pub record HasRow (set : ℕ → Bool) (vs : List (List Bool)) (row b : ℕ) : Type 0 where
  pub chosen : set b ≡ true
  pub has : get_or (get_or vs b []) row false ≡ true

kept_row : (s : Bool) (v : List Bool) (row : ℕ) → get_or (kept_if s v) row false ≡ true → (s ≡ true) × (get_or v row false ≡ true)
kept_row true v row h = (refl, sym (ap (λ l. get_or l row false) (kept_true v)) ∙ h)
kept_row false v row h = absurd (let e : get_or (kept_if false v) row false ≡ false = ap (λ l. get_or l row false) (kept_false v) ∙ not_in_zeros (length v) row in cc)

pub row_of_bin : (len : ℕ) (set : ℕ → Bool) (vs : List (List Bool)) (row : ℕ) → All (λ x. length x ≡ len) vs → get_or (union_of len set vs) row false ≡ true → (b : ℕ) × HasRow set vs row b
unfolding union
row_of_bin len set [] row h e = absurd (let f : get_or (replicate len false) row false ≡ false = not_in_zeros len row in cc)
row_of_bin len set (v ∷ vs) row h e =
    elim (true_of_each (kept_if (set 0) v) (union_of len (λ b. set (suc b)) vs) row (sym (ap (λ l. get_or l row false) (union_of-cons len set v vs h)) ∙ e)) [
      | inl x ↦ (let k = kept_row (set 0) v row x in (0, record { chosen = k.0; has = k.1 }))
      | inr x ↦ (let r = row_of_bin len (λ b. set (suc b)) vs row (tail_long len v vs h) x in (suc (r.0), record { chosen = r.1.chosen; has = r.1.has }))
    ]

class_at : (len : ℕ) (class : ℕ → ℕ) (vs : List (List Bool)) (a n t row : ℕ) → All (λ x. length x ≡ len) vs → get_or (get_or (classes len class vs a n) t []) row false ≡ true → (b : ℕ) × (class b ≡ a + t) × (get_or (get_or vs b []) row false ≡ true)
class_at len class vs a zero t row h e = absurd (cc)
class_at len class vs a (suc n) zero row h e = (let r = row_of_bin len (λ b. class b == a) vs row h e in (r.0, grind (arith, nat_tests, r.1.chosen), r.1.has))
class_at len class vs a (suc n) (suc t) row h e = (let r = class_at len class vs (a + 1) n t row h e in (r.0, omega (arith, r.1), r.2))

pub classes_are_bins : (len : ℕ) (class : ℕ → ℕ) (vs : List (List Bool)) (n : ℕ) → AreBins len vs → AreBins len (classes len class vs 0 n)
classes_are_bins len class vs n h = record {
  long = classes_long len class vs 0 n h.long;
  apart = λ a b row x y. (let r = class_at len class vs 0 n a row h.long x in let t = class_at len class vs 0 n b row h.long y in let e : r.0 ≡ t.0 = h.apart r.0 t.0 row r.2 t.2 in omega (arith, r.1, t.1, ap class e));
}

-- ---- one bin

pub bin_is : (len : ℕ) (vs : List (List Bool)) (k : ℕ) (d : List Bool) → All (λ x. length x ≡ len) vs → k < length vs → get_or vs k d ≡ union_of len (λ b. b == k) vs
unfolding union
bin_is len [] k d h l = absurd (omega arith)
bin_is len (v ∷ vs) zero d h l =
    sym (union_of-cons len (λ b. b == 0) v vs h
    ∙ ap (λ u. each_place or (kept_if true v) u) (union_of-same len (λ b. suc b == 0) (λ b. false) vs (λ b m. grind (arith, nat_tests)) ∙ union_of-none len vs)
    ∙ union-one len (kept_if true v) (ap length (kept_true v) ∙ head_long len v vs h)
    ∙ kept_true v)
bin_is len (v ∷ vs) (suc k) d h l =
    let other : (0 == suc k) ≡ false = grind (arith, nat_tests) in
    bin_is len vs k d (tail_long len v vs h) (omega arith)
    ∙ sym (union_of-cons len (λ b. b == suc k) v vs h
    ∙ ap (λ u. each_place or u (union_of len (λ b. suc b == suc k) vs)) (ap (λ t. kept_if t v) other ∙ kept_false v)
    ∙ each_zeros_left (length v) (union_of len (λ b. suc b == suc k) vs) (length-union_of len (λ b. suc b == suc k) vs (tail_long len v vs h) ∙ sym (head_long len v vs h))
    ∙ union_of-same len (λ b. suc b == suc k) (λ b. b == k) vs (λ b m. grind (arith, nat_tests)))

get_or-vectors : (bins : List Bin) (k : ℕ) (d : Bin) (e : List Bool) → k < length bins → get_or (vectors bins) k e ≡ (get_or bins k d).rows
get_or-vectors [] k d e h = absurd (omega arith)
get_or-vectors (b ∷ bins) zero d e h = refl
get_or-vectors (b ∷ bins) (suc k) d e h = get_or-vectors bins k d e (omega arith)

-- the rows of bin k
pub rows_of_bin : (len : ℕ) (bins : List Bin) (k : ℕ) (bin : Bin) → AreBins len (vectors bins) → k < length bins → bin ≡ get_or bins k bin → bin.rows ≡ union_of len (λ b. b == k) (vectors bins)
rows_of_bin len bins k bin h l e =
    ap (λ b. b.rows) e ∙ sym (get_or-vectors bins k bin [] l) ∙ bin_is len (vectors bins) k [] h.long (omega (arith, length-map bins (λ b. b.rows)))

-- a list is told by what stands at each place
listed : {A : Type 0} (f : ℕ → A) (a : ℕ) (xs : List A) → ((k : ℕ) (d : A) → k < length xs → get_or xs k d ≡ f (a + k)) → xs ≡ map f (range_with_len a (length xs))
listed f a [] h = refl
listed f a (x ∷ xs) h = let here : a + 0 ≡ a = omega arith in ap (λ y. y ∷ xs) (h 0 x (omega arith) ∙ ap f here) ∙ ap (λ l. f a ∷ l) (listed f (a + 1) xs (λ k d l. h (suc k) d (omega arith) ∙ ap f (omega arith)))

-- the bins are the unions over one bin each
pub all_bins : (len : ℕ) (vs : List (List Bool)) → AreBins len vs → vs ≡ map (λ k. union_of len (λ b. b == k) vs) (from_to 0 (length vs))
all_bins len vs h =
    let same : length vs ≡ length vs - 0 = omega arith in
    listed (λ k. union_of len (λ b. b == k) vs) 0 vs (λ k d l. bin_is len vs k d h.long l ∙ ap (λ m. union_of len (λ b. b == m) vs) (omega arith)) ∙ ap (λ n. map (λ k. union_of len (λ b. b == k) vs) (range_with_len 0 n)) same

pub from_to_more : (i j : ℕ) → i ≤ j → from_to i (j + 1) ≡ from_to i j ++ j ∷ []
from_to_more i j h =
    ap (λ n. range_with_len i n) (omega arith) ∙ sym (map-id (range_with_len i (j - i + 1))) ∙ map-range_with_len_more (λ x. x) i (j - i) j (omega arith) ∙ ap (λ l. l ++ j ∷ []) (map-id (from_to i j))

-- ---- the bins of a run

take_none : {A : Type 0} (n : ℕ) → let none : List A = [] in take n none ≡ none
take_none zero = refl
take_none (suc n) = refl

drop_none : {A : Type 0} (n : ℕ) → let none : List A = [] in drop n none ≡ none
drop_none zero = refl
drop_none (suc n) = refl

chosen_front : (w : ℕ) (set : ℕ → Bool) (vs : List (List Bool)) → ((b : ℕ) → set b ≡ nat_lt b w) → chosen set vs ≡ take w vs
chosen_front w set [] h = sym (take_none w)
chosen_front zero set (v ∷ vs) h =
    let out : set 0 ≡ false = h 0 ∙ grind (arith, nat_tests) in
    ap (λ t. if t then v ∷ chosen (λ b. set (suc b)) vs else chosen (λ b. set (suc b)) vs) out ∙ chosen_front zero (λ b. set (suc b)) vs (λ b. h (suc b) ∙ grind (arith, nat_tests))
chosen_front (suc w) set (v ∷ vs) h =
    let inside : set 0 ≡ true = h 0 ∙ grind (arith, nat_tests) in
    ap (λ t. if t then v ∷ chosen (λ b. set (suc b)) vs else chosen (λ b. set (suc b)) vs) inside ∙ ap (λ l. v ∷ l) (chosen_front w (λ b. set (suc b)) vs (λ b. h (suc b) ∙ grind (arith, nat_tests)))

chosen_run : (i j : ℕ) (set : ℕ → Bool) (vs : List (List Bool)) → ((b : ℕ) → set b ≡ in_run i j b) → chosen set vs ≡ take (j - i) (drop i vs)
chosen_run i j set [] h = sym (ap (λ l. take (j - i) l) (drop_none i) ∙ take_none (j - i))
chosen_run zero j set (v ∷ vs) h =
    let same : j ≡ j - 0 = omega arith in
    chosen_front j set (v ∷ vs) (λ b. h b ∙ grind (arith, nat_tests)) ∙ ap (λ n. take n (v ∷ vs)) same
chosen_run (suc i) j set (v ∷ vs) h =
    let out : set 0 ≡ false = h 0 ∙ grind (arith, nat_tests) in
    ap (λ t. if t then v ∷ chosen (λ b. set (suc b)) vs else chosen (λ b. set (suc b)) vs) out
    ∙ chosen_run i (j - 1) (λ b. set (suc b)) vs (λ b. h (suc b) ∙ grind (arith, nat_tests))
    ∙ ap (λ n. take n (drop i vs)) (omega arith)

vectors-take : (n : ℕ) (bins : List Bin) → vectors (take n bins) ≡ take n (vectors bins)
vectors-take zero bins = refl
vectors-take (suc n) [] = refl
vectors-take (suc n) (b ∷ bins) = ap (λ l. b.rows ∷ l) (vectors-take n bins)

vectors-drop : (n : ℕ) (bins : List Bin) → vectors (drop n bins) ≡ drop n (vectors bins)
vectors-drop zero bins = refl
vectors-drop (suc n) [] = refl
vectors-drop (suc n) (b ∷ bins) = vectors-drop n bins

-- the union of the bins from i to j - 1, as they stand in the list
pub union-run : (len i j : ℕ) (bins : List Bin) → union len (vectors (take (j - i) (drop i bins))) ≡ union_of len (in_run i j) (vectors bins)
union-run len i j bins = ap (λ l. union len l) (vectors-take (j - i) (drop i bins) ∙ ap (λ l. take (j - i) l) (vectors-drop i bins) ∙ sym (chosen_run i j (in_run i j) (vectors bins) (λ b. refl)))

pub union-front : (len w : ℕ) (bins : List Bin) → union len (vectors (take w bins)) ≡ union_of len (in_run 0 w) (vectors bins)
union-front len w bins = ap (λ l. union len l) (vectors-take w bins ∙ sym (chosen_front w (in_run 0 w) (vectors bins) (λ b. grind (arith, nat_tests))))
