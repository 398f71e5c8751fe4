-- Numbers in rising order, each once; numbers in order.
use Rattle.std.proofs.Common.{◌≡◌, ℕ, zero, suc, ◌+◌, ◌<◌, ◌≤◌, Bool, true, false, not, ◌||◌, cond, List, [], ◌∷◌, ◌++◌, length, get_or, ℤ, ◌≤ℤ◌, ◌<ℤ◌, int_lt, refl, sym, ap, ◌∙◌, add-one, ◌-◌, eqb, subst, arith}
use Rattle.std.specs.List.{sum_by, AllByRecursion}
use Rattle.std.specs.Ordering.{int_eq}
use Rattle.std.proofs.lemmas.Bool.Decides.{Decides-int_eq}
use Rattle.std.specs.List.Sorted.{IsSorted, IsPermutation}
use Rattle.std.specs.Ordering.{int_cmp, is_lt}
use Rattle.std.proofs.lemmas.List.Sums.{sum_by-cons}
use Rattle.std.proofs.lemmas.List.Folds.{list_any-append}
use Rattle.std.proofs.lemmas.List.Sorted.{sum_by-IsPermutation}
use Rattle.std.proofs.lemmas.Int.{ints, to_z-of_z}
use Rattle.std.proofs.lemmas.Bool.Decides.{nat_tests}
use Rattle.std.specs.Int.{w128}
use Rattle.std.specs.List.{count_by}
use Rattle.std.specs.List.Sorted.{IsPartitionedBy, IsPartitionPoint}
use mir.Val.{SFits, of_z, to_z}
use Rattle.binning.specs.Spans.{int_le}
use Rattle.index_spec.specs.Meaning.{rises}
use Rattle.index_spec.specs.Language.{IsGivenBinning}
use Rattle.index_spec.specs.declared.spec.Binning.{Binning}
use Rattle.index_spec.specs.declared.spec.Binning.TheVariants as binning
use Rattle.binning.specs.Keys.{put, rising, placed, sorted, Rises, IsKeying, keying_of, width_bounds, weight_bounds, Weak}
use Rattle.binning.specs.Gathered.{is_in, AreDistinct}
use Rattle.binning.proofs.TestLemmas.{either, not_both, or-false}

pub eq_from : (a b : ℤ) → int_eq a b ≡ true → a ≡ b
eq_from a b h = (Decides-int_eq a b).0 h

pub eq_true : (a b : ℤ) → a ≡ b → int_eq a b ≡ true
eq_true a b e = (Decides-int_eq a b).1 e

pub eq_self : (a : ℤ) → int_eq a a ≡ true
eq_self a = eq_true a a refl

pub eq_false : (a b : ℤ) → (a ≡ b → ⊥) → int_eq a b ≡ false
eq_false a b h = either (int_eq a b) (λ t. absurd (h (eq_from a b t))) (λ f. f)

pub lt_not_eq : (a b : ℤ) → a <ℤ b → int_eq a b ≡ false
lt_not_eq a b h = eq_false a b (λ e. let z : a ≡ b = e in omega (arith, ints))

pub gt_not_eq : (a b : ℤ) → b <ℤ a → int_eq a b ≡ false
gt_not_eq a b h = eq_false a b (λ e. let z : a ≡ b = e in omega (arith, ints))

pub or_left : (a b : Bool) → a ≡ true → (a || b) ≡ true
or_left a b h = rw h refl

pub or_right : (a b : Bool) → a ≡ false → (a || b) ≡ b
or_right a b h = rw h refl

pub lt_of : (a b : ℤ) → int_lt a b ≡ true → a <ℤ b
lt_of a b h = grind (arith, ints)

pub le_of : (a b : ℤ) → int_lt a b ≡ false → b ≤ℤ a
le_of a b h = grind (arith, ints)

or_no : (a b : Bool) → (a || b) ≡ false → (a ≡ false) × (b ≡ false)
or_no true b h = absurd (not_both refl h)
or_no false b h = (refl, h)

pub strict : (x b : ℤ) → x ≤ℤ b → int_eq b x ≡ false → x <ℤ b
strict x b h f =
    either (int_lt x b) (λ t. lt_of x b t) (λ g. let e : b ≡ x = omega (arith, ints, le_of x b g) in absurd (not_both (eq_true b x e) f))

-- ---- rising lists

-- the first is below all others
pub rises_above : (x : ℤ) (xs : List ℤ) → Rises (x ∷ xs) → (y : ℤ) → is_in y xs ≡ true → x <ℤ y
rises_above x [] r y h = absurd (cc)
rises_above x (z ∷ xs) r y h =
    either (int_eq y z)
    (λ e. rw (eq_from y z e) r.0)
    (λ f. let later = rises_above z xs r.1 y (sym (or_right (int_eq y z) (is_in y xs) f) ∙ h) in let first = r.0 in omega (arith, ints))

pub rises_tail : (x : ℤ) (xs : List ℤ) → Rises (x ∷ xs) → Rises xs
rises_tail x [] r = tt
rises_tail x (y ∷ xs) r = r.1

pub rises_cons : (x : ℤ) (xs : List ℤ) → Rises xs → ((y : ℤ) → is_in y xs ≡ true → x <ℤ y) → Rises (x ∷ xs)
rises_cons x [] r h = tt
rises_cons x (y ∷ xs) r h = (h y (or_left (int_eq y y) (is_in y xs) (eq_self y)), r)

-- the first isn't among the others
pub not_later : (x : ℤ) (xs : List ℤ) → Rises (x ∷ xs) → is_in x xs ≡ false
not_later x xs r = either (is_in x xs) (λ t. let h = rises_above x xs r x t in absurd (omega (arith, ints))) (λ f. f)

tail_same : (x : ℤ) (xs ys : List ℤ) → Rises (x ∷ xs) → Rises (x ∷ ys) → ((v : ℤ) → is_in v (x ∷ xs) ≡ is_in v (x ∷ ys)) → (v : ℤ) → is_in v xs ≡ is_in v ys
tail_same x xs ys rx ry same v =
    either (int_eq v x)
    (λ e. rw (eq_from v x e) (not_later x xs rx ∙ sym (not_later x ys ry)))
    (λ f. sym (or_right (int_eq v x) (is_in v xs) f) ∙ same v ∙ or_right (int_eq v x) (is_in v ys) f)

-- rising lists with the same members are one
pub rises_same : (xs ys : List ℤ) → Rises xs → Rises ys → ((v : ℤ) → is_in v xs ≡ is_in v ys) → xs ≡ ys
rises_same [] [] rx ry same = refl
rises_same [] (y ∷ ys) rx ry same = absurd (not_both (same y ∙ or_left (int_eq y y) (is_in y ys) (eq_self y)) refl)
rises_same (x ∷ xs) [] rx ry same = absurd (not_both (or_left (int_eq x x) (is_in x xs) (eq_self x)) (same x))
rises_same (x ∷ xs) (y ∷ ys) rx ry same =
    either (int_lt x y)
    (λ less. absurd (missing x y xs ys ry (lt_of x y less) (λ t. sym (same x) ∙ t)))
    (λ f. either (int_lt y x)
    (λ more. absurd (missing y x ys xs rx (lt_of y x more) (λ t. same y ∙ t)))
    (λ g. let e : x ≡ y = omega (arith, ints, le_of x y f, le_of y x g) in
    subst (λ (z : ℤ). Rises (z ∷ ys) → ((v : ℤ) → is_in v (x ∷ xs) ≡ is_in v (z ∷ ys)) → x ∷ xs ≡ z ∷ ys) e
    (λ r h. ap (λ zs. x ∷ zs) (rises_same xs ys (rises_tail x xs rx) (rises_tail x ys r) (tail_same x xs ys rx r h))) ry same))
  where
    missing : (x y : ℤ) (xs ys : List ℤ) → Rises (y ∷ ys) → x <ℤ y → ((is_in x (x ∷ xs) ≡ true) → is_in x (y ∷ ys) ≡ true) → ⊥
    missing x y xs ys ry less h =
        let there = h (or_left (int_eq x x) (is_in x xs) (eq_self x)) in
        let later : is_in x ys ≡ true = sym (or_right (int_eq x y) (is_in x ys) (lt_not_eq x y less)) ∙ there in
        let up = rises_above y ys ry x later in
        omega (arith, ints)

-- ---- a number put into a rising list

or_swap : (a b c : Bool) → (a || (b || c)) ≡ (b || (a || c))
or_swap true true c = refl
or_swap true false c = refl
or_swap false true c = refl
or_swap false false c = refl

pub is_in-put : (k v : ℤ) (xs : List ℤ) → is_in v (put k xs) ≡ (int_eq v k || is_in v xs)
is_in-put k v [] = refl
is_in-put k v (x ∷ xs) =
    either (int_lt k x)
    (λ less. rw less refl)
    (λ f. either (int_lt x k)
    (λ more. rw (f, more, is_in-put k v xs) (or_swap (int_eq v x) (int_eq v k) (is_in v xs)))
    (λ g. let e : x ≡ k = omega (arith, ints, le_of k x f, le_of x k g) in rw (f, g, ← e) (twice (int_eq v x) (is_in v xs))))
  where
    twice : (a b : Bool) → (a || b) ≡ (a || (a || b))
    twice true b = refl
    twice false b = refl

pub put-Rises : (k : ℤ) (xs : List ℤ) → Rises xs → Rises (put k xs)
put-Rises k [] r = tt
put-Rises k (x ∷ xs) r =
    either (int_lt k x)
    (λ less. rw less (lt_of k x less, r))
    (λ f. either (int_lt x k)
    (λ more. rw (f, more) (rises_cons x (put k xs) (put-Rises k xs (rises_tail x xs r)) (above k x xs r (lt_of x k more))))
    (λ g. rw (f, g) r))
  where
    above : (k x : ℤ) (xs : List ℤ) → Rises (x ∷ xs) → x <ℤ k → (y : ℤ) → is_in y (put k xs) ≡ true → x <ℤ y
    above k x xs r up y h =
        either (int_eq y k)
        (λ e. rw (eq_from y k e) up)
        (λ f. rises_above x xs r y (sym (or_right (int_eq y k) (is_in y xs) f) ∙ sym (is_in-put k y xs) ∙ h))

-- the numbers of a list, rising, rise and are those of the list
pub rising-Rises : (xs : List ℤ) → Rises (rising xs)
rising-Rises [] = tt
rising-Rises (x ∷ xs) = put-Rises x (rising xs) (rising-Rises xs)

pub is_in-rising : (v : ℤ) (xs : List ℤ) → is_in v (rising xs) ≡ is_in v xs
is_in-rising v [] = refl
is_in-rising v (x ∷ xs) = is_in-put x v (rising xs) ∙ ap (λ b. int_eq v x || b) (is_in-rising v xs)

pub rising_from : (xs ys : List ℤ) → Rises xs → ((v : ℤ) → is_in v xs ≡ is_in v ys) → xs ≡ rising ys
rising_from xs ys r same = rises_same xs (rising ys) r (rising-Rises ys) (λ v. same v ∙ sym (is_in-rising v ys))

-- ---- a bound that is at least each of the others

pub eq_swap : (a b : ℤ) → int_eq a b ≡ int_eq b a
eq_swap a b = either (int_eq a b) (λ t. t ∙ sym (eq_true b a (sym (eq_from a b t)))) (λ f. f ∙ sym (eq_false b a (λ e. not_both (eq_true a b (sym e)) f)))

pub last_tells : (b : ℤ) (xs : List ℤ) (d : ℤ) → Rises xs → AllByRecursion (λ x. x ≤ℤ b) xs → 0 < length xs → is_in b xs ≡ int_eq (get_or xs (length xs - 1) d) b
last_tells b [] d r all some = absurd (omega arith)
last_tells b (x ∷ []) d r all some = or-false (int_eq b x) ∙ eq_swap b x
last_tells b (x ∷ y ∷ xs) d r all some =
    let up : x <ℤ b = omega (arith, ints, r.0, all.1.0) in
    let f : int_eq b x ≡ false = gt_not_eq b x up in
    let rest = last_tells b (y ∷ xs) d r.1 all.1 (omega arith) in
    let i : suc (suc (length xs)) - 1 ≡ suc (suc (length xs) - 1) = omega arith in
    or_right (int_eq b x) (is_in b (y ∷ xs)) f ∙ rest ∙ ap (λ n. int_eq (get_or (x ∷ y ∷ xs) n d) b) (sym i)

pub is_in-append : (v : ℤ) (xs : List ℤ) (y : ℤ) → is_in v (xs ++ y ∷ []) ≡ (is_in v xs || int_eq v y)
is_in-append v xs y = list_any-append (int_eq v) xs (y ∷ []) ∙ ap (λ b. is_in v xs || b) (or-false (int_eq v y))

pub is_in_again : (v b : ℤ) (xs : List ℤ) → is_in b xs ≡ true → is_in v xs ≡ (is_in v xs || int_eq v b)
is_in_again v b xs h =
    either (int_eq v b)
    (λ e. let t : is_in v xs ≡ true = rw (eq_from v b e) h in rw t refl)
    (λ f. rw f (sym (or-false (is_in v xs))))

pub rises_push : (b : ℤ) (xs : List ℤ) → Rises xs → AllByRecursion (λ x. x ≤ℤ b) xs → is_in b xs ≡ false → Rises (xs ++ b ∷ [])
rises_push b [] r all f = tt
rises_push b (x ∷ []) r all f = (strict x b all.0 (or_no (int_eq b x) false f).0, tt)
rises_push b (x ∷ y ∷ xs) r all f = (r.0, rises_push b (y ∷ xs) r.1 all.1 (or_no (int_eq b x) (is_in b (y ∷ xs)) f).1)

pub all_le_push : (b : ℤ) (xs : List ℤ) → AllByRecursion (λ x. x ≤ℤ b) xs → AllByRecursion (λ x. x ≤ℤ b) (xs ++ b ∷ [])
all_le_push b [] all = (omega (arith, ints), tt)
all_le_push b (x ∷ xs) all = (all.0, all_le_push b xs all.1)

pub all_le_up : (a b : ℤ) (xs : List ℤ) → a ≤ℤ b → AllByRecursion (λ x. x ≤ℤ a) xs → AllByRecursion (λ x. x ≤ℤ b) xs
all_le_up a b [] h all = tt
all_le_up a b (x ∷ xs) h all = (omega (arith, ints, all.0), all_le_up a b xs h all.1)

-- ---- numbers in order

abbrev pub occurs : ℤ → List ℤ → ℕ
occurs v xs = sum_by (λ x. cond (int_eq v x) 1 0) xs

occurs-cons : (v x : ℤ) (xs : List ℤ) → occurs v (x ∷ xs) ≡ cond (int_eq v x) 1 0 + occurs v xs
occurs-cons v x xs = sum_by-cons (λ x. cond (int_eq v x) 1 0) x xs

occurs-self : (x : ℤ) (xs : List ℤ) → occurs x (x ∷ xs) ≡ 1 + occurs x xs
occurs-self x xs = occurs-cons x x xs ∙ (rw (eq_self x) refl)

pub weak_tail : (x : ℤ) (xs : List ℤ) → Weak (x ∷ xs) → Weak xs
weak_tail x [] w = tt
weak_tail x (y ∷ xs) w = w.1

-- a number below the first of them isn't there
occurs-below : (v x : ℤ) (xs : List ℤ) → v <ℤ x → Weak (x ∷ xs) → occurs v (x ∷ xs) ≡ 0
occurs-below v x [] less w = occurs-cons v x [] ∙ (rw (lt_not_eq v x less) refl)
occurs-below v x (y ∷ xs) less w =
    let up : v <ℤ y = omega (arith, ints, w.0) in
    occurs-cons v x (y ∷ xs) ∙ (rw (lt_not_eq v x less, occurs-below v y xs up w.1) refl)

weak_same : (xs ys : List ℤ) → Weak xs → Weak ys → ((v : ℤ) → occurs v xs ≡ occurs v ys) → xs ≡ ys
weak_same [] [] wx wy same = refl
weak_same [] (y ∷ ys) wx wy same = absurd (let a = same y in let b = occurs-self y ys in omega arith)
weak_same (x ∷ xs) [] wx wy same = absurd (let a = same x in let b = occurs-self x xs in omega arith)
weak_same (x ∷ xs) (y ∷ ys) wx wy same =
    either (int_lt x y)
    (λ less. absurd (let a = same x in let b = occurs-self x xs in let z = occurs-below x y ys (lt_of x y less) wy in omega arith))
    (λ f. either (int_lt y x)
    (λ more. absurd (let a = same y in let b = occurs-self y ys in let z = occurs-below y x xs (lt_of y x more) wx in omega arith))
    (λ g. let e : x ≡ y = omega (arith, ints, le_of x y f, le_of y x g) in
    rw e (ap (λ zs. y ∷ zs) (weak_same xs ys (weak_tail x xs wx) (weak_tail y ys wy) (λ v. rest v x y xs ys e (same v))))))
  where
    rest : (v x y : ℤ) (xs ys : List ℤ) → x ≡ y → occurs v (x ∷ xs) ≡ occurs v (y ∷ ys) → occurs v xs ≡ occurs v ys
    rest v x y xs ys e h =
        let a = occurs-cons v x xs in
        let b : occurs v (y ∷ ys) ≡ cond (int_eq v x) 1 0 + occurs v ys = rw e (occurs-cons v y ys) in
        omega arith

occurs-placed : (v k : ℤ) (xs : List ℤ) → occurs v (placed k xs) ≡ occurs v (k ∷ xs)
occurs-placed v k [] = refl
occurs-placed v k (x ∷ xs) =
    either (int_lt x k)
    (λ less. rw less (later v k x xs (occurs-placed v k xs)))
    (λ f. rw f refl)
  where
    later : (v k x : ℤ) (xs : List ℤ) → occurs v (placed k xs) ≡ occurs v (k ∷ xs) → occurs v (x ∷ placed k xs) ≡ occurs v (k ∷ x ∷ xs)
    later v k x xs ih =
        let a = occurs-cons v x (placed k xs) in
        let b = occurs-cons v k xs in
        let c = occurs-cons v k (x ∷ xs) in
        let d = occurs-cons v x xs in
        omega (arith, ih)

placed-Weak : (k : ℤ) (xs : List ℤ) → Weak xs → Weak (placed k xs)
placed-Weak k [] w = tt
placed-Weak k (x ∷ []) w =
    either (int_lt x k)
    (λ less. let h = lt_of x k less in rw less (omega (arith, ints), tt))
    (λ f. rw f (le_of x k f, tt))
placed-Weak k (x ∷ y ∷ xs) w =
    either (int_lt x k)
    (λ less. rw less (second k x y xs (lt_of x k less) w (placed-Weak k (y ∷ xs) w.1)))
    (λ f. rw f (le_of x k f, w))
  where
    second : (k x y : ℤ) (xs : List ℤ) → x <ℤ k → Weak (x ∷ y ∷ xs) → Weak (placed k (y ∷ xs)) → Weak (x ∷ placed k (y ∷ xs))
    second k x y xs up w rest =
        either (int_lt y k)
        (λ less. rw less (w.0, rw less at rest))
        (λ f. rw f (omega (arith, ints), rw f at rest))

pub sorted-Weak : (xs : List ℤ) → Weak (sorted xs)
sorted-Weak [] = tt
sorted-Weak (x ∷ xs) = placed-Weak x (sorted xs) (sorted-Weak xs)

occurs-sorted : (v : ℤ) (xs : List ℤ) → occurs v (sorted xs) ≡ occurs v xs
occurs-sorted v [] = refl
occurs-sorted v (x ∷ xs) =
    let a = occurs-placed v x (sorted xs) in
    let b = occurs-cons v x (sorted xs) in
    let c = occurs-cons v x xs in
    let d = occurs-sorted v xs in
    omega arith

weak_from : (xs : List ℤ) → IsSorted int_cmp xs → Weak xs
weak_from [] up = tt
weak_from (x ∷ []) up = tt
weak_from (x ∷ y ∷ xs) up =
    let first = up 0 x (omega arith) (omega arith) in
    (le_of y x (not_less y x first), weak_from (y ∷ xs) (λ k d low within. rw add-one (rw add-one at (up (suc k) d (omega arith) (omega arith)))))
  where
    not_less : (a b : ℤ) → is_lt (int_cmp a b) ≡ false → int_lt a b ≡ false
    not_less a b h = either (int_lt a b) (λ e. not_both (rw e refl) h) (λ e. e)

-- what a sort makes of numbers is these numbers in order
pub sort_is : (xs ys : List ℤ) → IsPermutation xs ys → IsSorted int_cmp ys → ys ≡ sorted xs
sort_is xs ys moved up =
    weak_same ys (sorted xs) (weak_from ys up) (sorted-Weak xs)
    (λ v. sum_by-IsPermutation (λ x. cond (int_eq v x) 1 0) xs ys moved ∙ sym (occurs-sorted v xs))

pub weak_le : (xs : List ℤ) (i j : ℕ) (d : ℤ) → Weak xs → i ≤ j → j < length xs → get_or xs i d ≤ℤ get_or xs j d
weak_le [] i j d w order within = absurd (omega arith)
weak_le (x ∷ xs) zero zero d w order within = omega (arith, ints)
weak_le (x ∷ []) zero (suc j) d w order within = absurd (omega arith)
weak_le (x ∷ y ∷ xs) zero (suc j) d w order within =
    let rest = weak_le (y ∷ xs) zero j d w.1 (omega arith) (omega arith) in
    omega (arith, ints, rest, w.0)
weak_le (x ∷ xs) (suc i) zero d w order within = absurd (omega arith)
weak_le (x ∷ xs) (suc i) (suc j) d w order within = weak_le xs i j d (weak_tail x xs w) (omega arith) (omega arith)

pub sorted_le : (xs : List ℤ) (i j : ℕ) (d : ℤ) → IsSorted int_cmp xs → i ≤ j → j < length xs → get_or xs i d ≤ℤ get_or xs j d
sorted_le xs i j d up order within = weak_le xs i j d (weak_from xs up) order within

-- what `==` answers of numbers that fit
pub of_z_eq : (x y : ℤ) → SFits w128 x → SFits w128 y → eqb (of_z w128 x) (of_z w128 y) ≡ int_eq x y
of_z_eq x y fx fy =
    either (int_eq x y)
    (λ t. let e : eqb (of_z w128 y) (of_z w128 y) ≡ true = grind (arith, nat_tests) in rw t (rw (eq_from x y t) e))
    (λ f. rw f (either (eqb (of_z w128 x) (of_z w128 y))
    (λ t. let n : of_z w128 x ≡ of_z w128 y = grind (arith, nat_tests) in
    absurd (not_both (eq_true x y (sym (to_z-of_z w128 x fx) ∙ ap (to_z w128) n ∙ to_z-of_z w128 y fy)) f))
    (λ g. g)))

-- ---- how many bounds are at most a value

rises_parted : (xs : List ℤ) (v : ℤ) → Rises xs → IsPartitionedBy (λ b. not (int_lt v b)) xs
rises_parted xs v r i j d order within below =
    let up = weak_le xs i j d (weak_of xs r) order within in
    grind (arith, ints)
  where
    weak_of : (xs : List ℤ) → Rises xs → Weak xs
    weak_of [] r = tt
    weak_of (x ∷ []) r = tt
    weak_of (x ∷ y ∷ xs) r = (omega (arith, ints, r.0), weak_of (y ∷ xs) r.1)

pub bounds_parted : (xs : List ℤ) (v : ℤ) → Rises xs → IsPartitionedBy (λ b. int_le b v) xs
bounds_parted xs v r = rises_parted xs v r

pub count_point : (p : ℤ → Bool) (xs : List ℤ) (n : ℕ) → n ≤ length xs → IsPartitionPoint (λ y. p y ≡ true) (λ y. p y ≡ false) xs n → count_by p xs ≡ n
count_point p [] n short point = omega arith
count_point p (x ∷ xs) zero short point =
    let f : p x ≡ false = point.1 0 x (omega arith) (omega arith) in
    let rest = count_point p xs zero (omega arith) ((λ k d low high. absurd (omega arith)), (λ k d low high. point.1 (suc k) d (omega arith) (omega arith))) in
    sum_by-cons (λ x. cond (p x) 1 0) x xs ∙ (rw (f, rest) refl)
count_point p (x ∷ xs) (suc n) short point =
    let t : p x ≡ true = point.0 0 x (omega arith) (omega arith) in
    let rest = count_point p xs n (omega arith) ((λ k d low high. point.0 (suc k) d (omega arith) (omega arith)), (λ k d low high. point.1 (suc k) d (omega arith) (omega arith))) in
    sum_by-cons (λ x. cond (p x) 1 0) x xs ∙ (rw (t, rest) (omega arith))

-- ---- what each rule keeps

rises_of : (bounds : List ℤ) → rises bounds ≡ true → Rises bounds
rises_of [] h = tt
rises_of (x ∷ []) h = tt
rises_of (x ∷ y ∷ bounds) h =
    either (int_lt x y)
    (λ t. (lt_of x y t, rises_of (y ∷ bounds) (rw t at h)))
    (λ f. let z : false ≡ true = rw f at h in absurd (cc))

pub kept_of : (b : Binning) (vs : List ℤ) → IsGivenBinning b → IsKeying (keying_of b vs)
kept_of binning.Each vs given = tt
kept_of (binning.Bounds bounds) vs given = rises_of bounds given.2
kept_of (binning.Width start end count) vs given = rising-Rises (width_bounds start end count)
kept_of (binning.Weight count) vs given = rising-Rises (weight_bounds count (sorted vs))
kept_of (binning.Precision digits) vs given = given

-- numbers in order of which none stands twice rise
pub strict_of : (xs : List ℤ) → Weak xs → ((v : ℤ) → occurs v xs ≤ 1) → Rises xs
strict_of [] w once = tt
strict_of (x ∷ []) w once = tt
strict_of (x ∷ y ∷ xs) w once = (apart x y xs w.0 (once x), strict_of (y ∷ xs) w.1 (λ v. let a = occurs-cons v x (y ∷ xs) in let b = once v in omega arith))
  where
    apart : (x y : ℤ) (xs : List ℤ) → x ≤ℤ y → occurs x (x ∷ y ∷ xs) ≤ 1 → x <ℤ y
    apart x y xs h once =
        either (int_eq y x)
        (λ t. let a = occurs-self x (y ∷ xs) in
        let b : occurs x (y ∷ xs) ≡ 1 + occurs x xs = occurs-cons x y xs ∙ (rw (eq_swap x y, t) refl) in absurd (omega arith))
        (λ f. strict x y h f)

pub occurs-none : (v : ℤ) (xs : List ℤ) → is_in v xs ≡ false → occurs v xs ≡ 0
occurs-none v [] h = refl
occurs-none v (x ∷ xs) h = let f = or_no (int_eq v x) (is_in v xs) h in occurs-cons v x xs ∙ (rw (f.0, occurs-none v xs f.1) refl)

pub occurs-distinct : (v : ℤ) (xs : List ℤ) → AreDistinct xs → occurs v xs ≤ 1
occurs-distinct v [] apart = omega arith
occurs-distinct v (x ∷ xs) apart =
    either (int_eq v x)
    (λ t. let n : occurs v xs ≡ 0 = rw (eq_from v x t) (occurs-none x xs apart.0) in
    let c : occurs v (x ∷ xs) ≡ 1 + occurs v xs = occurs-cons v x xs ∙ (rw t refl) in omega (arith, n, c))
    (λ f. let rest = occurs-distinct v xs apart.1 in
    let c : occurs v (x ∷ xs) ≡ 0 + occurs v xs = occurs-cons v x xs ∙ (rw f refl) in omega (arith, rest, c))
