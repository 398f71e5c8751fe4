-- Rising keys: those of a list are rising and no others, and rising lists with the same keys are equal.
use Rattle.std.proofs.Common.{◌≡◌, ℕ, ◌+◌, ◌<◌, Bool, true, false, ◌||◌, List, [], ◌∷◌, length, get_or, refl, sym, ap, subst, ◌∙◌, arith}
use Rattle.std.specs.Cmp.{IsTotalOrder}
use Rattle.std.specs.List.{AllByRecursion, IsDistinct, list_any}
use Rattle.std.specs.List.Sorted.{IsSorted, IsStrictlySortedBy}
use Rattle.std.specs.Ordering.{eq_by_cmp, is_eq, is_lt, match_ordering, ordering_reverse}
use Rattle.std.specs.BTreeSet.{insert_key}
use Rattle.std.specs.declared.cmp.Ordering.{Ordering}
use Rattle.std.specs.declared.cmp.Ordering.TheVariants.{Less, Equal, Greater}
use Rattle.std.proofs.lemmas.Cmp.{tied_itself}
use Rattle.std.proofs.lemmas.Map.Keys.{apart_from_distinct, sorted_from_all_adjacent}

module _ {K : Type 0} {R : K → K → Ordering} (o : IsTotalOrder R) (same : (x y : K) → R x y ≡ Equal → x ≡ y) where
  abbrev eq : K → K → Bool
  eq = eq_by_cmp R

  itself : (x : K) → eq x x ≡ true
  itself x = ap is_eq (tied_itself o x)

  -- what is below all isn't among them
  absent : (x : K) (xs : List K) → AllByRecursion (λ y. R x y ≡ Less) xs → list_any (eq x) xs ≡ false
  absent x [] all = refl
  absent x (y ∷ xs) all = let less : R x y ≡ Less = all.0 in rw less (absent x xs all.1)

  below : (x y : K) (ys : List K) → R x y ≡ Less → AllByRecursion (λ z. R y z ≡ Less) ys → AllByRecursion (λ z. R x z ≡ Less) ys
  below x y [] less all = tt
  below x y (z ∷ ys) less all = (o.trans x y z less all.0, below x y ys less all.1)

  not_there : (x y : K) (xs ys : List K) → ((k : K) → list_any (eq k) (x ∷ xs) ≡ list_any (eq k) (y ∷ ys)) → R x y ≡ Less → AllByRecursion (λ z. R y z ≡ Less) ys → ⊥
  not_there x y xs ys members less all =
      let there : list_any (eq x) (x ∷ xs) ≡ true = let me : eq x x ≡ true = itself x in rw me refl in
      let gone : list_any (eq x) (y ∷ ys) ≡ false = rw less (absent x ys (below x y ys less all)) in
      let both : true ≡ false = sym there ∙ (members x ∙ gone) in
      cc

  turned : (x y : K) → R x y ≡ Greater → R y x ≡ Less
  turned x y e = o.antisymm y x ∙ ap ordering_reverse e

  first_same : (x y : K) (xs ys : List K) → ((k : K) → list_any (eq k) (x ∷ xs) ≡ list_any (eq k) (y ∷ ys)) → AllByRecursion (λ z. R x z ≡ Less) xs → AllByRecursion (λ z. R y z ≡ Less) ys → (by : Ordering) → R x y ≡ by → x ≡ y
  first_same x y xs ys members all bll Less e = absurd (not_there x y xs ys members e bll)
  first_same x y xs ys members all bll Equal e = same x y e
  first_same x y xs ys members all bll Greater e = absurd (not_there y x ys xs (λ k. sym (members k)) (turned x y e) all)

  others_by : (k x : K) (xs ys : List K) → AllByRecursion (λ z. R x z ≡ Less) xs → AllByRecursion (λ z. R x z ≡ Less) ys → (test : Bool) → eq k x ≡ test → (test || list_any (eq k) xs) ≡ (test || list_any (eq k) ys) → list_any (eq k) xs ≡ list_any (eq k) ys
  others_by k x xs ys all bll true e members =
      let me : k ≡ x = same k x (equal_is (R k x) e) in
      subst (λ j. list_any (eq j) xs ≡ list_any (eq j) ys) (sym me) (absent x xs all ∙ sym (absent x ys bll))
    where
      equal_is : (r : Ordering) → is_eq r ≡ true → r ≡ Equal
      equal_is Less e = cc
      equal_is Equal e = refl
      equal_is Greater e = cc
  others_by k x xs ys all bll false e members = members

  pub rising_same : (xs ys : List K) → IsStrictlySortedBy R xs → IsStrictlySortedBy R ys → ((k : K) → list_any (eq k) xs ≡ list_any (eq k) ys) → xs ≡ ys
  unfolding IsStrictlySortedBy
  rising_same [] [] s t members = refl
  rising_same [] (y ∷ ys) s t members = absurd (let me : eq y y ≡ true = itself y in let there : list_any (eq y) (y ∷ ys) ≡ true = rw me refl in let both : false ≡ true = members y ∙ there in cc)
  rising_same (x ∷ xs) [] s t members = absurd (let me : eq x x ≡ true = itself x in let there : list_any (eq x) (x ∷ xs) ≡ true = rw me refl in let both : true ≡ false = sym there ∙ members x in cc)
  rising_same (x ∷ xs) (y ∷ ys) s t members =
      let one : x ≡ y = first_same x y xs ys members s.0 t.0 (R x y) refl in
      let bll : AllByRecursion (λ z. R x z ≡ Less) ys = subst (λ w. AllByRecursion (λ z. R w z ≡ Less) ys) (sym one) t.0 in
      let members_ = subst (λ w. (k : K) → list_any (eq k) (x ∷ xs) ≡ list_any (eq k) (w ∷ ys)) (sym one) members in
      let rest : xs ≡ ys = rising_same xs ys s.1 t.1 (λ k. others_by k x xs ys s.0 bll (eq k x) refl (members_ k)) in
      cc

  -- ---- a key put into rising keys

  all_put : (x k : K) (ks : List K) → AllByRecursion (λ z. R x z ≡ Less) ks → R x k ≡ Less → AllByRecursion (λ z. R x z ≡ Less) (insert_key R ks k)
  all_put x k [] all less = (less, tt)
  all_put x k (y ∷ ks) all less = by (all_put x k ks all.1 less) (R k y)
    where
      by : AllByRecursion (λ z. R x z ≡ Less) (insert_key R ks k) → (r : Ordering) → AllByRecursion (λ z. R x z ≡ Less) (match_ordering r (k ∷ y ∷ ks) (y ∷ ks) (y ∷ insert_key R ks k))
      by rest Less = (less, all)
      by rest Equal = all
      by rest Greater = (all.0, rest)

  pub insert_rises : (k : K) (ks : List K) → IsStrictlySortedBy R ks → IsStrictlySortedBy R (insert_key R ks k)
  unfolding IsStrictlySortedBy
  insert_rises k [] s = (tt, tt)
  insert_rises k (y ∷ ks) s = by (insert_rises k ks s.1) (R k y) refl
    where
      by : IsStrictlySortedBy R (insert_key R ks k) → (r : Ordering) → R k y ≡ r → IsStrictlySortedBy R (match_ordering r (k ∷ y ∷ ks) (y ∷ ks) (y ∷ insert_key R ks k))
      by rest Less e = ((e, below k y ks e s.0), s)
      by rest Equal e = s
      by rest Greater e = (all_put y k ks s.0 (turned k y e), rest)

  or_swap : (a b c : Bool) → (a || (b || c)) ≡ (b || (a || c))
  or_swap true true c = refl
  or_swap true false c = refl
  or_swap false true c = refl
  or_swap false false c = refl

  or_twice : (a c : Bool) → (a || c) ≡ (a || (a || c))
  or_twice true c = refl
  or_twice false c = refl

  pub insert_members : (q k : K) (ks : List K) → list_any (eq q) (insert_key R ks k) ≡ (eq q k || list_any (eq q) ks)
  insert_members q k [] = refl
  insert_members q k (y ∷ ks) = by (insert_members q k ks) (R k y) refl
    where
      by : list_any (eq q) (insert_key R ks k) ≡ (eq q k || list_any (eq q) ks) → (r : Ordering) → R k y ≡ r → list_any (eq q) (match_ordering r (k ∷ y ∷ ks) (y ∷ ks) (y ∷ insert_key R ks k)) ≡ (eq q k || (eq q y || list_any (eq q) ks))
      by rest Less e = refl
      by rest Equal e =
          let me : k ≡ y = same k y e in
          or_twice (eq q y) (list_any (eq q) ks) ∙ ap (λ j. eq q j || (eq q y || list_any (eq q) ks)) (sym me)
      by rest Greater e = ap (λ b. eq q y || b) rest ∙ or_swap (eq q y) (eq q k) (list_any (eq q) ks)

  -- ---- keys in order that are all distinct rise

  pub rises_from_sorted : (ks : List K) (d : K) → IsSorted R ks → IsDistinct eq ks → IsStrictlySortedBy R ks
  rises_from_sorted ks d sorted distinct =
      sorted_from_all_adjacent o ks d (λ k fits. by (get_or ks k d) (get_or ks (k + 1) d) (sorted k d (omega arith) fits) (apart_from_distinct eq ks k (k + 1) d distinct (omega arith) fits) (R (get_or ks k d) (get_or ks (k + 1) d)) refl)
    where
      by : (x y : K) → is_lt (R y x) ≡ false → eq x y ≡ false → (r : Ordering) → R x y ≡ r → R x y ≡ Less
      by x y kept apart Less e = e
      by x y kept apart Equal e = absurd (let t : eq x y ≡ true = ap is_eq e in let both : true ≡ false = sym t ∙ apart in cc)
      by x y kept apart Greater e = absurd (let t : is_lt (R y x) ≡ true = ap is_lt (turned x y e) in let both : true ≡ false = sym t ∙ kept in cc)
