-- A stable sort is the one that puts each into its place.
use Rattle.std.proofs.Common.{◌≡◌, ℕ, zero, suc, ◌+◌, ◌<◌, ◌≤◌, Bool, true, false, not, ◌&&◌, cond, List, [], ◌∷◌, length, get_or, filter, refl, sym, ap, subst, ◌∙◌, arith}
use Rattle.std.specs.Cmp.{IsStrictWeakOrder}
use Rattle.std.specs.List.{AllByRecursion}
use Rattle.std.specs.List.Sorted.{IsSortedBy, IsStableBy, ties}
use Rattle.select_group.specs.Order.{put_in, sorted}

module _ {X : Type 0} (lt : X → X → Bool) (order : IsStrictWeakOrder lt) where
  -- each has none before it behind it
  abbrev InOrder : List X → Type 0
  InOrder [] = Unit {0}
  InOrder (x ∷ xs) = AllByRecursion (λ y. lt y x ≡ false) xs × InOrder xs

  not_itself_by : (x : X) (b : Bool) → lt x x ≡ b → lt x x ≡ false
  not_itself_by x true e = order.one_way x x e
  not_itself_by x false e = e

  not_itself : (x : X) → lt x x ≡ false
  not_itself x = not_itself_by x (lt x x) refl

  ties_itself : (x : X) → ties lt x x ≡ true
  ties_itself x = let n : lt x x ≡ false = not_itself x in rw n refl

  -- ---- putting in

  all_put : (P : X → Type 0) (x : X) (ys : List X) → AllByRecursion P ys → P x → AllByRecursion P (put_in lt x ys)
  all_put P x [] all one = (one, tt)
  all_put P x (y ∷ ys) all one = by (all_put P x ys all.1 one) (lt y x)
    where
      by : AllByRecursion P (put_in lt x ys) → (b : Bool) → AllByRecursion P (cond b (y ∷ put_in lt x ys) (x ∷ y ∷ ys))
      by rest true = (all.0, rest)
      by rest false = (one, all)

  none_behind : (x y : X) (ys : List X) → lt y x ≡ false → AllByRecursion (λ z. lt z y ≡ false) ys → AllByRecursion (λ z. lt z x ≡ false) ys
  none_behind x y [] e all = tt
  none_behind x y (z ∷ ys) e all = (order.chain z y x all.0 e, none_behind x y ys e all.1)

  put_keeps : (x : X) (ys : List X) → InOrder ys → InOrder (put_in lt x ys)
  put_keeps x [] is = (tt, tt)
  put_keeps x (y ∷ ys) is = by (put_keeps x ys is.1) (lt y x) refl
    where
      by : InOrder (put_in lt x ys) → (b : Bool) → lt y x ≡ b → InOrder (cond b (y ∷ put_in lt x ys) (x ∷ y ∷ ys))
      by rest true e = (all_put (λ z. lt z y ≡ false) x ys is.0 (order.one_way y x e), rest)
      by rest false e = ((e, none_behind x y ys e is.0), is)

  and_first : (a b : Bool) → (not a && not b) ≡ true → a ≡ false
  and_first true b e = cc
  and_first false b e = refl

  and_second : (a b : Bool) → (not a && not b) ≡ true → b ≡ false
  and_second true b e = cc
  and_second false true e = cc
  and_second false false e = refl

  -- of two that don't tie, at most one ties with a third
  apart : (a x y : X) → lt y x ≡ true → ties lt a x ≡ true → ties lt a y ≡ true → ⊥
  apart a x y e tx ty =
      let no : lt y x ≡ false = order.chain y a x (and_second (lt a y) (lt y a) ty) (and_first (lt a x) (lt x a) tx) in
      let both : true ≡ false = sym e ∙ no in
      cc

  swap : (a x y : X) (ys : List X) → lt y x ≡ true → (s t : Bool) → ties lt a x ≡ s → ties lt a y ≡ t → cond t (y ∷ cond s (x ∷ filter (ties lt a) ys) (filter (ties lt a) ys)) (cond s (x ∷ filter (ties lt a) ys) (filter (ties lt a) ys)) ≡ cond s (x ∷ cond t (y ∷ filter (ties lt a) ys) (filter (ties lt a) ys)) (cond t (y ∷ filter (ties lt a) ys) (filter (ties lt a) ys))
  swap a x y ys e true true tx ty = absurd (apart a x y e tx ty)
  swap a x y ys e true false tx ty = refl
  swap a x y ys e false true tx ty = refl
  swap a x y ys e false false tx ty = refl

  put_filter : (a x : X) (ys : List X) → filter (ties lt a) (put_in lt x ys) ≡ filter (ties lt a) (x ∷ ys)
  put_filter a x [] = refl
  put_filter a x (y ∷ ys) = by (put_filter a x ys) (lt y x) refl
    where
      by : filter (ties lt a) (put_in lt x ys) ≡ filter (ties lt a) (x ∷ ys) → (b : Bool) → lt y x ≡ b → filter (ties lt a) (cond b (y ∷ put_in lt x ys) (x ∷ y ∷ ys)) ≡ filter (ties lt a) (x ∷ y ∷ ys)
      by rest true e = ap (λ zs. cond (ties lt a y) (y ∷ zs) zs) rest ∙ swap a x y ys e (ties lt a x) (ties lt a y) refl refl
      by rest false e = refl

  sorted_keeps : (xs : List X) → InOrder (sorted lt xs)
  sorted_keeps [] = tt
  sorted_keeps (x ∷ xs) = put_keeps x (sorted lt xs) (sorted_keeps xs)

  pub sorted_filter : (a : X) (xs : List X) → filter (ties lt a) (sorted lt xs) ≡ filter (ties lt a) xs
  sorted_filter a [] = refl
  sorted_filter a (x ∷ xs) = put_filter a x (sorted lt xs) ∙ ap (λ zs. cond (ties lt a x) (x ∷ zs) zs) (sorted_filter a xs)

  -- ---- what a sort gives is in order

  tail_sorted : (y : X) (ys : List X) → IsSortedBy lt (y ∷ ys) → IsSortedBy lt ys
  tail_sorted y ys is = λ k d low fits.
      let next : suc k + 1 ≡ suc (k + 1) = omega arith in
      subst (λ j. lt (get_or {A = X} (y ∷ ys) j d) (get_or ys k d) ≡ false) next (is (suc k) d (omega arith) (omega arith))

  in_order : (ys : List X) → IsSortedBy lt ys → InOrder ys
  in_order [] is = tt
  in_order (y ∷ []) is = (tt, tt)
  in_order (y ∷ z ∷ ys) is =
      let rest = in_order (z ∷ ys) (tail_sorted y (z ∷ ys) is) in
      let first : lt z y ≡ false = is 0 y (omega arith) (omega arith) in
      ((first, none_behind y z ys first rest.0), rest)

  -- ---- two lists in order with the same ties are equal

  head_of : (P : X → Type 0) (p : X → Bool) (ys : List X) (z : X) (zs : List X) → AllByRecursion P ys → filter p ys ≡ z ∷ zs → P z
  head_of P p [] z zs all e = absurd cc
  head_of P p (y ∷ ys) z zs all e = by (head_of P p ys z zs all.1) (p y) e
    where
      by : (filter p ys ≡ z ∷ zs → P z) → (b : Bool) → cond b (y ∷ filter p ys) (filter p ys) ≡ z ∷ zs → P z
      by rest true f = let same : y ≡ z = cc in subst P same all.0
      by rest false f = rest f

  kept : (p : X → Bool) (y : X) (ys : List X) → p y ≡ true → filter p (y ∷ ys) ≡ y ∷ filter p ys
  kept p y ys e = rw e refl

  -- the first of one comes before no other
  first_least : (y z : X) (ys zs : List X) → AllByRecursion (λ w. lt w y ≡ false) ys → filter (ties lt z) (y ∷ ys) ≡ filter (ties lt z) (z ∷ zs) → lt z y ≡ false
  first_least y z ys zs all e = head_of (λ w. lt w y ≡ false) (ties lt z) (y ∷ ys) z (filter (ties lt z) zs) (not_itself y, all) (e ∙ kept (ties lt z) z zs (ties_itself z))

  same_tails : (a y : X) (ys zs : List X) → (b : Bool) → cond b (y ∷ filter (ties lt a) ys) (filter (ties lt a) ys) ≡ cond b (y ∷ filter (ties lt a) zs) (filter (ties lt a) zs) → filter (ties lt a) ys ≡ filter (ties lt a) zs
  same_tails a y ys zs true e = cc
  same_tails a y ys zs false e = e

  same_order : (ys zs : List X) → InOrder ys → InOrder zs → ((a : X) → filter (ties lt a) ys ≡ filter (ties lt a) zs) → ys ≡ zs
  same_order [] [] is also e = refl
  same_order [] (z ∷ zs) is also e = absurd (let f : ◌≡◌ {A = List X} [] (z ∷ filter (ties lt z) zs) = e z ∙ kept (ties lt z) z zs (ties_itself z) in cc)
  same_order (y ∷ ys) [] is also e = absurd (let f : ◌≡◌ {A = List X} [] (y ∷ filter (ties lt y) ys) = sym (e y) ∙ kept (ties lt y) y ys (ties_itself y) in cc)
  same_order (y ∷ ys) (z ∷ zs) is also e =
      let zy = first_least y z ys zs is.0 (e z) in
      let yz = first_least z y zs ys also.0 (sym (e y)) in
      let tie : ties lt y z ≡ true = rw (yz, zy) refl in
      let heads : y ∷ filter (ties lt y) ys ≡ z ∷ filter (ties lt y) zs = sym (kept (ties lt y) y ys (ties_itself y)) ∙ (e y ∙ kept (ties lt y) z zs tie) in
      let one : y ≡ z = cc in
      let again = subst (λ w. (a : X) → filter (ties lt a) (y ∷ ys) ≡ filter (ties lt a) (w ∷ zs)) (sym one) e in
      let rest : ys ≡ zs = same_order ys zs is.1 also.1 (λ a. same_tails a y ys zs (ties lt a y) (again a)) in
      cc

  pub stable_is : (xs ys : List X) → IsSortedBy lt ys → IsStableBy lt xs ys → ys ≡ sorted lt xs
  stable_is xs ys is stays = same_order ys (sorted lt xs) (in_order ys is) (sorted_keeps xs) (λ a. stays a ∙ sym (sorted_filter a xs))

  sorted_by : (ys : List X) → InOrder ys → IsSortedBy lt ys
  sorted_by [] is k d low fits = absurd (omega arith)
  sorted_by (y ∷ []) is k d low fits = absurd (omega arith)
  sorted_by (y ∷ z ∷ ys) is zero d low fits = is.0.0
  sorted_by (y ∷ z ∷ ys) is (suc k) d low fits =
      let next : suc (k + 1) ≡ suc k + 1 = omega arith in
      subst (λ j. lt (get_or {A = X} (y ∷ z ∷ ys) j d) (get_or {A = X} (z ∷ ys) k d) ≡ false) next (sorted_by (z ∷ ys) is.1 k d (omega arith) (omega arith))

  pub sorted_in_order : (xs : List X) → IsSortedBy lt (sorted lt xs)
  sorted_in_order xs = sorted_by (sorted lt xs) (sorted_keeps xs)
