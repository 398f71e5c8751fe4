-- Groups of values by key, and the places of rows.
use Rattle.std.proofs.Common.{◌≡◌, ℕ, zero, suc, ◌<◌, Bool, true, false, ◌||◌, cond, List, [], ◌∷◌, ◌++◌, length, get_or, set, Some, None, ℤ, refl, sym, ap, subst, ◌∙◌, arith}
use Rattle.std.specs.Ordering.{int_eq}
use Rattle.std.proofs.lemmas.List.{length-map}
use Rattle.binning.specs.Gathered.{keys_in, is_in, AreDistinct, place_in, grown_group, with_value}
use Rattle.binning.specs.Groups.{place_if, grown}
use Rattle.binning.specs.declared.groups.Group.{Group}
use Rattle.binning.proofs.TestLemmas.{either, not_both, or-false}
use Rattle.binning.proofs.KeyLemmas.{eq_from, eq_true, eq_self, eq_false, eq_swap, is_in-append, or_left, or_right}

-- ---- places

pub is_in_at : (ks : List ℤ) (i : ℕ) (d k : ℤ) → i < length ks → get_or ks i d ≡ k → is_in k ks ≡ true
is_in_at [] i d k within e = absurd (omega arith)
is_in_at (x ∷ ks) zero d k within e = or_left (int_eq k x) (is_in k ks) (eq_true k x (sym e))
is_in_at (x ∷ ks) (suc i) d k within e = or_true (int_eq k x) (is_in k ks) (is_in_at ks i d k (omega arith) e)
  where
    or_true : (a b : Bool) → b ≡ true → (a || b) ≡ true
    or_true true b h = refl
    or_true false b h = h

pub place_at : (ks : List ℤ) (i : ℕ) (d k : ℤ) → AreDistinct ks → i < length ks → get_or ks i d ≡ k → place_in k ks ≡ i
place_at [] i d k apart within e = absurd (omega arith)
place_at (x ∷ ks) zero d k apart within e = rw (eq_true k x (sym e)) refl
place_at (x ∷ ks) (suc i) d k apart within e =
    let later = is_in_at ks i d k (omega arith) e in
    let other : int_eq k x ≡ false = eq_false k x (λ same. not_both later (subst (λ (z : ℤ). is_in z ks ≡ false) (sym same) apart.0)) in
    rw other (ap suc (place_at ks i d k apart.1 (omega arith) e))

pub place_if_at : (ks : List ℤ) (i : ℕ) (d k : ℤ) → AreDistinct ks → i < length ks → get_or ks i d ≡ k → Some i ≡ place_if k ks
place_if_at ks i d k apart within e = rw (is_in_at ks i d k within e, place_at ks i d k apart within e) refl

-- a number that is there has a place
pub place_within : (k : ℤ) (ks : List ℤ) → is_in k ks ≡ true → place_in k ks < length ks
place_within k [] h = absurd (not_both h refl)
place_within k (x ∷ ks) h =
    either (int_eq k x)
    (λ t. rw t (omega arith))
    (λ f. rw f (let r = place_within k ks (sym (or_right (int_eq k x) (is_in k ks) f) ∙ h) in omega arith))

pub place_absent : (k : ℤ) (ks : List ℤ) → is_in k ks ≡ false → place_in k ks ≡ length ks
place_absent k [] h = refl
place_absent k (x ∷ ks) h =
    either (int_eq k x)
    (λ t. absurd (not_both (or_left (int_eq k x) (is_in k ks) t) h))
    (λ f. rw f (ap suc (place_absent k ks (sym (or_right (int_eq k x) (is_in k ks) f) ∙ h))))

pub place_longer : (k y : ℤ) (ks : List ℤ) → is_in k ks ≡ true → place_in k (ks ++ y ∷ []) ≡ place_in k ks
place_longer k y [] h = absurd (not_both h refl)
place_longer k y (x ∷ ks) h =
    either (int_eq k x)
    (λ t. rw t refl)
    (λ f. rw f (ap suc (place_longer k y ks (sym (or_right (int_eq k x) (is_in k ks) f) ∙ h))))

pub place_of_new : (y : ℤ) (ks : List ℤ) → is_in y ks ≡ false → place_in y (ks ++ y ∷ []) ≡ length ks
place_of_new y [] h = rw (eq_self y) refl
place_of_new y (x ∷ ks) h =
    either (int_eq y x)
    (λ t. absurd (not_both (or_left (int_eq y x) (is_in y ks) t) h))
    (λ f. rw f (ap suc (place_of_new y ks (sym (or_right (int_eq y x) (is_in y ks) f) ∙ h))))

pub distinct_push : (y : ℤ) (ks : List ℤ) → AreDistinct ks → is_in y ks ≡ false → AreDistinct (ks ++ y ∷ [])
distinct_push y [] apart h = (refl, tt)
distinct_push y (x ∷ ks) apart h =
    let f : int_eq y x ≡ false = either (int_eq y x) (λ t. absurd (not_both (or_left (int_eq y x) (is_in y ks) t) h)) (λ f. f) in
    let rest : is_in y ks ≡ false = sym (or_right (int_eq y x) (is_in y ks) f) ∙ h in
    (is_in-append x ks y ∙ (rw (apart.0, eq_swap x y, f) refl), distinct_push y ks apart.1 rest)

-- the map's answer after a new key is put in
pub place_if_push : (k y : ℤ) (ks : List ℤ) → is_in y ks ≡ false → cond (int_eq y k) (Some (length ks)) (place_if k ks) ≡ place_if k (ks ++ y ∷ [])
place_if_push k y ks absent =
    either (int_eq y k)
    (λ t. rw t (new_place k y ks absent (sym (eq_from y k t))))
    (λ f. rw f (old_place k y ks f))
  where
    new_place : (k y : ℤ) (ks : List ℤ) → is_in y ks ≡ false → k ≡ y → Some (length ks) ≡ place_if k (ks ++ y ∷ [])
    new_place k y ks absent e =
        let there : is_in y (ks ++ y ∷ []) ≡ true = is_in-append y ks y ∙ (rw (absent, eq_self y) refl) in
        subst (λ (z : ℤ). Some (length ks) ≡ place_if z (ks ++ y ∷ [])) (sym e) (rw (there, place_of_new y ks absent) refl)

    old_place : (k y : ℤ) (ks : List ℤ) → int_eq y k ≡ false → place_if k ks ≡ place_if k (ks ++ y ∷ [])
    old_place k y ks f =
        let e : is_in k (ks ++ y ∷ []) ≡ is_in k ks = is_in-append k ks y ∙ (rw (eq_swap k y, f) (or-false (is_in k ks))) in
        either (is_in k ks)
        (λ t. rw (e, t, place_longer k y ks t) refl)
        (λ g. rw (e, g) refl)

-- ---- groups

pub keys_in-get : (gs : List Group) (i : ℕ) (d : Group) (k : ℤ) → i < length gs → get_or (keys_in gs) i k ≡ (get_or gs i d).key
keys_in-get [] i d k within = absurd (omega arith)
keys_in-get (g ∷ gs) zero d k within = refl
keys_in-get (g ∷ gs) (suc i) d k within = keys_in-get gs i d k (omega arith)

pub grown_set : (gs : List Group) (place : ℕ) (v : ℤ) (d : Group) → place < length gs → set gs place (grown_group (get_or gs place d) v) ≡ grown gs place v
grown_set [] place v d within = absurd (omega arith)
grown_set (g ∷ gs) zero v d within = refl
grown_set (g ∷ gs) (suc place) v d within = ap (λ xs. g ∷ xs) (grown_set gs place v d (omega arith))

pub grown_with : (gs : List Group) (k v : ℤ) → is_in k (keys_in gs) ≡ true → grown gs (place_in k (keys_in gs)) v ≡ with_value gs k v
grown_with [] k v h = absurd (not_both h refl)
grown_with (g ∷ gs) k v h =
    either (int_eq k g.key)
    (λ t. rw t refl)
    (λ f. rw f (ap (λ xs. g ∷ xs) (grown_with gs k v (sym (or_right (int_eq k g.key) (is_in k (keys_in gs)) f) ∙ h))))

pub keys_with : (gs : List Group) (k v : ℤ) → is_in k (keys_in gs) ≡ true → keys_in (with_value gs k v) ≡ keys_in gs
keys_with [] k v h = absurd (not_both h refl)
keys_with (g ∷ gs) k v h =
    either (int_eq k g.key)
    (λ t. rw t refl)
    (λ f. rw f (ap (λ xs. g.key ∷ xs) (keys_with gs k v (sym (or_right (int_eq k g.key) (is_in k (keys_in gs)) f) ∙ h))))

pub with_new : (gs : List Group) (k v : ℤ) → is_in k (keys_in gs) ≡ false → with_value gs k v ≡ gs ++ record { key = k; least = v; greatest = v } ∷ []
with_new [] k v h = refl
with_new (g ∷ gs) k v h =
    either (int_eq k g.key)
    (λ t. absurd (not_both (or_left (int_eq k g.key) (is_in k (keys_in gs)) t) h))
    (λ f. rw f (ap (λ xs. g ∷ xs) (with_new gs k v (sym (or_right (int_eq k g.key) (is_in k (keys_in gs)) f) ∙ h))))

pub keys_push : (gs : List Group) (g : Group) → keys_in (gs ++ g ∷ []) ≡ keys_in gs ++ g.key ∷ []
keys_push [] g = refl
keys_push (x ∷ gs) g = ap (λ ks. x.key ∷ ks) (keys_push gs g)

pub keys_new : (gs : List Group) (k v : ℤ) → is_in k (keys_in gs) ≡ false → keys_in (with_value gs k v) ≡ keys_in gs ++ k ∷ []
keys_new gs k v h = ap keys_in (with_new gs k v h) ∙ keys_push gs (record { key = k; least = v; greatest = v })

-- what an answer of the map says
pub place_found : (k : ℤ) (ks : List ℤ) (p : ℕ) → Some p ≡ place_if k ks → (is_in k ks ≡ true) × (p ≡ place_in k ks)
place_found k ks p e =
    either (is_in k ks)
    (λ t. (t, some_same p (place_in k ks) (e ∙ (rw t refl))))
    (λ f. absurd (some_none p (e ∙ (rw f refl))))
  where
    some_same : (a b : ℕ) → Some a ≡ Some b → a ≡ b
    some_same a b e = cc

    some_none : (a : ℕ) → Some a ≡ None → ⊥
    some_none a e = cc

pub place_missing : (k : ℤ) (ks : List ℤ) → None ≡ place_if k ks → is_in k ks ≡ false
place_missing k ks e =
    either (is_in k ks)
    (λ t. absurd (none_some (place_in k ks) (e ∙ (rw t refl))))
    (λ f. f)
  where
    none_some : (a : ℕ) → None ≡ Some a → ⊥
    none_some a e = cc

pub length-keys_in : (gs : List Group) → length (keys_in gs) ≡ length gs
length-keys_in gs = length-map gs (λ g. g.key)

pub grown_set_at : (gs : List Group) (place : ℕ) (v : ℤ) (g : Group) → place < length gs → g ≡ get_or gs place g → set gs place (grown_group g v) ≡ grown gs place v
grown_set_at gs place v g within e = ap (λ x. set gs place (grown_group x v)) e ∙ grown_set gs place v g within
