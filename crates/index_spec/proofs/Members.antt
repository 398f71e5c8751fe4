-- Tests over a list, by its members.
use Rattle.std.proofs.Common.{◌≡◌, ℕ, zero, suc, ◌+◌, ◌≤◌, ◌<◌, Bool, true, false, cond, ◌||◌, List, [], ◌∷◌, ◌⊎◌, length, get_or, refl, sym, ap, subst, ◌∙◌, inl, inr, arith}
use Rattle.std.specs.Prelude.{Some, ◌↔◌}
use Rattle.std.specs.List.{Contains, list_all, list_any, find, count_by}
use Rattle.std.proofs.lemmas.List.Sums.{sum_by-cons}
use Rattle.lexing.proofs.Cases.{chosen}
use Rattle.std.proofs.lemmas.Bool.{and_from, and_parts, or_cases}

pub nowhere : {X : Type 0} (x : X) → Contains [] x → ⊥
nowhere x h = omega (arith, h.1)

pub here : {X : Type 0} (x : X) (xs : List X) → Contains (x ∷ xs) x
here x xs = (0, omega arith, refl)

pub later : {X : Type 0} (y : X) (ys : List X) (x : X) → Contains ys x → Contains (y ∷ ys) x
later y ys x h = let within = h.1 in (suc h.0, omega arith, h.2)

at_place : {X : Type 0} (y : X) (ys : List X) (x : X) (k : ℕ) → k < length (y ∷ ys) → get_or (y ∷ ys) k x ≡ x → (y ≡ x) ⊎ Contains ys x
at_place y ys x zero within e = inl e
at_place y ys x (suc k) within e = inr (k, omega arith, e)

pub in_cases : {X : Type 0} (y : X) (ys : List X) (x : X) → Contains (y ∷ ys) x → (y ≡ x) ⊎ Contains ys x
in_cases y ys x h = at_place y ys x h.0 h.1 h.2

pub or_parts : (a b : Bool) → (a || b) ≡ false → (a ≡ false) × (b ≡ false)
or_parts true b e = cc
or_parts false b e = (refl, e)

pub or_left : (a b : Bool) → a ≡ true → (a || b) ≡ true
or_left a b e = rw e refl

pub or_right : (a b : Bool) → b ≡ true → (a || b) ≡ true
or_right true b e = refl
or_right false b e = e

pub all_of : {X : Type 0} (p : X → Bool) (xs : List X) (x : X) → list_all p xs ≡ true → Contains xs x → p x ≡ true
all_of p [] x all h = absurd (nowhere x h)
all_of p (y ∷ ys) x all h =
    let parts = and_parts (p y) (list_all p ys) all in
    elim (in_cases y ys x h) [ inl e ↦ subst (λ z. p z ≡ true) e parts.0 | inr g ↦ all_of p ys x parts.1 g ]

pub all_if : {X : Type 0} (p : X → Bool) (xs : List X) → ((x : X) → Contains xs x → p x ≡ true) → list_all p xs ≡ true
all_if p [] each = refl
all_if p (y ∷ ys) each = and_from (p y) (list_all p ys) (each y (here y ys)) (all_if p ys (λ x h. each x (later y ys x h)))

pub any_if : {X : Type 0} (p : X → Bool) (xs : List X) (x : X) → Contains xs x → p x ≡ true → list_any p xs ≡ true
any_if p [] x h e = absurd (nowhere x h)
any_if p (y ∷ ys) x h e =
    elim (in_cases y ys x h) [
      | inl same ↦ or_left (p y) (list_any p ys) (subst (λ z. p z ≡ true) (sym same) e)
      | inr g ↦ or_right (p y) (list_any p ys) (any_if p ys x g e)
    ]

pub any_of : {X : Type 0} (p : X → Bool) (xs : List X) → list_any p xs ≡ true → (x : X) × (Contains xs x × (p x ≡ true))
any_of p [] e = cc
any_of p (y ∷ ys) e =
    elim (or_cases (p y) (list_any p ys) e) [
      | inl h ↦ (y, (here y ys, h))
      | inr h ↦ (let more = any_of p ys h in (more.0, (later y ys more.0 more.1.0, more.1.1)))
    ]

pub none_of : {X : Type 0} (p : X → Bool) (xs : List X) (x : X) → list_any p xs ≡ false → Contains xs x → p x ≡ false
none_of p [] x none h = absurd (nowhere x h)
none_of p (y ∷ ys) x none h =
    let parts = or_parts (p y) (list_any p ys) none in
    elim (in_cases y ys x h) [ inl e ↦ subst (λ z. p z ≡ false) e parts.0 | inr g ↦ none_of p ys x parts.1 g ]

pub none_if : {X : Type 0} (p : X → Bool) (xs : List X) → ((x : X) → Contains xs x → p x ≡ false) → list_any p xs ≡ false
none_if p [] each = refl
none_if p (y ∷ ys) each =
    let head : p y ≡ false = each y (here y ys) in
    rw head (none_if p ys (λ x h. each x (later y ys x h)))

pub same_bool : (a b : Bool) → (a ≡ true → b ≡ true) → (b ≡ true → a ≡ true) → a ≡ b
same_bool true b to from = sym (to refl)
same_bool false true to from = from refl
same_bool false false to from = refl

abbrev pub SameMembers : {X : Type 0} → List X → List X → Type 0
SameMembers {X} xs ys = (x : X) → Contains xs x ↔ Contains ys x

pub all_same : {X : Type 0} (p : X → Bool) (xs ys : List X) → SameMembers xs ys → list_all p xs ≡ list_all p ys
all_same p xs ys same =
    same_bool (list_all p xs) (list_all p ys)
    (λ e. all_if p ys (λ x h. all_of p xs x e ((same x).1 h)))
    (λ e. all_if p xs (λ x h. all_of p ys x e ((same x).0 h)))

pub any_same : {X : Type 0} (p : X → Bool) (xs ys : List X) → SameMembers xs ys → list_any p xs ≡ list_any p ys
any_same p xs ys same =
    same_bool (list_any p xs) (list_any p ys)
    (λ e. let found = any_of p xs e in any_if p ys found.0 ((same found.0).0 found.1.0) found.1.1)
    (λ e. let found = any_of p ys e in any_if p xs found.0 ((same found.0).1 found.1.0) found.1.1)

pub found_in : {X : Type 0} (p : X → Bool) (xs : List X) (x : X) → find p xs ≡ Some x → Contains xs x × (p x ≡ true)
found_in p [] x e = cc
found_in p (y ∷ ys) x e =
    elim (chosen (p y) (Some y) (find p ys) (Some x) e) [
      | inl h ↦ (let same : y ≡ x = cc in subst (λ z. Contains (y ∷ ys) z × (p z ≡ true)) same (here y ys, h.0))
      | inr h ↦ (let more = found_in p ys x h.1 in (later y ys x more.0, more.1))
    ]

count_by-cons : {X : Type 0} (p : X → Bool) (y : X) (ys : List X) (test : Bool) → p y ≡ test → count_by p (y ∷ ys) ≡ cond test 1 0 + count_by p ys
count_by-cons p y ys test e = sum_by-cons (λ x. cond (p x) 1 0) y ys ∙ ap (λ t. cond t 1 0 + count_by p ys) e

pub counted : {X : Type 0} (p : X → Bool) (xs : List X) (x : X) → Contains xs x → p x ≡ true → 1 ≤ count_by p xs
counted p [] x h e = absurd (nowhere x h)
counted p (y ∷ ys) x h e =
    elim (in_cases y ys x h) [
      | inl same ↦ (let cut = count_by-cons p y ys true (subst (λ z. p z ≡ true) (sym same) e) in omega (arith, cut))
      | inr g ↦ (let more = counted p ys x g e in let cut = sum_by-cons (λ x. cond (p x) 1 0) y ys in omega (arith, cut, more))
    ]

unique_step : {X : Type 0} (p : X → Bool) (y : X) (ys : List X) (x : X) (test : Bool) → p y ≡ test → count_by p (y ∷ ys) ≤ 1 → Contains (y ∷ ys) x → p x ≡ true
    → (count_by p ys ≤ 1 → Contains ys x → find p ys ≡ Some x) → cond test (Some y) (find p ys) ≡ Some x
unique_step p y ys x true e once h passes more =
    let cut = count_by-cons p y ys true e in
    elim (in_cases y ys x h) [
      | inl same ↦ ap Some same
      | inr g ↦ (let some = counted p ys x g passes in absurd (omega (arith, cut, some)))
    ]
unique_step p y ys x false e once h passes more =
    let cut = count_by-cons p y ys false e in
    elim (in_cases y ys x h) [
      | inl same ↦ (let no : p x ≡ false = subst (λ z. p z ≡ false) same e in cc)
      | inr g ↦ more (omega (arith, cut)) g
    ]

pub found_once : {X : Type 0} (p : X → Bool) (xs : List X) (x : X) → count_by p xs ≤ 1 → Contains xs x → p x ≡ true → find p xs ≡ Some x
found_once p [] x once h passes = absurd (nowhere x h)
found_once p (y ∷ ys) x once h passes = unique_step p y ys x (p y) refl once h passes (λ fewer g. found_once p ys x fewer g passes)
