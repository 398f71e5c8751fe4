-- The first stage, condition by condition.
use Rattle.std.proofs.Common.{◌≡◌, ℕ, zero, suc, ◌+◌, ◌*◌, ◌≤◌, Bool, List, [], ◌∷◌, ◌++◌, Option, Some, All, length, take, drop, refl, sym, ap, subst, ◌∙◌, arith, append_assoc, length-append, inl, inr}
use Rattle.std.specs.Prelude.{◌⊎◌, slice_get}
use Rattle.std.specs.List.{flat_map, list_any, sum_by}
use Rattle.std.proofs.Math.Nat.{mul-le-mul_left}
use Rattle.std.proofs.lemmas.List.Elements.{All-append, All-from_recursion}
use Rattle.binning.specs.declared.against_bins.Three.{Three}
use Rattle.fb_outside.specs.Reads.{Look}
use Rattle.where_plan.specs.declared.plan.PlanAtom.{PlanAtom}
use Rattle.wah_logic.specs.Logic.{groups_and_rest}
use Rattle.three_valued.specs.Rows.{columns, each_row}
use Rattle.stages.specs.Looks.{AddsLooks}
use Rattle.stages.specs.Meaning.{Meaning}
use Rattle.stages.specs.Open.{AreOpen}
use Rattle.stages.proofs.LookLemmas.{adds_front, adds_joined, adds_none, adds_weaker}
use Rattle.stages.proofs.ListLemmas.{any_at, flat_map_front, flat_map_taken, map_taken, one_long, sum_by_front, sum_by_taken}

-- a read of a file of the column of one of these conditions
abbrev pub is_free_of : Meaning → List PlanAtom → Look → Bool
is_free_of m atoms look = list_any (λ atom. m.is_free atom look) atoms

-- The first conditions up to a place are settled.
pub record Settles {O : Type 0} (means : Meaning → Type 0) (is_open : PlanAtom → O → Type 0) (rows : ℕ) (atoms : List PlanAtom) (old : Option (List Look)) (before : ℕ) (place : ℕ) (answers : List (List Three)) (open_ : List O) (new : Option (List Look)) (now : ℕ) : Type 0 where
  pub number : length answers ≡ place
  pub opened : length open_ ≡ place
  pub long : All (λ a. length a ≡ rows) answers
  pub are_open : AreOpen is_open atoms open_
  pub answered : (m : Meaning) → means m → answers ≡ columns m.rows m.answer (take place atoms)
  pub reads : (m : Meaning) → means m → AddsLooks old new (is_free_of m atoms) m.is_bitmap (flat_map m.fetched (take place atoms)) (Unit {0})
  pub steps : (m : Meaning) → means m → now ≤ before + 2 * groups_and_rest m.rows * sum_by m.work (take place atoms)

pub none_settled : {O : Type 0} (means : Meaning → Type 0) (is_open : PlanAtom → O → Type 0) (rows : ℕ) (atoms : List PlanAtom) (old : Option (List Look)) (before : ℕ) (answers : List (List Three)) (open_ : List O) → answers ≡ [] → open_ ≡ [] → Settles {O = O} means is_open rows atoms old before 0 answers open_ old before
none_settled means is_open rows atoms old before answers open_ none no_column = record {
  number = ap length none;
  opened = ap length no_column;
  long = subst (All (λ a. length a ≡ rows)) (sym none) (All-from_recursion (λ a. length a ≡ rows) [] tt);
  are_open = subst (AreOpen is_open atoms) (sym no_column) (λ place atom column h k. absurd cc);
  answered = λ m is. none;
  reads = λ m is. adds_none old old (is_free_of m atoms) m.is_bitmap (Unit {0}) refl;
  steps = λ m is. omega arith;
}

snoc_get : {X : Type 0} (xs : List X) (x : X) (k : ℕ) (y : X) → slice_get (xs ++ x ∷ []) k ≡ Some y → (slice_get xs k ≡ Some y) ⊎ ((k ≡ length xs) × (x ≡ y))
snoc_get [] x zero y h = inr (refl, cc)
snoc_get [] x (suc k) y h = absurd cc
snoc_get (z ∷ xs) x zero y h = inl h
snoc_get (z ∷ xs) x (suc k) y h =
    elim (snoc_get xs x k y h) as (λ _. (slice_get (z ∷ xs) (suc k) ≡ Some y) ⊎ ((suc k ≡ length (z ∷ xs)) × (x ≡ y))) [
      | inl p ↦ inl p
      | inr q ↦ inr (let e = q.0 in omega (arith, e), q.1)
    ]

open_more : {O : Type 0} (is_open : PlanAtom → O → Type 0) (atoms : List PlanAtom) (columns : List O) (atom : PlanAtom) (column : O) → AreOpen is_open atoms columns → slice_get atoms (length columns) ≡ Some atom → is_open atom column → AreOpen is_open atoms (columns ++ column ∷ [])
open_more is_open atoms columns atom column h at is place a c ha hc =
    elim (snoc_get columns column place c hc) as (λ _. is_open a c) [
      | inl p ↦ h place a c ha p
      | inr q ↦ (let e : atom ≡ a = some_same atom a (sym at ∙ ap (slice_get atoms) (sym q.0) ∙ ha) in subst (λ z. is_open z c) e (subst (is_open atom) q.1 is))
    ]
  where
    some_same : (x y : PlanAtom) → Some x ≡ Some y → x ≡ y
    some_same x y e = cc

-- one more
pub one_settled : {O : Type 0} (means : Meaning → Type 0) (is_open : PlanAtom → O → Type 0) (rows : ℕ) (atoms : List PlanAtom) (old : Option (List Look)) (before : ℕ) (place : ℕ) (answers : List (List Three)) (open_ : List O) (mid new : Option (List Look)) (then_ now : ℕ) (atom : PlanAtom) (made : List Three) (column : O)
    → Settles means is_open rows atoms old before place answers open_ mid then_
    → slice_get atoms place ≡ Some atom
    → length made ≡ rows
    → is_open atom column
    → ((m : Meaning) → means m → made ≡ each_row m.rows (λ row. m.answer row atom))
    → ((m : Meaning) → means m → AddsLooks mid new (m.is_free atom) m.is_bitmap (m.fetched atom) (Unit {0}))
    → ((m : Meaning) → means m → now ≤ then_ + 2 * groups_and_rest m.rows * m.work atom)
    → Settles means is_open rows atoms old before (place + 1) (answers ++ made ∷ []) (open_ ++ column ∷ []) new now
one_settled means is_open rows atoms old before place answers open_ mid new then_ now atom made column h at long is answered reads steps = record {
  number = omega (arith, h.number, length-append answers (made ∷ []));
  opened = omega (arith, h.opened, length-append open_ (column ∷ []));
  long = All-append (λ a. length a ≡ rows) answers (made ∷ []) h.long (one_long (λ a. length a ≡ rows) made long);
  are_open = open_more is_open atoms open_ atom column h.are_open (ap (slice_get atoms) h.opened ∙ at) is;
  answered = λ m means_.
      ap (λ l. l ++ made ∷ []) (h.answered m means_) ∙ ap (λ l. columns m.rows m.answer (take place atoms) ++ l ∷ []) (answered m means_)
      ∙ sym (map_taken (λ a. each_row m.rows (λ row. m.answer row a)) atoms place atom at);
  reads = λ m means_.
      subst (λ l. AddsLooks old new (is_free_of m atoms) m.is_bitmap l (Unit {0})) (sym (flat_map_taken m.fetched atoms place atom at))
      (adds_joined old mid new (is_free_of m atoms) m.is_bitmap (flat_map m.fetched (take place atoms)) (m.fetched atom) (Unit {0}) (Unit {0}) tt (h.reads m means_)
      (adds_weaker mid new (m.is_free atom) (is_free_of m atoms) m.is_bitmap (m.fetched atom) (Unit {0}) (λ look free. any_at (λ a. m.is_free a look) atoms place atom at free) (reads m means_)));
  steps = λ m means_.
      cost_more (2 * groups_and_rest m.rows) before then_ now (sum_by m.work (take place atoms)) (m.work atom) (sum_by m.work (take (place + 1) atoms)) (h.steps m means_) (steps m means_) (sum_by_taken m.work atoms place atom at);
}
  where
    cost_more : (g s t u a b c : ℕ) → t ≤ s + g * a → u ≤ t + g * b → c ≡ a + b → u ≤ s + g * c
    cost_more g s t u a b c k l e =
        let z : g * c ≡ g * a + g * b = ap (λ n. g * n) e ∙ grind arith in
        omega (arith, k, l, z)

-- the same of the lists that have them
pub kept_settled : {O : Type 0} (means : Meaning → Type 0) (is_open : PlanAtom → O → Type 0) (rows : ℕ) (atoms : List PlanAtom) (old : Option (List Look)) (before : ℕ) (place : ℕ) (all answers : List (List Three)) (columns_ open_ : List O) (new : Option (List Look)) (now : ℕ) → all ≡ answers → columns_ ≡ open_ → Settles means is_open rows atoms old before place answers open_ new now → Settles means is_open rows atoms old before place all columns_ new now
kept_settled means is_open rows atoms old before place all answers columns_ open_ new now e f h =
    subst (λ l. Settles means is_open rows atoms old before place all l new now) (sym f) (subst (λ l. Settles means is_open rows atoms old before place l open_ new now) (sym e) h)

-- ---- where a call is refused

-- what was read is a front
pub refused_reads : {O : Type 0} (means : Meaning → Type 0) (is_open : PlanAtom → O → Type 0) (rows : ℕ) (atoms : List PlanAtom) (old : Option (List Look)) (before : ℕ) (place : ℕ) (answers : List (List Three)) (open_ : List O) (mid new : Option (List Look)) (then_ : ℕ) (atom : PlanAtom) (done more : Type 0)
    → Settles means is_open rows atoms old before place answers open_ mid then_
    → slice_get atoms place ≡ Some atom
    → (m : Meaning) → means m
    → AddsLooks mid new (m.is_free atom) m.is_bitmap (m.fetched atom) done
    → (more → ⊥)
    → AddsLooks old new (is_free_of m atoms) m.is_bitmap (flat_map m.fetched atoms) more
refused_reads means is_open rows atoms old before place answers open_ mid new then_ atom done more h at m is reads not_done =
    let free = m.is_free atom in
    let whole : flat_map m.fetched (take place atoms) ++ (m.fetched atom ++ flat_map m.fetched (drop (place + 1) atoms)) ≡ flat_map m.fetched atoms =
    sym (append_assoc (flat_map m.fetched (take place atoms)) (m.fetched atom) (flat_map m.fetched (drop (place + 1) atoms)))
    ∙ ap (λ l. l ++ flat_map m.fetched (drop (place + 1) atoms)) (sym (flat_map_taken m.fetched atoms place atom at))
    ∙ flat_map_front m.fetched atoms (place + 1) in
    subst (λ l. AddsLooks old new (is_free_of m atoms) m.is_bitmap l more) whole
    (adds_joined old mid new (is_free_of m atoms) m.is_bitmap (flat_map m.fetched (take place atoms)) (m.fetched atom ++ flat_map m.fetched (drop (place + 1) atoms)) (Unit {0}) more tt (h.reads m is)
    (adds_front mid new (is_free_of m atoms) m.is_bitmap (m.fetched atom) (flat_map m.fetched (drop (place + 1) atoms)) done more not_done
    (adds_weaker mid new free (is_free_of m atoms) m.is_bitmap (m.fetched atom) done (λ look k. any_at (λ a. m.is_free a look) atoms place atom at k) reads)))

-- and the steps are within the sum
pub refused_steps : {O : Type 0} (means : Meaning → Type 0) (is_open : PlanAtom → O → Type 0) (rows : ℕ) (atoms : List PlanAtom) (old : Option (List Look)) (before : ℕ) (place : ℕ) (answers : List (List Three)) (open_ : List O) (mid : Option (List Look)) (then_ now : ℕ) (atom : PlanAtom)
    → Settles means is_open rows atoms old before place answers open_ mid then_
    → slice_get atoms place ≡ Some atom
    → (m : Meaning) → means m
    → now ≤ then_ + 2 * groups_and_rest m.rows * m.work atom
    → now ≤ before + 2 * groups_and_rest m.rows * sum_by m.work atoms
refused_steps means is_open rows atoms old before place answers open_ mid then_ now atom h at m is steps =
    let one : sum_by m.work (take (place + 1) atoms) ≡ sum_by m.work (take place atoms) + m.work atom = sum_by_taken m.work atoms place atom at in
    let some = sum_by_front m.work atoms (place + 1) in
    cost_all (2 * groups_and_rest m.rows) before then_ now (sum_by m.work (take place atoms)) (m.work atom) (sum_by m.work atoms) (h.steps m is) steps (omega (arith, one, some))
  where
    cost_all : (g s t u a b c : ℕ) → t ≤ s + g * a → u ≤ t + g * b → a + b ≤ c → u ≤ s + g * c
    cost_all g s t u a b c k l e =
        let z : g * (a + b) ≡ g * a + g * b = grind arith in
        let y : g * (a + b) ≤ g * c = mul-le-mul_left g e in
        omega (arith, k, l, z, y)
