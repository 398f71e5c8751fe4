-- The second stage, condition by condition.
use Rattle.std.proofs.Common.{◌≡◌, ℕ, ◌+◌, ◌*◌, ◌<◌, ◌^◌, ◌≤◌, Bool, true, false, IsTrue, List, [], ◌∷◌, ◌++◌, Option, Some, All, length, map, take, get_or, refl, sym, ap, subst, ◌∙◌, arith, length-append, inl, inr}
use Rattle.std.specs.Prelude.{◌⊎◌, slice_get}
use Rattle.std.specs.List.{list_any, range_with_len, sum_by}
use Rattle.std.proofs.lemmas.List.FromFn.{get_or-map-range_with_len}
use Rattle.std.proofs.lemmas.List.{length-map}
use Rattle.std.proofs.lemmas.List.Elements.{All-append, All-from_recursion}
use Rattle.std.proofs.lemmas.List.Sums.{count_by-le-length}
use Rattle.binning.specs.declared.against_bins.Three.{Three}
use Rattle.binning.specs.declared.against_bins.Three.TheVariants.{Yes, No, Unknown}
use Rattle.fb_outside.specs.Reads.{Look}
use Rattle.where_plan.specs.declared.plan.PlanAtom.{PlanAtom}
use Rattle.wah_iter.specs.Rows.{rows_of}
use Rattle.wah_logic.specs.Logic.{and, groups_and_rest, ones}
use Rattle.wah_logic.proofs.JoinLemmas.{length-each}
use Rattle.three_valued.specs.Rows.{columns, each_row}
use Rattle.three_valued.specs.Tables.{is_unknown}
use Rattle.stages.specs.Answer.{AreUnknown, is_allowed_on, met_of}
use Rattle.stages.specs.Faults.{IsOneOf}
use Rattle.stages.specs.Looks.{AddsLooks}
use Rattle.stages.specs.Meaning.{Meaning}
use Rattle.stages.specs.Second.{candidates_in, candidates_of, exact_of, exact_on, settled_of}
use Rattle.stages.proofs.LookLemmas.{adds_joined, adds_none, adds_weaker}
use Rattle.stages.proofs.ListLemmas.{any_at, map_at, map_taken, one_long, sum_by_taken}
use Rattle.stages.proofs.RowLemmas.{map-map, row_of_first}

-- a read of a file of the column of one of these conditions: one without values, or of values on its candidates
abbrev pub is_allowed_of : Meaning → List Bool → List PlanAtom → Look → Bool
is_allowed_of m unknown atoms look = list_any (λ atom. is_allowed_on m atom (rows_of (candidates_of m unknown atom)) look) atoms

-- The first conditions up to a place are exact.
pub record Decided (means : Meaning → Type 0) (rows : ℕ) (unknown : List Bool) (atoms : List PlanAtom) (old : Option (List Look)) (before : ℕ) (place : ℕ) (answers : List (List Three)) (checked : ℕ) (new : Option (List Look)) (now : ℕ) : Type 0 where
  pub number : length answers ≡ place
  pub long : All (λ a. length a ≡ rows) answers
  pub few : checked ≤ 4194304 * place
  pub steps : now ≤ before + 2 * groups_and_rest rows * (8 * place)
  pub answered : (m : Meaning) → means m → answers ≡ map (exact_of m unknown) (take place atoms)
  pub counted : (m : Meaning) → means m → checked ≡ sum_by (λ atom. ones (candidates_of m unknown atom)) (take place atoms)
  pub reads : (m : Meaning) → means m → AddsLooks old new (is_allowed_of m unknown atoms) m.is_bitmap [] (Unit {0})

pub none_decided : (means : Meaning → Type 0) (rows : ℕ) (unknown : List Bool) (atoms : List PlanAtom) (old : Option (List Look)) (before : ℕ) (answers : List (List Three)) → answers ≡ [] → Decided means rows unknown atoms old before 0 answers 0 old before
none_decided means rows unknown atoms old before answers none = record {
  number = ap length none;
  long = subst (All (λ a. length a ≡ rows)) (sym none) (All-from_recursion (λ a. length a ≡ rows) [] tt);
  few = omega arith;
  steps = omega arith;
  answered = λ m is. none;
  counted = λ m is. refl;
  reads = λ m is. adds_none old old (is_allowed_of m unknown atoms) m.is_bitmap (Unit {0}) refl;
}

pub candidates_long : (rows : ℕ) (answers : List Three) (unknown v : List Bool) → length answers ≡ rows → length unknown ≡ rows → v ≡ candidates_in answers unknown → length v ≡ rows
candidates_long rows answers unknown v h k e =
    let long = length-map answers is_unknown in
    ap length e ∙ length-each and (map is_unknown answers) unknown (long ∙ h ∙ sym k) ∙ long ∙ h

pub ones_few : (answers : List Three) (unknown : List Bool) (rows : ℕ) → length answers ≡ rows → length unknown ≡ rows → ones (candidates_in answers unknown) ≤ rows
ones_few answers unknown rows h k =
    let all = candidates_long rows answers unknown (candidates_in answers unknown) h k refl in
    let some = count_by-le-length (λ b. b) (candidates_in answers unknown) in
    omega (arith, all, some)

pub one_decided : (means : Meaning → Type 0) (rows : ℕ) (unknown : List Bool) (atoms : List PlanAtom) (old : Option (List Look)) (before : ℕ) (place : ℕ) (answers : List (List Three)) (checked : ℕ) (mid new : Option (List Look)) (then_ now : ℕ) (atom : PlanAtom) (settled made : List Three) (number : ℕ)
    → Decided means rows unknown atoms old before place answers checked mid then_
    → slice_get atoms place ≡ Some atom
    → length made ≡ rows
    → rows ≤ 4194304
    → length settled ≡ rows → length unknown ≡ rows
    → number ≡ ones (candidates_in settled unknown)
    → now ≤ then_ + 2 * groups_and_rest rows * 8
    → ((m : Meaning) → means m → settled ≡ settled_of m atom)
    → ((m : Meaning) → means m → made ≡ exact_on settled unknown (met_of m atom))
    → ((m : Meaning) → means m → AddsLooks mid new (is_allowed_on m atom (rows_of (candidates_in settled unknown))) m.is_bitmap [] (Unit {0}))
    → Decided means rows unknown atoms old before (place + 1) (answers ++ made ∷ []) (checked + number) new now
one_decided means rows unknown atoms old before place answers checked mid new then_ now atom settled made number h at long limit settled_long unknown_long is_number steps is_settled is_made reads = record {
  number = omega (arith, h.number, length-append answers (made ∷ []));
  long = All-append (λ a. length a ≡ rows) answers (made ∷ []) h.long (one_long (λ a. length a ≡ rows) made long);
  few = (let some = ones_few settled unknown rows settled_long unknown_long in omega (arith, h.few, is_number, some, limit));
  steps = cost_more (groups_and_rest rows) before then_ now place h.steps steps;
  answered = λ m is.
      ap (λ l. l ++ made ∷ []) (h.answered m is) ∙ ap (λ l. map (exact_of m unknown) (take place atoms) ++ l ∷ []) (is_made m is ∙ ap (λ s. exact_on s unknown (met_of m atom)) (is_settled m is))
      ∙ sym (map_taken (exact_of m unknown) atoms place atom at);
  counted = λ m is.
      ap (λ n. n + number) (h.counted m is) ∙ ap (λ n. sum_by (λ a. ones (candidates_of m unknown a)) (take place atoms) + n) (is_number ∙ ap (λ s. ones (candidates_in s unknown)) (is_settled m is))
      ∙ sym (sum_by_taken (λ a. ones (candidates_of m unknown a)) atoms place atom at);
  reads = λ m is.
      adds_joined old mid new (is_allowed_of m unknown atoms) m.is_bitmap [] [] (Unit {0}) (Unit {0}) tt (h.reads m is)
      (allowed_at m mid new (Unit {0}) (is_settled m is) (reads m is));
}
  where
    cost_more : (g s t u k : ℕ) → t ≤ s + 2 * g * (8 * k) → u ≤ t + 2 * g * 8 → u ≤ s + 2 * g * (8 * (k + 1))
    cost_more g s t u k h l =
        let z : 2 * g * (8 * (k + 1)) ≡ 2 * g * (8 * k) + 2 * g * 8 = grind arith in
        omega (arith, h, l, z)

    allowed_at : (m : Meaning) (a b : Option (List Look)) (done : Type 0) → settled ≡ settled_of m atom → AddsLooks a b (is_allowed_on m atom (rows_of (candidates_in settled unknown))) m.is_bitmap [] done → AddsLooks a b (is_allowed_of m unknown atoms) m.is_bitmap [] done
    allowed_at m a b done is k =
        adds_weaker a b (is_allowed_on m atom (rows_of (candidates_in settled unknown))) (is_allowed_of m unknown atoms) m.is_bitmap [] done
        (λ look free. any_at (λ x. is_allowed_on m x (rows_of (candidates_of m unknown x)) look) atoms place atom at (subst (λ s. IsTrue (is_allowed_on m atom (rows_of (candidates_in s unknown)) look)) is free)) k

-- the same of the list that has them
pub kept_decided : (means : Meaning → Type 0) (rows : ℕ) (unknown : List Bool) (atoms : List PlanAtom) (old : Option (List Look)) (before : ℕ) (place : ℕ) (all answers : List (List Three)) (checked : ℕ) (new : Option (List Look)) (now : ℕ) → all ≡ answers → Decided means rows unknown atoms old before place answers checked new now → Decided means rows unknown atoms old before place all checked new now
kept_decided means rows unknown atoms old before place all answers checked new now e h = subst (λ l. Decided means rows unknown atoms old before place l checked new now) (sym e) h

-- the sum of checks is a number of 64 bits
pub few_checks : (place many checked made some rows : ℕ) → checked ≤ 4194304 * place → made ≡ some → some ≤ rows → rows ≤ 4194304 → many < 2 ^ 32 → place < many → checked + made < 2 ^ 64
few_checks place many checked made some rows h e k l m n = omega (arith, h, e, k, l, m, n)

-- what a condition that was settled is
pub settled_at : (m : Meaning) (atoms : List PlanAtom) (place : ℕ) (atom : PlanAtom) (answers : List (List Three)) (d : List Three) → answers ≡ columns m.rows m.answer atoms → slice_get atoms place ≡ Some atom → get_or answers place d ≡ settled_of m atom
settled_at m atoms place atom answers d is at = ap (λ l. get_or l place d) is ∙ map_at (settled_of m) atoms place atom d at

pub settled_here : (answers : List (List Three)) (m : Meaning) (atoms : List PlanAtom) (place : ℕ) (atom : PlanAtom) (settled : List Three) → answers ≡ columns m.rows m.answer atoms → slice_get atoms place ≡ Some atom → settled ≡ get_or answers place settled → settled ≡ settled_of m atom
settled_here answers m atoms place atom settled is at here = here ∙ settled_at m atoms place atom answers settled is at

-- ---- where a call is refused

pub stopped : (memory : Type 0) (stops : PlanAtom → Type 0) (atoms : List PlanAtom) (place : ℕ) (atom : PlanAtom) → slice_get atoms place ≡ Some atom → memory ⊎ stops atom → memory ⊎ IsOneOf atoms stops
stopped memory stops atoms place atom at (inl full) = inl full
stopped memory stops atoms place atom at (inr is) = inr (record { place = place; atom = atom; there = at; is = is })

pub refused_reads : (means : Meaning → Type 0) (rows : ℕ) (unknown : List Bool) (atoms : List PlanAtom) (old : Option (List Look)) (before : ℕ) (place : ℕ) (answers : List (List Three)) (checked : ℕ) (mid new : Option (List Look)) (then_ : ℕ) (atom : PlanAtom) (settled : List Three) (done : Type 0)
    → Decided means rows unknown atoms old before place answers checked mid then_
    → slice_get atoms place ≡ Some atom
    → (m : Meaning) → means m
    → settled ≡ settled_of m atom
    → AddsLooks mid new (is_allowed_on m atom (rows_of (candidates_in settled unknown))) m.is_bitmap [] done
    → AddsLooks old new (is_allowed_of m unknown atoms) m.is_bitmap [] done
refused_reads means rows unknown atoms old before place answers checked mid new then_ atom settled done h at m is same reads =
    adds_joined old mid new (is_allowed_of m unknown atoms) m.is_bitmap [] [] (Unit {0}) done tt (h.reads m is)
    (adds_weaker mid new (is_allowed_on m atom (rows_of (candidates_in settled unknown))) (is_allowed_of m unknown atoms) m.is_bitmap [] done
    (λ look free. any_at (λ x. is_allowed_on m x (rows_of (candidates_of m unknown x)) look) atoms place atom at (subst (λ s. IsTrue (is_allowed_on m atom (rows_of (candidates_in s unknown)) look)) same free)) reads)

-- ---- candidates

unknown_from : (x : Three) → is_unknown x ≡ true → x ≡ Unknown
unknown_from Yes h = absurd cc
unknown_from No h = absurd cc
unknown_from Unknown h = refl

-- on each candidate the condition is Unknown
pub candidates_unknown : (m : Meaning) (atom : PlanAtom) (settled : List Three) (unknown rows : List Bool) → settled ≡ settled_of m atom → rows ≡ candidates_in settled unknown → AreUnknown m atom rows
candidates_unknown m atom settled unknown rows is e row below there =
    let first = row_of_first (map is_unknown settled) unknown row (ap (λ v. get_or v row false) (sym e) ∙ there) in
    let same : map is_unknown settled ≡ each_row m.rows (λ r. is_unknown (m.answer r atom)) = ap (map is_unknown) is ∙ map-map is_unknown (λ r. m.answer r atom) (range_with_len 0 m.rows) in
    unknown_from (m.answer row atom) (sym (get_or-map-range_with_len (λ r. is_unknown (m.answer r atom)) 0 m.rows row row false below (omega arith)) ∙ ap (λ v. get_or v row false) (sym same) ∙ first)
