-- Answers that agree with truths.
use Rattle.std.proofs.Common.{◌≡◌, ℕ, zero, suc, ◌+◌, ◌<◌, ◌≤◌, Bool, true, false, not, ◌||◌, ◌&&◌, cond, List, [], ◌∷◌, All, count_by, refl, sym, ap, subst, ◌∙◌, arith}
use Rattle.std.specs.List.{AllByRecursion, range_with_len}
use Rattle.std.proofs.lemmas.Bool.{and_right, or_right}
use Rattle.std.proofs.lemmas.List.Elements.{All-weaker}
use Rattle.std.proofs.lemmas.List.Sums.{sum_by-cons}
use Rattle.binning.specs.declared.against_bins.Three.{Three}
use Rattle.binning.specs.declared.against_bins.Three.TheVariants.{Yes, No, Unknown}
use Rattle.where_plan.specs.declared.plan.PlanAtom.{PlanAtom}
use Rattle.where_plan.specs.declared.plan.Plan.{Plan}
use Rattle.wah_logic.specs.Logic.{xor}
use Rattle.three_valued.specs.Tables.{decided, is_possible, is_unknown, is_yes, three_and, three_not, three_or, three_xor}
use Rattle.three_valued.specs.Plans.{AreDecided, AreSound, IsSound, atoms_of, is_true, settled, three}
use Rattle.three_valued.specs.Candidates.{definite_rows, possible_rows, true_rows}
use Rattle.three_valued.proofs.PlanLemmas.{IsKept, kept_by_plans}

-- ---- the tables keep that Yes means true and No false

sound_not : (x : Three) (t : Bool) → IsSound x t → IsSound (three_not x) (not t)
sound_not Yes t h = ap not h
sound_not No t h = ap not h
sound_not Unknown t h = tt

sound_or : (x y : Three) (t u : Bool) → IsSound x t → IsSound y u → IsSound (three_or x y) (t || u)
sound_or Yes y t u h k = ap (λ v. v || u) h
sound_or No y t u h k = subst (IsSound y) (sym (ap (λ v. v || u) h)) k
sound_or Unknown Yes t u h k = or_right t u k
sound_or Unknown No t u h k = tt
sound_or Unknown Unknown t u h k = tt

sound_xor : (x y : Three) (t u : Bool) → IsSound x t → IsSound y u → IsSound (three_xor x y) (xor t u)
sound_xor Yes y t u h k = subst (IsSound (three_not y)) (sym (ap (λ v. xor v u) h)) (sound_not y u k)
sound_xor No y t u h k = subst (IsSound y) (sym (ap (λ v. xor v u) h)) k
sound_xor Unknown y t u h k = tt

sound_and : (x y : Three) (t u : Bool) → IsSound x t → IsSound y u → IsSound (three_and x y) (t && u)
sound_and Yes y t u h k = subst (IsSound y) (sym (ap (λ v. v && u) h)) k
sound_and No y t u h k = ap (λ v. v && u) h
sound_and Unknown Yes t u h k = tt
sound_and Unknown No t u h k = and_right t u k
sound_and Unknown Unknown t u h k = tt

sound_kept : IsKept IsSound
sound_kept = record { on_yes = refl; on_no = refl; on_not = sound_not; on_or = sound_or; on_xor = sound_xor; on_and = sound_and }

pub sound_plans : (answer : PlanAtom → Three) (truth : PlanAtom → Bool) (plan : Plan) → AreSound answer truth (atoms_of plan) → IsSound (three answer plan) (is_true truth plan)
sound_plans answer truth plan all = kept_by_plans IsSound sound_kept answer truth plan all

-- ---- and that answers are the truth

truth_not : (x : Three) (t : Bool) → x ≡ decided t → three_not x ≡ decided (not t)
truth_not x t h = ap three_not h ∙ at t
  where
    at : (t : Bool) → three_not (decided t) ≡ decided (not t)
    at true = refl
    at false = refl

truth_or : (x y : Three) (t u : Bool) → x ≡ decided t → y ≡ decided u → three_or x y ≡ decided (t || u)
truth_or x y t u h k = ap (λ z. three_or z y) h ∙ ap (three_or (decided t)) k ∙ at t
  where
    at : (t : Bool) → three_or (decided t) (decided u) ≡ decided (t || u)
    at true = refl
    at false = refl

truth_xor : (x y : Three) (t u : Bool) → x ≡ decided t → y ≡ decided u → three_xor x y ≡ decided (xor t u)
truth_xor x y t u h k = ap (λ z. three_xor z y) h ∙ ap (three_xor (decided t)) k ∙ at t u
  where
    at : (t u : Bool) → three_xor (decided t) (decided u) ≡ decided (xor t u)
    at true true = refl
    at true false = refl
    at false u = refl

truth_and : (x y : Three) (t u : Bool) → x ≡ decided t → y ≡ decided u → three_and x y ≡ decided (t && u)
truth_and x y t u h k = ap (λ z. three_and z y) h ∙ ap (three_and (decided t)) k ∙ at t
  where
    at : (t : Bool) → three_and (decided t) (decided u) ≡ decided (t && u)
    at true = refl
    at false = refl

truth_kept : IsKept (λ x t. x ≡ decided t)
truth_kept = record { on_yes = refl; on_no = refl; on_not = truth_not; on_or = truth_or; on_xor = truth_xor; on_and = truth_and }

pub decided_plans : (answer : PlanAtom → Three) (truth : PlanAtom → Bool) (plan : Plan) → AreDecided answer truth (atoms_of plan) → three answer plan ≡ decided (is_true truth plan)
decided_plans answer truth plan all = kept_by_plans (λ x t. x ≡ decided t) truth_kept answer truth plan all

-- ---- answers that are known, and those that are decided

pub known_truth : (x : Three) (t : Bool) → IsSound x t → is_unknown x ≡ false → x ≡ decided t
known_truth Yes t h k = sym (ap decided h)
known_truth No t h k = sym (ap decided h)
known_truth Unknown t h k = absurd cc

pub known_plans : (answer : PlanAtom → Three) (truth : PlanAtom → Bool) (plan : Plan) → AreSound answer truth (atoms_of plan) → is_unknown (three answer plan) ≡ false → three answer plan ≡ decided (is_true truth plan)
known_plans answer truth plan all known = known_truth (three answer plan) (is_true truth plan) (sound_plans answer truth plan all) known

settled_truth : (x : Three) (t : Bool) → IsSound x t → cond (is_unknown x) (decided t) x ≡ decided t
settled_truth Yes t h = sym (ap decided h)
settled_truth No t h = sym (ap decided h)
settled_truth Unknown t h = refl

pub settled_plans : (answer : PlanAtom → Three) (truth : PlanAtom → Bool) (plan : Plan) → AreSound answer truth (atoms_of plan) → three (settled answer truth) plan ≡ decided (is_true truth plan)
settled_plans answer truth plan all =
    decided_plans (settled answer truth) truth plan (All-weaker (λ atom. IsSound (answer atom) (truth atom)) (λ atom. settled answer truth atom ≡ decided (truth atom)) (λ atom h. settled_truth (answer atom) (truth atom) h) (atoms_of plan) all)

-- ---- counts of rows

range_all : (P : ℕ → Type 0) (a n : ℕ) → ((row : ℕ) → row < a + n → P row) → AllByRecursion P (range_with_len a n)
range_all P a zero h = tt
range_all P a (suc n) h = (h a (omega arith), range_all P (a + 1) n (λ row below. h row (omega (arith, below))))

count_le : (p q : ℕ → Bool) (rows : List ℕ) → AllByRecursion (λ row. p row ≡ true → q row ≡ true) rows → count_by p rows ≤ count_by q rows
count_le p q [] h = omega arith
count_le p q (row ∷ rows) h =
    let rest = count_le p q rows h.1 in
    let one = one_le (p row) (q row) h.0 in
    omega (arith, rest, one, sum_by-cons (λ row. cond (p row) 1 0) row rows, sum_by-cons (λ row. cond (q row) 1 0) row rows)
  where
    one_le : (x y : Bool) → (x ≡ true → y ≡ true) → cond x 1 0 ≤ cond y 1 0
    one_le false y k = omega arith
    one_le true y k = let same : y ≡ true = k refl in rw same (omega arith)

yes_is_true : (x : Three) (t : Bool) → IsSound x t → is_yes x ≡ true → t ≡ true
yes_is_true Yes t h k = h
yes_is_true No t h k = absurd cc
yes_is_true Unknown t h k = absurd cc

true_is_possible : (x : Three) (t : Bool) → IsSound x t → t ≡ true → is_possible x ≡ true
true_is_possible Yes t h k = refl
true_is_possible No t h k = absurd cc
true_is_possible Unknown t h k = refl

pub definite_le : (rows : ℕ) (answer : ℕ → PlanAtom → Three) (truth : ℕ → PlanAtom → Bool) (plan : Plan) → ((row : ℕ) → row < rows → AreSound (answer row) (truth row) (atoms_of plan)) → definite_rows rows answer plan ≤ true_rows rows truth plan
definite_le rows answer truth plan h =
    count_le (λ row. is_yes (three (answer row) plan)) (λ row. is_true (truth row) plan) (range_with_len 0 rows)
    (range_all (λ row. is_yes (three (answer row) plan) ≡ true → is_true (truth row) plan ≡ true) 0 rows (λ row below. yes_is_true (three (answer row) plan) (is_true (truth row) plan) (sound_plans (answer row) (truth row) plan (h row (omega (arith, below))))))

pub possible_ge : (rows : ℕ) (answer : ℕ → PlanAtom → Three) (truth : ℕ → PlanAtom → Bool) (plan : Plan) → ((row : ℕ) → row < rows → AreSound (answer row) (truth row) (atoms_of plan)) → true_rows rows truth plan ≤ possible_rows rows answer plan
possible_ge rows answer truth plan h =
    count_le (λ row. is_true (truth row) plan) (λ row. is_possible (three (answer row) plan)) (range_with_len 0 rows)
    (range_all (λ row. is_true (truth row) plan ≡ true → is_possible (three (answer row) plan) ≡ true) 0 rows (λ row below. true_is_possible (three (answer row) plan) (is_true (truth row) plan) (sound_plans (answer row) (truth row) plan (h row (omega (arith, below))))))
