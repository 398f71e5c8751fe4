-- The numbers of small plans, from what is known of their conditions.
use Rattle.std.proofs.Common.{◌≡◌, ℕ, Bool, ◌&&◌, cond, List, [], ◌∷◌, length, count_by, filter, sum_by, refl, ap, ◌∙◌, arith}
use Rattle.std.specs.List.{AllByRecursion, flat_map, range_with_len}
use Rattle.std.proofs.lemmas.List.Sums.{sum_by-cons}
use Rattle.binning.specs.declared.against_bins.Three.{Three}
use Rattle.where_plan.specs.declared.plan.Plan.{Plan}
use Rattle.where_plan.specs.declared.plan.Plan.TheVariants as plan
use Rattle.where_plan.specs.declared.plan.PlanAtom.{PlanAtom}
use Rattle.three_valued.specs.Candidates.{candidates, checked, definite_rows, possible_rows}
use Rattle.three_valued.specs.Plans.{atoms_of, three}
use Rattle.three_valued.specs.Tables.{is_possible, is_unknown, is_yes, joined, three_not}
use Rattle.three_valued.specs.declared.connectives.Join.TheVariants as join
use Rattle.three_valued.proofs.PlanLemmas.{atoms_of-and, atoms_of-not, atoms_of-one, three-and, three-not, three-one}

-- What is said of the plan on each row, its conditions, and what is known of these.
pub record Says (answer given : ℕ → PlanAtom → Three) (p : Plan) (said : ℕ → Three) (atoms : List PlanAtom) : Type 0 where
  pub each : (row : ℕ) → three (answer row) p ≡ said row
  pub are : atoms_of p ≡ atoms
  pub same : AllByRecursion (λ a. (row : ℕ) → answer row a ≡ given row a) atoms

abbrev one_if : Bool → ℕ
one_if b = cond b 1 0

count_same : (f g : ℕ → Bool) (rows : List ℕ) → ((row : ℕ) → f row ≡ g row) → count_by f rows ≡ count_by g rows
count_same f g [] same = refl
count_same f g (row ∷ rows) same =
    let rest = count_same f g rows same in
    let here : one_if (f row) ≡ one_if (g row) = ap one_if (same row) in
    omega (arith, rest, here, sum_by-cons (λ r. one_if (f r)) row rows, sum_by-cons (λ r. one_if (g r)) row rows)

filter_same : (f g : ℕ → Bool) (rows : List ℕ) → ((row : ℕ) → f row ≡ g row) → filter f rows ≡ filter g rows
filter_same f g [] same = refl
filter_same f g (row ∷ rows) same =
    ap (λ b. cond b (row ∷ filter f rows) (filter f rows)) (same row)
    ∙ ap (λ rs. cond (g row) (row ∷ rs) rs) (filter_same f g rows same)

sum_same : (f g : PlanAtom → ℕ) (P : PlanAtom → Type 0) (atoms : List PlanAtom) → AllByRecursion P atoms → ((a : PlanAtom) → P a → f a ≡ g a)
    → sum_by f atoms ≡ sum_by g atoms
sum_same f g P [] all same = refl
sum_same f g P (a ∷ atoms) all same =
    omega (arith, sum_same f g P atoms all.1 same, same a all.0, sum_by-cons f a atoms, sum_by-cons g a atoms)

both_same : (x y t u : Three) → x ≡ y → t ≡ u → (is_unknown x && is_unknown t) ≡ (is_unknown y && is_unknown u)
both_same x y t u h k = ap (λ z. is_unknown z && is_unknown t) h ∙ ap (λ z. is_unknown y && is_unknown z) k

module _ {answer given : ℕ → PlanAtom → Three} {p : Plan} {said : ℕ → Three} {atoms : List PlanAtom} (rows : ℕ) (s : Says answer given p said atoms) where
  pub definite_by : definite_rows rows answer p ≡ count_by (λ row. is_yes (said row)) (range_with_len 0 rows)
  definite_by = count_same (λ row. is_yes (three (answer row) p)) (λ row. is_yes (said row)) (range_with_len 0 rows) (λ row. ap is_yes (s.each row))

  pub possible_by : possible_rows rows answer p ≡ count_by (λ row. is_possible (said row)) (range_with_len 0 rows)
  possible_by = count_same (λ row. is_possible (three (answer row) p)) (λ row. is_possible (said row)) (range_with_len 0 rows) (λ row. ap is_possible (s.each row))

  pub checked_by : checked rows answer p
      ≡ sum_by (λ a. length (filter (λ row. is_unknown (given row a) && is_unknown (said row)) (range_with_len 0 rows))) atoms
  checked_by =
      ap (sum_by (λ a. length (candidates rows answer p a))) s.are
      ∙ sum_same (λ a. length (candidates rows answer p a))
      (λ a. length (filter (λ row. is_unknown (given row a) && is_unknown (said row)) (range_with_len 0 rows)))
      (λ a. (row : ℕ) → answer row a ≡ given row a) atoms s.same
      (λ a same. ap length (filter_same (λ row. is_unknown (answer row a) && is_unknown (three (answer row) p))
      (λ row. is_unknown (given row a) && is_unknown (said row)) (range_with_len 0 rows)
      (λ row. both_same (answer row a) (given row a) (three (answer row) p) (said row) (same row) (s.each row))))

module _ (answer given : ℕ → PlanAtom → Three) where
  pub says_one : (a : PlanAtom) → ((row : ℕ) → answer row a ≡ given row a) → Says answer given (plan.One a) (λ row. given row a) (a ∷ [])
  says_one a same = record { each = λ row. three-one (answer row) a ∙ same row; are = atoms_of-one a; same = (same, tt) }

  pub says_not : (a : PlanAtom) → ((row : ℕ) → answer row a ≡ given row a)
      → Says answer given (plan.Not (plan.One a)) (λ row. three_not (given row a)) (a ∷ [])
  says_not a same = record {
    each = λ row. three-not (answer row) (plan.One a) ∙ ap three_not (three-one (answer row) a ∙ same row);
    are = atoms_of-not (plan.One a) ∙ atoms_of-one a;
    same = (same, tt);
  }

  pub says_both : (a b : PlanAtom) → ((row : ℕ) → answer row a ≡ given row a) → ((row : ℕ) → answer row b ≡ given row b)
      → Says answer given (plan.And (plan.One a ∷ plan.One b ∷ [])) (λ row. joined join.And (given row a ∷ given row b ∷ [])) (a ∷ b ∷ [])
  says_both a b first second = record {
    each = λ row.
        three-and (answer row) (plan.One a ∷ plan.One b ∷ [])
        ∙ ap (λ t. joined join.And (t ∷ three (answer row) (plan.One b) ∷ [])) (three-one (answer row) a ∙ first row)
        ∙ ap (λ t. joined join.And (given row a ∷ t ∷ [])) (three-one (answer row) b ∙ second row);
    are =
        atoms_of-and (plan.One a ∷ plan.One b ∷ [])
        ∙ ap (λ these. flat_map (λ xs. xs) (these ∷ atoms_of (plan.One b) ∷ [])) (atoms_of-one a)
        ∙ ap (λ these. flat_map (λ xs. xs) ((a ∷ []) ∷ these ∷ [])) (atoms_of-one b);
    same = (first, (second, tt));
  }
