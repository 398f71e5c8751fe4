-- Steps of calls, added up.
use Rattle.std.proofs.Common.{◌≡◌, ℕ, ◌+◌, ◌*◌, ◌≤◌, List, [], ◌∷◌, length, refl, sym, ap, subst, arith}
use Rattle.std.specs.List.{sum_by}
use Rattle.std.proofs.lemmas.List.Sums.{sum_by-cons}
use Rattle.where_plan.specs.declared.plan.Plan.{Plan}
use Rattle.three_valued.specs.Plans.{atoms_of, parts_of}
use Rattle.stages.specs.Answer.{work_in}
use Rattle.stages.specs.Meaning.{Meaning}

-- each item's number and 8 more
each_more : {X : Type 0} (f : X → ℕ) (xs : List X) → sum_by (λ x. f x + 8) xs ≡ sum_by f xs + 8 * length xs
each_more f [] = refl
each_more f (x ∷ xs) = omega (arith, sum_by-cons (λ y. f y + 8) x xs, sum_by-cons f x xs, each_more f xs)

work_sum : (m : Meaning) (plan : Plan) → work_in m plan ≡ 8 + 16 * parts_of plan + (sum_by m.work (atoms_of plan) + 8 * length (atoms_of plan))
work_sum m plan = ap (λ n. 8 + 16 * parts_of plan + n) (each_more m.work (atoms_of plan))

-- ---- the second stage

pub cost_second : (g s t u v p l : ℕ) → t ≤ s + 2 * g * (8 * l) → u ≤ t + 2 * g * (6 * p + 2) → v ≤ u + g → v ≤ s + 2 * g * (6 * p + 8 * l + 3)
cost_second g s t u v p l h k n =
    let z : 2 * g * (6 * p + 8 * l + 3) ≡ 2 * g * (8 * l) + 2 * g * (6 * p + 2) + 2 * g = grind arith in
    omega (arith, h, k, n, z)

-- conditions alone
pub cost_decided : (g s t p l : ℕ) → t ≤ s + 2 * g * (8 * l) → t ≤ s + 2 * g * (6 * p + 8 * l + 3)
cost_decided g s t p l h =
    let z : 2 * g * (6 * p + 8 * l + 3) ≡ 2 * g * (8 * l) + 2 * g * (6 * p + 3) = grind arith in
    omega (arith, h, z)

-- ---- both evaluations

-- the first alone, and at most 8 groups more
pub cost_first : (g s t u p l : ℕ) → t ≤ s + 2 * g * (6 * p) → u ≤ t + 8 * g → u ≤ s + 2 * g * (12 * p + 8 * l + 8)
cost_first g s t u p l h k =
    let z : 2 * g * (12 * p + 8 * l + 8) ≡ 2 * g * (6 * p) + 2 * g * (6 * p + 8 * l) + 16 * g = grind arith in
    omega (arith, h, k, z)

pub cost_both : (g s t u v p l : ℕ) → t ≤ s + 2 * g * (6 * p) → u ≤ t + 8 * g → v ≤ u + 2 * g * (6 * p + 8 * l + 3) → v ≤ s + 2 * g * (12 * p + 8 * l + 8)
cost_both g s t u v p l h k n =
    let z : 2 * g * (12 * p + 8 * l + 8) ≡ 2 * g * (6 * p) + 2 * g * (6 * p + 8 * l + 3) + 10 * g = grind arith in
    omega (arith, h, k, n, z)

-- ---- with the first stage

-- the first stage alone
settled_part : (g w p l : ℕ) → 2 * g * w ≤ 2 * g * (8 + 16 * p + (w + 8 * l))
settled_part g w p l =
    let z : 2 * g * (8 + 16 * p + (w + 8 * l)) ≡ 2 * g * w + 2 * g * (8 + 16 * p + 8 * l) = grind arith in
    omega (arith, z)

bounds_part : (g w p l : ℕ) → 2 * g * w + 2 * g * (6 * p + 1) ≤ 2 * g * (8 + 16 * p + (w + 8 * l))
bounds_part g w p l =
    let z : 2 * g * (8 + 16 * p + (w + 8 * l)) ≡ 2 * g * w + 2 * g * (6 * p + 1) + 2 * g * (7 + 10 * p + 8 * l) = grind arith in
    omega (arith, z)

hits_part : (g w p l : ℕ) → 2 * g * w + 2 * g * (12 * p + 8 * l + 8) ≤ 2 * g * (8 + 16 * p + (w + 8 * l))
hits_part g w p l =
    let z : 2 * g * (8 + 16 * p + (w + 8 * l)) ≡ 2 * g * w + 2 * g * (12 * p + 8 * l + 8) + 2 * g * (4 * p) = grind arith in
    omega (arith, z)

within : (s t x y : ℕ) → t ≤ s + x → x ≤ y → t ≤ s + y
within s t x y h k = omega (arith, h, k)

within_two : (s t u x y z : ℕ) → t ≤ s + x → u ≤ t + y → x + y ≤ z → u ≤ s + z
within_two s t u x y z h k l = omega (arith, h, k, l)

-- what is said of the sum is said of the plan's work
of_work : (g s t : ℕ) (m : Meaning) (plan : Plan) → t ≤ s + 2 * g * (8 + 16 * parts_of plan + (sum_by m.work (atoms_of plan) + 8 * length (atoms_of plan))) → t ≤ s + 2 * g * work_in m plan
of_work g s t m plan h = subst (λ n. t ≤ s + 2 * g * n) (sym (work_sum m plan)) h

pub cost_settled : (g s t : ℕ) (m : Meaning) (plan : Plan) → t ≤ s + 2 * g * sum_by m.work (atoms_of plan) → t ≤ s + 2 * g * work_in m plan
cost_settled g s t m plan h =
    let w = sum_by m.work (atoms_of plan) in
    let p = parts_of plan in
    let l = length (atoms_of plan) in
    of_work g s t m plan (within s t (2 * g * w) (2 * g * (8 + 16 * p + (w + 8 * l))) h (settled_part g w p l))

pub cost_bounds : (g s t u : ℕ) (m : Meaning) (plan : Plan) → t ≤ s + 2 * g * sum_by m.work (atoms_of plan) → u ≤ t + 2 * g * (6 * parts_of plan + 1) → u ≤ s + 2 * g * work_in m plan
cost_bounds g s t u m plan h k =
    let w = sum_by m.work (atoms_of plan) in
    let p = parts_of plan in
    let l = length (atoms_of plan) in
    of_work g s u m plan (within_two s t u (2 * g * w) (2 * g * (6 * p + 1)) (2 * g * (8 + 16 * p + (w + 8 * l))) h k (bounds_part g w p l))

pub cost_hits : (g s t u : ℕ) (m : Meaning) (plan : Plan) → t ≤ s + 2 * g * sum_by m.work (atoms_of plan) → u ≤ t + 2 * g * (12 * parts_of plan + 8 * length (atoms_of plan) + 8) → u ≤ s + 2 * g * work_in m plan
cost_hits g s t u m plan h k =
    let w = sum_by m.work (atoms_of plan) in
    let p = parts_of plan in
    let l = length (atoms_of plan) in
    of_work g s u m plan (within_two s t u (2 * g * w) (2 * g * (12 * p + 8 * l + 8)) (2 * g * (8 + 16 * p + (w + 8 * l))) h k (hits_part g w p l))
