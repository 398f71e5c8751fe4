-- Plans: their answers and truths from those of their parts, and induction.
use Rattle.std.proofs.Common.{◌≡◌, ℕ, ◌+◌, Bool, true, false, not, ◌||◌, ◌&&◌, List, [], ◌∷◌, ◌++◌, length, map, All, refl, sym, ap, subst, ◌∙◌, arith}
use Rattle.std.specs.Prelude.{sum}
use Rattle.std.specs.List.{AllByRecursion, flat_map, list_all, list_any}
use Rattle.std.proofs.lemmas.List.Elements.{recursion_from_All}
use Rattle.std.proofs.lemmas.List.Sums.{sum_by-cons}
use Rattle.binning.specs.declared.against_bins.Three.{Three}
use Rattle.binning.specs.declared.against_bins.Three.TheVariants.{Yes, No, Unknown}
use Rattle.where_grammar.specs.Holds.{odd_many}
use Rattle.where_plan.specs.declared.plan.PlanAtom.{PlanAtom}
use Rattle.where_plan.specs.declared.plan.Plan.{Plan, roll-Plan, map-Plan}
use Rattle.where_plan.specs.declared.plan.Plan.TheVariants as plan
use Rattle.where_plan.specs.declared.plan.Plan.TheVariants.{rolls-All, rolls-Or, rolls-Xor, rolls-And, rolls-Not, rolls-One}
use Rattle.where_plan.specs.declared.plan.Plan.TheOpen.{Plan-F}
use Rattle.where_plan.specs.declared.plan.Plan.TheFolds.{fold-Plan, fold-roll-Plan, ind-Plan}
use Rattle.where_plan.specs.Plans.{atoms_of as conditions_of, joined as lists_joined}
use Rattle.where_plan.specs.PlanHolds.{plan_atom_holds, plan_holds}
use Rattle.where_plan.proofs.FoldLemmas.{atoms_of-all as conditions_of-all, atoms_of-or as conditions_of-or, atoms_of-xor as conditions_of-xor, atoms_of-and as conditions_of-and, atoms_of-not as conditions_of-not, atoms_of-one as conditions_of-one, plan_holds-all, plan_holds-or, plan_holds-xor, plan_holds-and, plan_holds-not, plan_holds-one}
use Rattle.fb_types.specs.declared.cells.Cell.{Cell}
use Rattle.wah_logic.specs.Logic.{xor}
use Rattle.three_valued.specs.declared.connectives.Join.{Join}
use Rattle.three_valued.specs.declared.connectives.Join.TheVariants as join
use Rattle.three_valued.specs.Tables.{decided, joined, joins, three_and, three_not, three_or, three_xor}
use Rattle.three_valued.specs.Plans.{atoms_of, is_true, parts_by_parts, parts_in, parts_of, three, three_by_parts, truth_by_parts}

-- ---- induction

pub record PlanCases (P : Plan → Type 0) : Type 0 where
  pub on_all : P plan.All
  pub on_or : (parts : List Plan) → AllByRecursion P parts → P (plan.Or parts)
  pub on_xor : (parts : List Plan) → AllByRecursion P parts → P (plan.Xor parts)
  pub on_and : (parts : List Plan) → AllByRecursion P parts → P (plan.And parts)
  pub on_not : (part : Plan) → P part → P (plan.Not part)
  pub on_one : (atom : PlanAtom) → P (plan.One atom)

each_such : {S : Type 0} (P : Plan → Type 0) (plan_of : S → Plan) → ((s : S) → P (plan_of s)) → (ss : List S) → AllByRecursion P (map plan_of ss)
each_such P plan_of holds [] = tt
each_such P plan_of holds (s ∷ ss) = (holds s, each_such P plan_of holds ss)

one_layer : {S : Type 0} (P : Plan → Type 0) (plan_of : S → Plan) → ((s : S) → P (plan_of s)) → PlanCases P → (layer : Plan-F S) → P (roll-Plan (map-Plan S Plan plan_of layer))
one_layer P plan_of holds cases Plan-F.All = subst P (sym rolls-All) cases.on_all
one_layer P plan_of holds cases (Plan-F.Or ss) = subst P (sym (rolls-Or (map plan_of ss))) (cases.on_or (map plan_of ss) (each_such P plan_of holds ss))
one_layer P plan_of holds cases (Plan-F.Xor ss) = subst P (sym (rolls-Xor (map plan_of ss))) (cases.on_xor (map plan_of ss) (each_such P plan_of holds ss))
one_layer P plan_of holds cases (Plan-F.And ss) = subst P (sym (rolls-And (map plan_of ss))) (cases.on_and (map plan_of ss) (each_such P plan_of holds ss))
one_layer P plan_of holds cases (Plan-F.Not s) = subst P (sym (rolls-Not (plan_of s))) (cases.on_not (plan_of s) (holds s))
one_layer P plan_of holds cases (Plan-F.One atom) = subst P (sym (rolls-One atom)) (cases.on_one atom)

pub plan_induction : (P : Plan → Type 0) → PlanCases P → (p : Plan) → P p
plan_induction P cases p = ind-Plan P (λ x y is. subst (λ z. P (roll-Plan z)) is (one_layer P (λ e. e.0) (λ e. e.1) cases y)) p

-- ---- the three-valued answer of a plan

pub three-all : (answer : PlanAtom → Three) → three answer plan.All ≡ Yes
unfolding three
three-all answer = ap (fold-Plan Three (three_by_parts answer)) (sym rolls-All) ∙ fold-roll-Plan Three (three_by_parts answer) Plan-F.All

pub three-or : (answer : PlanAtom → Three) (parts : List Plan) → three answer (plan.Or parts) ≡ joined join.Or (map (three answer) parts)
unfolding three
three-or answer parts = ap (fold-Plan Three (three_by_parts answer)) (sym (rolls-Or parts)) ∙ fold-roll-Plan Three (three_by_parts answer) (Plan-F.Or parts)

pub three-xor : (answer : PlanAtom → Three) (parts : List Plan) → three answer (plan.Xor parts) ≡ joined join.Xor (map (three answer) parts)
unfolding three
three-xor answer parts = ap (fold-Plan Three (three_by_parts answer)) (sym (rolls-Xor parts)) ∙ fold-roll-Plan Three (three_by_parts answer) (Plan-F.Xor parts)

pub three-and : (answer : PlanAtom → Three) (parts : List Plan) → three answer (plan.And parts) ≡ joined join.And (map (three answer) parts)
unfolding three
three-and answer parts = ap (fold-Plan Three (three_by_parts answer)) (sym (rolls-And parts)) ∙ fold-roll-Plan Three (three_by_parts answer) (Plan-F.And parts)

pub three-not : (answer : PlanAtom → Three) (part : Plan) → three answer (plan.Not part) ≡ three_not (three answer part)
unfolding three
three-not answer part = ap (fold-Plan Three (three_by_parts answer)) (sym (rolls-Not part)) ∙ fold-roll-Plan Three (three_by_parts answer) (Plan-F.Not part)

pub three-one : (answer : PlanAtom → Three) (atom : PlanAtom) → three answer (plan.One atom) ≡ answer atom
unfolding three
three-one answer atom = ap (fold-Plan Three (three_by_parts answer)) (sym (rolls-One atom)) ∙ fold-roll-Plan Three (three_by_parts answer) (Plan-F.One atom)

-- ---- its truth

any_mapped : {X : Type 0} (f : X → Bool) (xs : List X) → list_any (λ b. b) (map f xs) ≡ list_any f xs
any_mapped f [] = refl
any_mapped f (x ∷ xs) = ap (λ b. f x || b) (any_mapped f xs)

all_mapped : {X : Type 0} (f : X → Bool) (xs : List X) → list_all (λ b. b) (map f xs) ≡ list_all f xs
all_mapped f [] = refl
all_mapped f (x ∷ xs) = ap (λ b. f x && b) (all_mapped f xs)

pub is_true-all : (truth : PlanAtom → Bool) → is_true truth plan.All ≡ true
unfolding is_true
is_true-all truth = ap (fold-Plan Bool (truth_by_parts truth)) (sym rolls-All) ∙ fold-roll-Plan Bool (truth_by_parts truth) Plan-F.All

pub is_true-or : (truth : PlanAtom → Bool) (parts : List Plan) → is_true truth (plan.Or parts) ≡ list_any (λ part. is_true truth part) parts
unfolding is_true
is_true-or truth parts = ap (fold-Plan Bool (truth_by_parts truth)) (sym (rolls-Or parts)) ∙ (fold-roll-Plan Bool (truth_by_parts truth) (Plan-F.Or parts) ∙ any_mapped (is_true truth) parts)

pub is_true-xor : (truth : PlanAtom → Bool) (parts : List Plan) → is_true truth (plan.Xor parts) ≡ odd_many (map (λ part. is_true truth part) parts)
unfolding is_true
is_true-xor truth parts = ap (fold-Plan Bool (truth_by_parts truth)) (sym (rolls-Xor parts)) ∙ fold-roll-Plan Bool (truth_by_parts truth) (Plan-F.Xor parts)

pub is_true-and : (truth : PlanAtom → Bool) (parts : List Plan) → is_true truth (plan.And parts) ≡ list_all (λ part. is_true truth part) parts
unfolding is_true
is_true-and truth parts = ap (fold-Plan Bool (truth_by_parts truth)) (sym (rolls-And parts)) ∙ (fold-roll-Plan Bool (truth_by_parts truth) (Plan-F.And parts) ∙ all_mapped (is_true truth) parts)

pub is_true-not : (truth : PlanAtom → Bool) (part : Plan) → is_true truth (plan.Not part) ≡ not (is_true truth part)
unfolding is_true
is_true-not truth part = ap (fold-Plan Bool (truth_by_parts truth)) (sym (rolls-Not part)) ∙ fold-roll-Plan Bool (truth_by_parts truth) (Plan-F.Not part)

pub is_true-one : (truth : PlanAtom → Bool) (atom : PlanAtom) → is_true truth (plan.One atom) ≡ truth atom
unfolding is_true
is_true-one truth atom = ap (fold-Plan Bool (truth_by_parts truth)) (sym (rolls-One atom)) ∙ fold-roll-Plan Bool (truth_by_parts truth) (Plan-F.One atom)

-- ---- its conditions

joined_mapped : {X A : Type 0} (f : X → List A) (xs : List X) → lists_joined (map f xs) ≡ flat_map f xs
joined_mapped f [] = refl
joined_mapped f (x ∷ xs) = ap (λ l. f x ++ l) (joined_mapped f xs)

pub atoms_of-all : atoms_of plan.All ≡ []
unfolding atoms_of
atoms_of-all = conditions_of-all

pub atoms_of-or : (parts : List Plan) → atoms_of (plan.Or parts) ≡ flat_map atoms_of parts
unfolding atoms_of
atoms_of-or parts = conditions_of-or parts ∙ joined_mapped conditions_of parts

pub atoms_of-xor : (parts : List Plan) → atoms_of (plan.Xor parts) ≡ flat_map atoms_of parts
unfolding atoms_of
atoms_of-xor parts = conditions_of-xor parts ∙ joined_mapped conditions_of parts

pub atoms_of-and : (parts : List Plan) → atoms_of (plan.And parts) ≡ flat_map atoms_of parts
unfolding atoms_of
atoms_of-and parts = conditions_of-and parts ∙ joined_mapped conditions_of parts

pub atoms_of-not : (part : Plan) → atoms_of (plan.Not part) ≡ atoms_of part
unfolding atoms_of
atoms_of-not part = conditions_of-not part

pub atoms_of-one : (atom : PlanAtom) → atoms_of (plan.One atom) ≡ atom ∷ []
unfolding atoms_of
atoms_of-one atom = conditions_of-one atom

-- ---- the number of parts

parts_sum : (parts : List Plan) → length (map parts_of parts) + sum (map parts_of parts) ≡ parts_in parts
unfolding parts_in
parts_sum [] = refl
parts_sum (part ∷ parts) = omega (arith, parts_sum parts, sum_by-cons (λ n. n) (parts_of part) (map parts_of parts))

pub parts_of-or : (parts : List Plan) → parts_of (plan.Or parts) ≡ parts_in parts
unfolding parts_of
parts_of-or parts = ap (fold-Plan ℕ parts_by_parts) (sym (rolls-Or parts)) ∙ (fold-roll-Plan ℕ parts_by_parts (Plan-F.Or parts) ∙ parts_sum parts)

pub parts_of-xor : (parts : List Plan) → parts_of (plan.Xor parts) ≡ parts_in parts
unfolding parts_of
parts_of-xor parts = ap (fold-Plan ℕ parts_by_parts) (sym (rolls-Xor parts)) ∙ (fold-roll-Plan ℕ parts_by_parts (Plan-F.Xor parts) ∙ parts_sum parts)

pub parts_of-and : (parts : List Plan) → parts_of (plan.And parts) ≡ parts_in parts
unfolding parts_of
parts_of-and parts = ap (fold-Plan ℕ parts_by_parts) (sym (rolls-And parts)) ∙ (fold-roll-Plan ℕ parts_by_parts (Plan-F.And parts) ∙ parts_sum parts)

pub parts_of-not : (part : Plan) → parts_of (plan.Not part) ≡ 1 + parts_of part
unfolding parts_of
parts_of-not part = ap (fold-Plan ℕ parts_by_parts) (sym (rolls-Not part)) ∙ fold-roll-Plan ℕ parts_by_parts (Plan-F.Not part)

-- ---- what the tables keep is kept by plans

-- a relation between an answer and a truth
pub record IsKept (R : Three → Bool → Type 0) : Type 0 where
  pub on_yes : R Yes true
  pub on_no : R No false
  pub on_not : (x : Three) (t : Bool) → R x t → R (three_not x) (not t)
  pub on_or : (x y : Three) (t u : Bool) → R x t → R y u → R (three_or x y) (t || u)
  pub on_xor : (x y : Three) (t u : Bool) → R x t → R y u → R (three_xor x y) (xor t u)
  pub on_and : (x y : Three) (t u : Bool) → R x t → R y u → R (three_and x y) (t && u)

or_kept : {X : Type 0} (R : Three → Bool → Type 0) → IsKept R → (f : X → Three) (g : X → Bool) (xs : List X) → AllByRecursion (λ x. R (f x) (g x)) xs → R (joined join.Or (map f xs)) (list_any g xs)
unfolding joined
or_kept R kept f g [] h = kept.on_no
or_kept R kept f g (x ∷ xs) h = kept.on_or (f x) (joined join.Or (map f xs)) (g x) (list_any g xs) h.0 (or_kept R kept f g xs h.1)

and_kept : {X : Type 0} (R : Three → Bool → Type 0) → IsKept R → (f : X → Three) (g : X → Bool) (xs : List X) → AllByRecursion (λ x. R (f x) (g x)) xs → R (joined join.And (map f xs)) (list_all g xs)
unfolding joined
and_kept R kept f g [] h = kept.on_yes
and_kept R kept f g (x ∷ xs) h = kept.on_and (f x) (joined join.And (map f xs)) (g x) (list_all g xs) h.0 (and_kept R kept f g xs h.1)

odd_cons : (t : Bool) (ts : List Bool) → xor t (odd_many ts) ≡ odd_many (t ∷ ts)
odd_cons true ts = refl
odd_cons false ts = refl

xor_kept : {X : Type 0} (R : Three → Bool → Type 0) → IsKept R → (f : X → Three) (g : X → Bool) (xs : List X) → AllByRecursion (λ x. R (f x) (g x)) xs → R (joined join.Xor (map f xs)) (odd_many (map g xs))
unfolding joined
xor_kept R kept f g [] h = kept.on_no
xor_kept R kept f g (x ∷ xs) h =
    let both = kept.on_xor (f x) (joined join.Xor (map f xs)) (g x) (odd_many (map g xs)) h.0 (xor_kept R kept f g xs h.1) in
    subst (R (three_xor (f x) (joined join.Xor (map f xs)))) (odd_cons (g x) (map g xs)) both

split_all : {X : Type 0} (Q : X → Type 0) (xs ys : List X) → AllByRecursion Q (xs ++ ys) → AllByRecursion Q xs × AllByRecursion Q ys
split_all Q [] ys h = (tt, h)
split_all Q (x ∷ xs) ys h = let rest = split_all Q xs ys h.1 in ((h.0, rest.0), rest.1)

-- what follows from the conditions of each part follows from all conditions
parts_follow : (Q : PlanAtom → Type 0) (P : Plan → Type 0) (parts : List Plan) → AllByRecursion (λ p. AllByRecursion Q (atoms_of p) → P p) parts → AllByRecursion Q (flat_map atoms_of parts) → AllByRecursion P parts
parts_follow Q P [] h all = tt
parts_follow Q P (part ∷ parts) h all =
    let both = split_all Q (atoms_of part) (flat_map atoms_of parts) all in
    (h.0 both.0, parts_follow Q P parts h.1 both.1)

kept_by_recursion : (R : Three → Bool → Type 0) → IsKept R → (answer : PlanAtom → Three) (truth : PlanAtom → Bool) (p : Plan) → AllByRecursion (λ atom. R (answer atom) (truth atom)) (atoms_of p) → R (three answer p) (is_true truth p)
kept_by_recursion R kept answer truth = plan_induction P (record {
  on_all = λ all. rw (three-all answer, is_true-all truth) kept.on_yes;
  on_or = λ parts h all. rw (three-or answer parts, is_true-or truth parts) (or_kept R kept (three answer) (is_true truth) parts (parts_follow Q S parts h (subst (AllByRecursion Q) (atoms_of-or parts) all)));
  on_xor = λ parts h all. rw (three-xor answer parts, is_true-xor truth parts) (xor_kept R kept (three answer) (is_true truth) parts (parts_follow Q S parts h (subst (AllByRecursion Q) (atoms_of-xor parts) all)));
  on_and = λ parts h all. rw (three-and answer parts, is_true-and truth parts) (and_kept R kept (three answer) (is_true truth) parts (parts_follow Q S parts h (subst (AllByRecursion Q) (atoms_of-and parts) all)));
  on_not = λ part h all. rw (three-not answer part, is_true-not truth part) (kept.on_not (three answer part) (is_true truth part) (h (subst (AllByRecursion Q) (atoms_of-not part) all)));
  on_one = λ atom all. rw (three-one answer atom, is_true-one truth atom) (subst (AllByRecursion Q) (atoms_of-one atom) all).0;
})
  where
    Q : PlanAtom → Type 0
    Q atom = R (answer atom) (truth atom)

    S : Plan → Type 0
    S p = R (three answer p) (is_true truth p)

    P : Plan → Type 0
    P p = AllByRecursion Q (atoms_of p) → S p

pub kept_by_plans : (R : Three → Bool → Type 0) → IsKept R → (answer : PlanAtom → Three) (truth : PlanAtom → Bool) (p : Plan) → All (λ atom. R (answer atom) (truth atom)) (atoms_of p) → R (three answer p) (is_true truth p)
kept_by_plans R kept answer truth p all = kept_by_recursion R kept answer truth p (recursion_from_All (λ atom. R (answer atom) (truth atom)) (atoms_of p) all)

-- ---- the truth on a record

map_same : {X : Type 0} (f g : X → Bool) (xs : List X) → AllByRecursion (λ x. f x ≡ g x) xs → map f xs ≡ map g xs
map_same f g [] h = refl
map_same f g (x ∷ xs) h = rw (h.0, map_same f g xs h.1) refl

record_truth_by : (cells : List Cell) (p : Plan) → is_true (λ atom. plan_atom_holds atom cells) p ≡ plan_holds p cells
record_truth_by cells = plan_induction P (record {
  on_all = is_true-all truth ∙ sym (plan_holds-all cells);
  on_or = λ parts h. is_true-or truth parts ∙ sym (any_mapped f parts) ∙ ap (list_any (λ b. b)) (map_same f g parts h) ∙ sym (plan_holds-or cells parts);
  on_xor = λ parts h. is_true-xor truth parts ∙ ap odd_many (map_same f g parts h) ∙ sym (plan_holds-xor cells parts);
  on_and = λ parts h. is_true-and truth parts ∙ sym (all_mapped f parts) ∙ ap (list_all (λ b. b)) (map_same f g parts h) ∙ sym (plan_holds-and cells parts);
  on_not = λ part h. is_true-not truth part ∙ ap not h ∙ sym (plan_holds-not cells part);
  on_one = λ atom. is_true-one truth atom ∙ sym (plan_holds-one cells atom);
})
  where
    truth : PlanAtom → Bool
    truth atom = plan_atom_holds atom cells

    f : Plan → Bool
    f p = is_true truth p

    g : Plan → Bool
    g p = plan_holds p cells

    P : Plan → Type 0
    P p = is_true truth p ≡ plan_holds p cells

pub record_truth : (p : Plan) (cells : List Cell) → is_true (λ atom. plan_atom_holds atom cells) p ≡ plan_holds p cells
record_truth p cells = record_truth_by cells p
