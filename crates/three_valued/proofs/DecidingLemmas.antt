-- The rows of a plan, from its answers and from those on the rows on which it is Unknown.
use Rattle.std.proofs.Common.{◌≡◌, ℕ, zero, suc, ◌+◌, ◌*◌, ◌<◌, ◌≤◌, Bool, true, false, List, [], ◌∷◌, ◌++◌, length, map, get_or, drop, refl, sym, ap, ◌∙◌, subst, arith, append-nil}
use Rattle.std.specs.List.{range_with_len}
use Rattle.std.proofs.lemmas.List.{get_or-map, length-map}
use Rattle.std.proofs.lemmas.List.FromFn.{fill_by_all, get_or-map-range_with_len, length-map-range_with_len}
use Rattle.binning.specs.declared.against_bins.Three.{Three}
use Rattle.binning.specs.declared.against_bins.Three.TheVariants.{Yes, No, Unknown}
use Rattle.where_plan.specs.declared.plan.PlanAtom.{PlanAtom}
use Rattle.where_plan.specs.declared.plan.Plan.{Plan}
use Rattle.wah_logic.specs.Logic.{and, each_place, or}
use Rattle.wah_logic.proofs.JoinLemmas.{length-each}
use Rattle.three_valued.specs.Tables.{decided, is_unknown, is_yes}
use Rattle.three_valued.specs.Plans.{IsSound, atoms_of, is_true, three}
use Rattle.three_valued.specs.Rows.{columns, each_row}
use Rattle.three_valued.specs.Deciding.{Decides}
use Rattle.three_valued.proofs.SoundLemmas.{decided_plans}

get_or-each : (op : Bool → Bool → Bool) (x y : List Bool) (k : ℕ) → length x ≡ length y → k < length x → get_or (each_place op x y) k false ≡ op (get_or x k false) (get_or y k false)
unfolding each_place
get_or-each op [] y k h below = absurd (omega arith)
get_or-each op (a ∷ x) [] k h below = absurd (omega arith)
get_or-each op (a ∷ x) (b ∷ y) zero h below = refl
get_or-each op (a ∷ x) (b ∷ y) (suc k) h below = get_or-each op x y k (omega arith) (omega arith)

none_more : (b : Bool) → and b false ≡ false
none_more true = refl
none_more false = refl

as_before : (t : Bool) → and (is_yes (decided t)) true ≡ t
as_before true = refl
as_before false = refl

-- on one row
one_row : (w r : Three) (t : Bool) → IsSound w t → (w ≡ Unknown → r ≡ decided t) → or (is_yes w) (and (is_yes r) (is_unknown w)) ≡ t
one_row Yes r t sound exact = sym sound
one_row No r t sound exact = none_more (is_yes r) ∙ sym sound
one_row Unknown r t sound exact = ap (λ x. and (is_yes x) true) (exact refl) ∙ as_before t

-- on each row
pub all_rows : (whole again : List Three) (unknown : List Bool) (truth : ℕ → Bool) → length again ≡ length whole → unknown ≡ map is_unknown whole → ((row : ℕ) → row < length whole → IsSound (get_or whole row No) (truth row)) → ((row : ℕ) → row < length whole → get_or whole row No ≡ Unknown → get_or again row No ≡ decided (truth row)) → each_place or (map is_yes whole) (each_place and (map is_yes again) unknown) ≡ each_row (length whole) truth
all_rows whole again unknown truth same is sound exact =
    let n = length whole in
    let open_ = map is_unknown whole in
    let inner = each_place and (map is_yes again) open_ in
    let long_whole : length (map is_yes whole) ≡ n = length-map whole is_yes in
    let long_open : length open_ ≡ n = length-map whole is_unknown in
    let long_again : length (map is_yes again) ≡ n = length-map again is_yes ∙ same in
    let long_inner : length inner ≡ n = length-each and (map is_yes again) open_ (long_again ∙ sym long_open) ∙ long_again in
    let long : length (each_place or (map is_yes whole) inner) ≡ n = length-each or (map is_yes whole) inner (long_whole ∙ sym long_inner) ∙ long_whole in
    ap (λ u. each_place or (map is_yes whole) (each_place and (map is_yes again) u)) is
    ∙ fill_by_all truth (each_place or (map is_yes whole) inner) n false long (λ k below.
    get_or-each or (map is_yes whole) inner k (long_whole ∙ sym long_inner) (omega (arith, below, long_whole))
    ∙ ap (λ x. or x (get_or inner k false)) (get_or-map is_yes whole k No false below)
    ∙ ap (or (is_yes (get_or whole k No))) (
    get_or-each and (map is_yes again) open_ k (long_again ∙ sym long_open) (omega (arith, below, long_again))
    ∙ ap (λ x. and x (get_or open_ k false)) (get_or-map is_yes again k No false (omega (arith, below, same)))
    ∙ ap (and (is_yes (get_or again k No))) (get_or-map is_unknown whole k No false below))
    ∙ one_row (get_or whole k No) (get_or again k No) (truth k) (sound k below) (exact k below))

pub drop_none : {X : Type 0} (xs ys : List X) → xs ≡ ys → drop 0 xs ≡ ys ++ []
drop_none xs ys e = e ∙ sym (append-nil ys)

pub decided_rows : (plan : Plan) (whole again : List Three) (unknown : List Bool) (answer : ℕ → PlanAtom → Three) (truth : ℕ → PlanAtom → Bool) → unknown ≡ map is_unknown whole → again ≡ each_row (length whole) (λ row. three (answer row) plan) → Decides plan whole answer truth → each_place or (map is_yes whole) (each_place and (map is_yes again) unknown) ≡ each_row (length whole) (λ row. is_true (truth row) plan)
decided_rows plan whole again unknown answer truth is same decides =
    all_rows whole again unknown (λ row. is_true (truth row) plan)
    (ap length same ∙ length-map-range_with_len (λ row. three (answer row) plan) 0 (length whole)) is
    decides.sound
    (λ row below open_. ap (λ l. get_or l row No) same ∙ get_or-map-range_with_len (λ row. three (answer row) plan) 0 (length whole) row row No below (omega arith) ∙ decided_plans (answer row) (truth row) plan (decides.exact row below open_))

pub rows_from : (v d e f unknown : List Bool) (whole again : List Three) → v ≡ each_place or d e → d ≡ map is_yes whole → e ≡ each_place and f unknown → f ≡ map is_yes again → v ≡ each_place or (map is_yes whole) (each_place and (map is_yes again) unknown)
rows_from v d e f unknown whole again is h k l = is ∙ rw (h, k, l) refl

pub told_from_start : (n m : ℕ) (answer : ℕ → PlanAtom → Three) (atoms : List PlanAtom) (answers : List (List Three)) → n ≡ m → answers ≡ columns m answer atoms → drop 0 answers ≡ columns n answer atoms ++ []
told_from_start n m answer atoms answers e told = drop_none answers (columns n answer atoms) (told ∙ ap (λ k. columns k answer atoms) (sym e))

pub cost_true : (g s t u v a : ℕ) → t ≤ s + 2 * g * (6 * a) → u ≤ t + 2 * g → v ≤ u + 2 * g → v ≤ s + 2 * g * (6 * a + 2)
cost_true g s t u v a h k l =
    let z : 2 * g * (6 * a + 2) ≡ 2 * g * (6 * a) + 4 * g = grind arith in
    omega (arith, h, k, l, z)
