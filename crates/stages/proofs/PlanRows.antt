-- From the conditions' answers on the rows on which a plan is Unknown to the rows on which it is true.
use Rattle.std.proofs.Common.{◌≡◌, ℕ, zero, suc, ◌+◌, ◌<◌, ◌||◌, ◌&&◌, Bool, true, false, cond, IsTrue, List, [], ◌∷◌, Option, length, map, get_or, refl, sym, ap, subst, ◌∙◌, arith, append-nil}
use Rattle.std.specs.List.{AllByRecursion, count_by, filter, flat_map, list_any, range_with_len, sum_by}
use Rattle.std.proofs.lemmas.List.Elements.{All-from_recursion}
use Rattle.std.proofs.lemmas.List.FromFn.{get_or-map-range_with_len, length-map-range_with_len}
use Rattle.std.proofs.lemmas.List.Sums.{sum_by-cons}
use Rattle.binning.specs.declared.against_bins.Three.{Three}
use Rattle.binning.specs.declared.against_bins.Three.TheVariants.{Yes, No, Unknown}
use Rattle.fb_outside.specs.Reads.{Look}
use Rattle.where_plan.specs.declared.plan.PlanAtom.{PlanAtom}
use Rattle.where_plan.specs.declared.plan.Plan.{Plan}
use Rattle.wah_iter.specs.Rows.{rows_of}
use Rattle.wah_logic.specs.Logic.{and, each_place, ones, or}
use Rattle.three_valued.specs.Candidates.{candidates, checked, is_candidate}
use Rattle.three_valued.specs.Deciding.{Decides}
use Rattle.three_valued.specs.Plans.{AreSound, IsSound, atoms_of, is_true, three}
use Rattle.three_valued.specs.Rows.{columns, each_row}
use Rattle.three_valued.specs.Tables.{decided, is_unknown, is_yes}
use Rattle.three_valued.proofs.SoundLemmas.{known_truth, sound_plans}
use Rattle.stages.specs.Answer.{bitmaps_in, is_allowed_in, is_allowed_on, is_free_in, met_of, true_of}
use Rattle.stages.specs.Looks.{AddsLooks}
use Rattle.stages.specs.Meaning.{IsMeaningOf, Meaning}
use Rattle.stages.specs.Second.{candidates_of, exact_of, settled_of}
use Rattle.stages.proofs.FirstLemmas.{is_free_of}
use Rattle.stages.proofs.ListLemmas.{any_weaker, first_holds}
use Rattle.stages.proofs.LookLemmas.{adds_front, adds_joined, adds_none, adds_weaker}
use Rattle.stages.proofs.RowLemmas.{count_by-filter, count_by-map, each_place-map, map-map, map_same, rows_from-map}
use Rattle.stages.proofs.SecondLemmas.{is_allowed_of}

-- the answer of the plan on a row
abbrev pub whole_at : Meaning → Plan → ℕ → Three
whole_at m plan row = three (m.answer row) plan

-- the rows on which it is Unknown
abbrev pub unknown_of : Meaning → Plan → List Bool
unknown_of m plan = each_row m.rows (λ row. is_unknown (whole_at m plan row))

pub unknown_rows : (m : Meaning) (plan : Plan) (whole : List Three) (unknown : List Bool) → whole ≡ each_row m.rows (whole_at m plan) → unknown ≡ map is_unknown whole → unknown ≡ unknown_of m plan
unknown_rows m plan whole unknown h k = k ∙ ap (map is_unknown) h ∙ map-map is_unknown (whole_at m plan) (range_with_len 0 m.rows)

-- ---- candidates

both : (x y : Bool) → and x y ≡ (x && y)
both true y = refl
both false y = refl

pub candidate_rows : (m : Meaning) (plan : Plan) (atom : PlanAtom) → candidates_of m (unknown_of m plan) atom ≡ each_row m.rows (λ row. is_candidate (m.answer row) plan atom)
candidate_rows m plan atom =
    let rows = range_with_len 0 m.rows in
    ap (λ l. each_place and l (unknown_of m plan)) (map-map is_unknown (λ row. m.answer row atom) rows)
    ∙ each_place-map and (λ row. is_unknown (m.answer row atom)) (λ row. is_unknown (whole_at m plan row)) rows
    ∙ map_same (λ row. and (is_unknown (m.answer row atom)) (is_unknown (whole_at m plan row))) (λ row. is_candidate (m.answer row) plan atom) rows (λ row. both (is_unknown (m.answer row atom)) (is_unknown (whole_at m plan row)))

pub candidate_list : (m : Meaning) (plan : Plan) (atom : PlanAtom) → rows_of (candidates_of m (unknown_of m plan) atom) ≡ candidates m.rows m.answer plan atom
candidate_list m plan atom = ap rows_of (candidate_rows m plan atom) ∙ rows_from-map (λ row. is_candidate (m.answer row) plan atom) 0 m.rows

candidate_count : (m : Meaning) (plan : Plan) (atom : PlanAtom) → ones (candidates_of m (unknown_of m plan) atom) ≡ length (candidates m.rows m.answer plan atom)
candidate_count m plan atom = ap ones (candidate_rows m plan atom) ∙ count_by-filter (λ row. is_candidate (m.answer row) plan atom) (range_with_len 0 m.rows)

sum_same : {X : Type 0} (f g : X → ℕ) → ((x : X) → f x ≡ g x) → (xs : List X) → sum_by f xs ≡ sum_by g xs
sum_same f g same [] = refl
sum_same f g same (x ∷ xs) =
    let here = same x in
    let rest = sum_same f g same xs in
    sum_by-cons f x xs ∙ ap (λ n. n + sum_by f xs) here ∙ ap (λ n. g x + n) rest ∙ sym (sum_by-cons g x xs)

pub all_checked : (m : Meaning) (plan : Plan) → sum_by (λ atom. ones (candidates_of m (unknown_of m plan) atom)) (atoms_of plan) ≡ checked m.rows m.answer plan
all_checked m plan = sum_same (λ atom. ones (candidates_of m (unknown_of m plan) atom)) (λ atom. length (candidates m.rows m.answer plan atom)) (candidate_count m plan) (atoms_of plan)

any_same : {X : Type 0} (p q : X → Bool) → ((x : X) → p x ≡ q x) → (xs : List X) → list_any p xs ≡ list_any q xs
any_same p q same [] = refl
any_same p q same (x ∷ xs) = ap (λ b. b || list_any p xs) (same x) ∙ ap (λ b. q x || b) (any_same p q same xs)

pub allowed_same : (m : Meaning) (plan : Plan) (look : Look) → is_allowed_of m (unknown_of m plan) (atoms_of plan) look ≡ is_allowed_in m plan look
allowed_same m plan look =
    any_same (λ atom. is_allowed_on m atom (rows_of (candidates_of m (unknown_of m plan) atom)) look) (λ atom. is_allowed_on m atom (candidates m.rows m.answer plan atom) look)
    (λ atom. ap (λ rows. is_allowed_on m atom rows look) (candidate_list m plan atom)) (atoms_of plan)

-- ---- exact answers

-- a condition where it is exact: on the rows on which the plan is Unknown
abbrev pub exact_at : Meaning → Plan → ℕ → PlanAtom → Bool
exact_at m plan row atom =
    let u = is_unknown (whole_at m plan row) in
    or (and (is_yes (m.answer row atom)) u) (and (and (is_unknown (m.answer row atom)) u) (m.truth row atom))

abbrev pub exact_answer : Meaning → Plan → ℕ → PlanAtom → Three
exact_answer m plan row atom = decided (exact_at m plan row atom)

exact_rows : (m : Meaning) (plan : Plan) (atom : PlanAtom) → exact_of m (unknown_of m plan) atom ≡ each_row m.rows (λ row. exact_answer m plan row atom)
exact_rows m plan atom =
    let rows = range_with_len 0 m.rows in
    let u = λ (row : ℕ). is_unknown (whole_at m plan row) in
    let yes = λ (row : ℕ). is_yes (m.answer row atom) in
    let candidate = λ (row : ℕ). and (is_unknown (m.answer row atom)) (u row) in
    let truth = λ (row : ℕ). m.truth row atom in
    let first : each_place and (map is_yes (settled_of m atom)) (unknown_of m plan) ≡ map (λ row. and (yes row) (u row)) rows =
    ap (λ l. each_place and l (unknown_of m plan)) (map-map is_yes (λ row. m.answer row atom) rows) ∙ each_place-map and yes u rows in
    let second : candidates_of m (unknown_of m plan) atom ≡ map candidate rows =
    ap (λ l. each_place and l (unknown_of m plan)) (map-map is_unknown (λ row. m.answer row atom) rows) ∙ each_place-map and (λ row. is_unknown (m.answer row atom)) u rows in
    let third : each_place and (candidates_of m (unknown_of m plan) atom) (met_of m atom) ≡ map (λ row. and (candidate row) (truth row)) rows =
    ap (λ l. each_place and l (met_of m atom)) second ∙ each_place-map and candidate truth rows in
    ap (map decided) (ap (λ l. each_place or l (each_place and (candidates_of m (unknown_of m plan) atom) (met_of m atom))) first
    ∙ ap (λ l. each_place or (map (λ row. and (yes row) (u row)) rows) l) third
    ∙ each_place-map or (λ row. and (yes row) (u row)) (λ row. and (candidate row) (truth row)) rows)
    ∙ map-map decided (λ row. exact_at m plan row atom) rows

pub exact_columns : (m : Meaning) (plan : Plan) → map (exact_of m (unknown_of m plan)) (atoms_of plan) ≡ columns m.rows (exact_answer m plan) (atoms_of plan)
exact_columns m plan = map_same (exact_of m (unknown_of m plan)) (λ atom. each_row m.rows (λ row. exact_answer m plan row atom)) (atoms_of plan) (exact_rows m plan)

-- ---- they decide the plan

settled_here : (a : Three) (t u : Bool) → IsSound a t → u ≡ true → decided (or (and (is_yes a) u) (and (and (is_unknown a) u) t)) ≡ decided t
settled_here Yes t u h k = ap (λ v. decided (or v (and false t))) k ∙ ap decided (sym h)
settled_here No t u h k = ap decided (sym h)
settled_here Unknown t u h k = ap (λ v. decided (and v t)) k

each_such : {X : Type 0} (P Q : X → Type 0) (xs : List X) → ((x : X) → P x → Q x) → AllByRecursion P xs → AllByRecursion Q xs
each_such P Q [] f h = tt
each_such P Q (x ∷ xs) f h = (f x h.0, each_such P Q xs f h.1)

pub sound_at : (rows : ℕ) (fits : PlanAtom → Type 0) (m : Meaning) (plan : Plan) → IsMeaningOf rows fits m → AllByRecursion fits (atoms_of plan) → (row : ℕ) → row < m.rows → AreSound (m.answer row) (m.truth row) (atoms_of plan)
sound_at rows fits m plan is fit row below =
    All-from_recursion (λ atom. IsSound (m.answer row atom) (m.truth row atom)) (atoms_of plan)
    (each_such fits (λ atom. IsSound (m.answer row atom) (m.truth row atom)) (atoms_of plan) (λ atom f. is.sound row atom below f) fit)

whole_sound : (rows : ℕ) (fits : PlanAtom → Type 0) (m : Meaning) (plan : Plan) → IsMeaningOf rows fits m → AllByRecursion fits (atoms_of plan) → (row : ℕ) → row < m.rows → IsSound (whole_at m plan row) (is_true (m.truth row) plan)
whole_sound rows fits m plan is fit row below = sound_plans (m.answer row) (m.truth row) plan (sound_at rows fits m plan is fit row below)

unknown_is : (x : Three) → x ≡ Unknown → is_unknown x ≡ true
unknown_is x h = ap is_unknown h

pub exact_decides : (rows : ℕ) (fits : PlanAtom → Type 0) (m : Meaning) (plan : Plan) (whole : List Three) → IsMeaningOf rows fits m → AllByRecursion fits (atoms_of plan) → whole ≡ each_row m.rows (whole_at m plan) → Decides plan whole (exact_answer m plan) m.truth
exact_decides rows fits m plan whole is fit same =
    let long : length whole ≡ m.rows = ap length same ∙ length-map-range_with_len (whole_at m plan) 0 m.rows in
    let at = λ (row : ℕ) (below : row < length whole). let below' : row < m.rows = omega (arith, below, long) in ap (λ l. get_or l row No) same ∙ get_or-map-range_with_len (whole_at m plan) 0 m.rows row row No below' (omega arith) in
    record {
      sound = λ row below. subst (λ x. IsSound x (is_true (m.truth row) plan)) (sym (at row below)) (whole_sound rows fits m plan is fit row (omega (arith, below, long)));
      exact = λ row below unknown.
          let u = unknown_is (whole_at m plan row) (sym (at row below) ∙ unknown) in
          All-from_recursion (λ atom. exact_answer m plan row atom ≡ decided (m.truth row atom)) (atoms_of plan)
          (each_such fits (λ atom. exact_answer m plan row atom ≡ decided (m.truth row atom)) (atoms_of plan)
          (λ atom f. settled_here (m.answer row atom) (m.truth row atom) (is_unknown (whole_at m plan row)) (is.sound row atom (omega (arith, below, long)) f) u) fit);
    }

-- ---- where no row is Unknown

range_all : (P : ℕ → Type 0) (a n : ℕ) → ((row : ℕ) → row < a + n → P row) → AllByRecursion P (range_with_len a n)
range_all P a zero h = tt
range_all P a (suc n) h = (h a (omega arith), range_all P (a + 1) n (λ row below. h row (omega (arith, below))))

none_here : (x : Three) (n : ℕ) → cond (is_unknown x) 1 0 + n ≡ 0 → (is_unknown x ≡ false) × (n ≡ 0)
none_here Yes n h = (refl, omega arith)
none_here No n h = (refl, omega arith)
none_here Unknown n h = absurd (omega arith)

none_unknown : (w : ℕ → Three) (rows : List ℕ) → count_by (λ row. is_unknown (w row)) rows ≡ 0 → AllByRecursion (λ row. is_unknown (w row) ≡ false) rows
none_unknown w [] h = tt
none_unknown w (row ∷ rows) h =
    let both = none_here (w row) (count_by (λ r. is_unknown (w r)) rows) (sym (sum_by-cons (λ r. cond (is_unknown (w r)) 1 0) row rows) ∙ h) in
    (both.0, none_unknown w rows both.1)

yes_truth : (x : Three) (t : Bool) → x ≡ decided t → is_yes x ≡ t
yes_truth x t h = ap is_yes h ∙ at t
  where
    at : (t : Bool) → is_yes (decided t) ≡ t
    at true = refl
    at false = refl

known_rows : (w : ℕ → Three) (t : ℕ → Bool) (rows : List ℕ) → AllByRecursion (λ row. IsSound (w row) (t row)) rows → AllByRecursion (λ row. is_unknown (w row) ≡ false) rows → map is_yes (map w rows) ≡ map t rows
known_rows w t [] h k = refl
known_rows w t (row ∷ rows) h k = let here : is_yes (w row) ≡ t row = yes_truth (w row) (t row) (known_truth (w row) (t row) h.0 k.0) in rw (here, known_rows w t rows h.1 k.1) refl

pub none_left : (m : Meaning) (plan : Plan) (whole : List Three) → whole ≡ each_row m.rows (whole_at m plan) → ones (map is_unknown whole) ≡ 0 → AllByRecursion (λ row. is_unknown (whole_at m plan row) ≡ false) (range_with_len 0 m.rows)
none_left m plan whole same none =
    none_unknown (whole_at m plan) (range_with_len 0 m.rows)
    (sym (count_by-map (λ row. is_unknown (whole_at m plan row)) (range_with_len 0 m.rows)) ∙ ap ones (sym (map-map is_unknown (whole_at m plan) (range_with_len 0 m.rows)) ∙ ap (map is_unknown) (sym same)) ∙ none)

pub definite_is_true : (rows : ℕ) (fits : PlanAtom → Type 0) (m : Meaning) (plan : Plan) (whole : List Three) → IsMeaningOf rows fits m → AllByRecursion fits (atoms_of plan) → whole ≡ each_row m.rows (whole_at m plan) → ones (map is_unknown whole) ≡ 0 → map is_yes whole ≡ true_of m plan
definite_is_true rows fits m plan whole is fit same none =
    ap (map is_yes) same
    ∙ known_rows (whole_at m plan) (λ row. is_true (m.truth row) plan) (range_with_len 0 m.rows)
    (range_all (λ row. IsSound (whole_at m plan row) (is_true (m.truth row) plan)) 0 m.rows (λ row below. whole_sound rows fits m plan is fit row (omega (arith, below))))
    (none_left m plan whole same none)

no_candidate : (a w : Bool) → w ≡ false → (a && w) ≡ false
no_candidate true w h = h
no_candidate false w h = refl

none_filtered : (p : ℕ → Bool) (rows : List ℕ) → AllByRecursion (λ row. p row ≡ false) rows → length (filter p rows) ≡ 0
none_filtered p [] h = refl
none_filtered p (row ∷ rows) h = ap (λ b. length (cond b (row ∷ filter p rows) (filter p rows))) h.0 ∙ none_filtered p rows h.1

sum_none : {X : Type 0} (f : X → ℕ) (xs : List X) → ((x : X) → f x ≡ 0) → sum_by f xs ≡ 0
sum_none f [] h = refl
sum_none f (x ∷ xs) h = let here = h x in let rest = sum_none f xs h in let one = sum_by-cons f x xs in omega (arith, here, rest, one)

pub none_checked : (m : Meaning) (plan : Plan) (whole : List Three) → whole ≡ each_row m.rows (whole_at m plan) → ones (map is_unknown whole) ≡ 0 → 0 ≡ checked m.rows m.answer plan
none_checked m plan whole same none =
    let known = none_left m plan whole same none in
    sym (sum_none (λ atom. length (candidates m.rows m.answer plan atom)) (atoms_of plan) (λ atom.
    none_filtered (λ row. is_candidate (m.answer row) plan atom) (range_with_len 0 m.rows)
    (each_such (λ row. is_unknown (whole_at m plan row) ≡ false) (λ row. is_candidate (m.answer row) plan atom ≡ false) (range_with_len 0 m.rows) (λ row w. no_candidate (is_unknown (m.answer row atom)) (is_unknown (whole_at m plan row)) w) known)))

-- ---- counts

pub counted : (f : Three → Bool) (w : ℕ → Three) (rows : ℕ) (v : List Three) → v ≡ each_row rows w → count_by (λ b. b) (map f v) ≡ count_by (λ row. f (w row)) (range_with_len 0 rows)
counted f w rows v same =
    ap (λ l. count_by (λ b. b) (map f l)) same ∙ ap (count_by (λ b. b)) (map-map f w (range_with_len 0 rows)) ∙ count_by-map (λ row. f (w row)) (range_with_len 0 rows)

-- ---- what the second stage made

same_length : (m : Meaning) (plan : Plan) (whole : List Three) → whole ≡ each_row m.rows (whole_at m plan) → length whole ≡ m.rows
same_length m plan whole same = ap length same ∙ length-map-range_with_len (whole_at m plan) 0 m.rows

pub told_exact : (m : Meaning) (plan : Plan) (atoms : List PlanAtom) (whole : List Three) (unknown : List Bool) (answers : List (List Three)) → atoms ≡ atoms_of plan → whole ≡ each_row m.rows (whole_at m plan) → unknown ≡ map is_unknown whole → answers ≡ map (exact_of m unknown) atoms → answers ≡ columns (length whole) (exact_answer m plan) (atoms_of plan)
told_exact m plan atoms whole unknown answers all same open_ made =
    made ∙ ap (λ u. map (exact_of m u) atoms) (unknown_rows m plan whole unknown same open_) ∙ ap (map (exact_of m (unknown_of m plan))) all
    ∙ exact_columns m plan ∙ ap (λ n. columns n (exact_answer m plan) (atoms_of plan)) (sym (same_length m plan whole same))

pub told_rows : (m : Meaning) (plan : Plan) (whole : List Three) (v : List Bool) → whole ≡ each_row m.rows (whole_at m plan) → v ≡ each_row (length whole) (λ row. is_true (m.truth row) plan) → v ≡ true_of m plan
told_rows m plan whole v same is = is ∙ ap (λ n. each_row n (λ row. is_true (m.truth row) plan)) (same_length m plan whole same)

pub told_checked : (m : Meaning) (plan : Plan) (atoms : List PlanAtom) (whole : List Three) (unknown : List Bool) (number : ℕ) → atoms ≡ atoms_of plan → whole ≡ each_row m.rows (whole_at m plan) → unknown ≡ map is_unknown whole → number ≡ sum_by (λ atom. ones (candidates_of m unknown atom)) atoms → number ≡ checked m.rows m.answer plan
told_checked m plan atoms whole unknown number all same open_ is =
    is ∙ ap (λ u. sum_by (λ atom. ones (candidates_of m u atom)) atoms) (unknown_rows m plan whole unknown same open_)
    ∙ ap (sum_by (λ atom. ones (candidates_of m (unknown_of m plan) atom))) all ∙ all_checked m plan

pub told_reads : (m : Meaning) (plan : Plan) (atoms : List PlanAtom) (whole : List Three) (unknown : List Bool) (old new : Option (List Look)) (done : Type 0) → atoms ≡ atoms_of plan → whole ≡ each_row m.rows (whole_at m plan) → unknown ≡ map is_unknown whole → AddsLooks old new (is_allowed_of m unknown atoms) m.is_bitmap [] done → AddsLooks old new (is_allowed_in m plan) m.is_bitmap [] done
told_reads m plan atoms whole unknown old new done all same open_ reads =
    adds_weaker old new (is_allowed_of m unknown atoms) (is_allowed_in m plan) m.is_bitmap [] done
    (λ look allowed. subst IsTrue (ap (λ u. is_allowed_of m u atoms look) (unknown_rows m plan whole unknown same open_) ∙ ap (λ l. is_allowed_of m (unknown_of m plan) l look) all ∙ allowed_same m plan look) allowed) reads

-- ---- from the first stage on

pub told_columns : (m : Meaning) (plan : Plan) (atoms : List PlanAtom) (rows : ℕ) (answers : List (List Three)) → atoms ≡ atoms_of plan → m.rows ≡ rows → answers ≡ columns m.rows m.answer atoms → answers ≡ columns rows m.answer (atoms_of plan)
told_columns m plan atoms rows answers all long is = is ∙ ap (columns m.rows m.answer) all ∙ ap (λ n. columns n m.answer (atoms_of plan)) long

pub told_whole : (m : Meaning) (plan : Plan) (rows : ℕ) (whole : List Three) → m.rows ≡ rows → whole ≡ each_row rows (whole_at m plan) → whole ≡ each_row m.rows (whole_at m plan)
told_whole m plan rows whole long is = is ∙ ap (λ n. each_row n (whole_at m plan)) (sym long)

-- what the first stage read
pub settled_reads : (m : Meaning) (plan : Plan) (atoms : List PlanAtom) (old new : Option (List Look)) (done : Type 0) → atoms ≡ atoms_of plan → AddsLooks old new (is_free_of m atoms) m.is_bitmap (flat_map m.fetched atoms) done → AddsLooks old new (is_free_in m plan) m.is_bitmap (bitmaps_in m plan) done
settled_reads m plan atoms old new done all reads = subst (λ l. AddsLooks old new (is_free_of m l) m.is_bitmap (flat_map m.fetched l) done) all reads

free_allowed : (m : Meaning) (plan : Plan) (look : Look) → IsTrue (is_free_in m plan look) → IsTrue (is_allowed_in m plan look)
free_allowed m plan look free =
    any_weaker (λ atom. m.is_free atom look) (λ atom. is_allowed_on m atom (candidates m.rows m.answer plan atom) look)
    (λ atom is. first_holds (m.is_free atom look) (m.covers atom (candidates m.rows m.answer plan atom) look) is) (atoms_of plan) free

pub allowed_reads : (m : Meaning) (plan : Plan) (atoms : List PlanAtom) (old new : Option (List Look)) (done : Type 0) → atoms ≡ atoms_of plan → AddsLooks old new (is_free_of m atoms) m.is_bitmap (flat_map m.fetched atoms) done → AddsLooks old new (is_allowed_in m plan) m.is_bitmap (bitmaps_in m plan) done
allowed_reads m plan atoms old new done all reads =
    adds_weaker old new (is_free_in m plan) (is_allowed_in m plan) m.is_bitmap (bitmaps_in m plan) done (free_allowed m plan) (settled_reads m plan atoms old new done all reads)

-- and what both stages read
pub evaluated_reads : (m : Meaning) (plan : Plan) (atoms : List PlanAtom) (old mid new : Option (List Look)) (done more : Type 0) → atoms ≡ atoms_of plan → done → AddsLooks old mid (is_free_of m atoms) m.is_bitmap (flat_map m.fetched atoms) done → AddsLooks mid new (is_allowed_in m plan) m.is_bitmap [] more → AddsLooks old new (is_allowed_in m plan) m.is_bitmap (bitmaps_in m plan) more
evaluated_reads m plan atoms old mid new done more all is first second =
    subst (λ l. AddsLooks old new (is_allowed_in m plan) m.is_bitmap l more) (append-nil (bitmaps_in m plan))
    (adds_joined old mid new (is_allowed_in m plan) m.is_bitmap (bitmaps_in m plan) [] done more is (allowed_reads m plan atoms old mid done all first) second)

-- a call that was refused before it read
pub none_read : (m : Meaning) (allowed : Look → Bool) (bitmaps : List Look) (old : Option (List Look)) (more : Type 0) → (more → ⊥) → AddsLooks old old allowed m.is_bitmap bitmaps more
none_read m allowed bitmaps old more not_done = adds_front old old allowed m.is_bitmap [] bitmaps (Unit {0}) more not_done (adds_none old old allowed m.is_bitmap (Unit {0}) refl)
