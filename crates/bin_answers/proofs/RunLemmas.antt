-- The runs of bins with one bin more, and in the bins' own words.
use Rattle.std.proofs.Common.{◌≡◌, ℕ, zero, suc, ◌+◌, ◌<◌, ◌≤◌, ◌&&◌, ◌||◌, Bool, true, false, cond, eqb, List, [], ◌∷◌, ◌++◌, All, length, get_or, set, refl, sym, ap, ◌∙◌, arith, subst}
use Rattle.std.specs.List.{AllByRecursion, list_any}
use denote.Enum.Bare.{sameb}
use Rattle.binning.specs.contracts.against_bins.Three.{the_type}
use Rattle.std.proofs.lemmas.Bool.Decides.{nat_tests}
use Rattle.binning.specs.Members.{in_run}
use Rattle.std.proofs.lemmas.Bool.{eq-eqb, eqb-true, ne_eqb}
use Rattle.binning.specs.declared.against_bins.Three.{Three}
use Rattle.binning.specs.declared.against_bins.Three.TheVariants.{Yes, No, Unknown}
use Rattle.bin_answers.specs.BinRuns.{AreMaximal, AreRunsOf, Follows, before, extended, has_bin, is_same, run, runs_from, runs_of, with_bin}
use Rattle.bin_answers.specs.declared.bin_runs.BinRun.{BinRun}

same_swap : (a b : Three) → is_same a b ≡ is_same b a
same_swap Yes Yes = refl
same_swap Yes No = refl
same_swap Yes Unknown = refl
same_swap No Yes = refl
same_swap No No = refl
same_swap No Unknown = refl
same_swap Unknown Yes = refl
same_swap Unknown No = refl
same_swap Unknown Unknown = refl

same_is : (a b : Three) → is_same a b ≡ true → a ≡ b
same_is Yes Yes h = refl
same_is Yes No h = absurd cc
same_is Yes Unknown h = absurd cc
same_is No Yes h = absurd cc
same_is No No h = refl
same_is No Unknown h = absurd cc
same_is Unknown Yes h = absurd cc
same_is Unknown No h = absurd cc
same_is Unknown Unknown h = refl

and_true : (s t : Bool) → (s && t) ≡ true → (s ≡ true) × (t ≡ true)
and_true true true h = (refl, refl)
and_true true false h = absurd cc
and_true false t h = absurd cc

eqb_by : (m n : ℕ) (t : Bool) → eqb m n ≡ t → t ≡ eqb n m
eqb_by m n true h = sym (eq-eqb n m (sym (eqb-true m n h)))
eqb_by m n false h = sym (ne_eqb n m (λ e. let yes : eqb m n ≡ true = eq-eqb m n (sym e) in absurd cc))

eqb_swap : (m n : ℕ) → eqb m n ≡ eqb n m
eqb_swap m n = eqb_by m n (eqb m n) refl

module _ (x a : Three) (bin last : ℕ) where
  with_none : (s t : Bool) → is_same x a ≡ s → eqb last (bin + 1) ≡ t → before x bin (extended [] last a) ≡ extended (before x bin []) last a
  with_none false t h e = rw (h, same_swap a x ∙ h) refl
  with_none true false h e = rw (h, e, same_swap a x ∙ h, eqb_swap (bin + 1) last ∙ e) refl
  with_none true true h e =
      rw (h, e, same_swap a x ∙ h, eqb_swap (bin + 1) last ∙ e) (ap (λ (b : Three). run b bin (last + 1) ∷ []) (same_is x a h))

  with_one : (p q : Bool) (r : BinRun) → (is_same a r.answer && eqb r.past last) ≡ p → (is_same x r.answer && eqb r.first (bin + 1)) ≡ q
      → before x bin (extended (r ∷ []) last a) ≡ extended (before x bin (r ∷ [])) last a
  with_one false false r h e = rw (h, e, h) refl
  with_one false true r h e =
      let same : x ≡ r.answer = same_is x r.answer (and_true (is_same x r.answer) (eqb r.first (bin + 1)) e).0 in
      rw (h, e) (rw (ap (λ (b : Three). is_same a b && eqb r.past last) same ∙ h) refl)
  with_one true false r h e =
      let same : a ≡ r.answer = same_is a r.answer (and_true (is_same a r.answer) (eqb r.past last) h).0 in
      rw (h, e) (rw (ap (λ (b : Three). is_same x b && eqb r.first (bin + 1)) same ∙ e, h) refl)
  with_one true true r h e =
      let first : a ≡ r.answer = same_is a r.answer (and_true (is_same a r.answer) (eqb r.past last) h).0 in
      let second : x ≡ r.answer = same_is x r.answer (and_true (is_same x r.answer) (eqb r.first (bin + 1)) e).0 in
      rw (h, e) (rw (ap (λ (b : Three). is_same x b && eqb r.first (bin + 1)) first ∙ e, ap (λ (b : Three). is_same a b && eqb r.past last) second ∙ h)
      (ap (λ (b : Three). run b bin (last + 1) ∷ []) (second ∙ sym first)))

  with_two : (q : Bool) (r s : BinRun) (rs : List BinRun) → (is_same x r.answer && eqb r.first (bin + 1)) ≡ q
      → before x bin (extended (r ∷ s ∷ rs) last a) ≡ extended (before x bin (r ∷ s ∷ rs)) last a
  with_two false r s rs e = rw e refl
  with_two true r s rs e = rw e refl

  -- putting before and putting behind commute
  before_extended : (rs : List BinRun) → before x bin (extended rs last a) ≡ extended (before x bin rs) last a
  before_extended [] = with_none (is_same x a) (eqb last (bin + 1)) refl refl
  before_extended (r ∷ []) = with_one (is_same a r.answer && eqb r.past last) (is_same x r.answer && eqb r.first (bin + 1)) r refl refl
  before_extended (r ∷ s ∷ rs) = with_two (is_same x r.answer && eqb r.first (bin + 1)) r s rs refl

before_with : (x a : Three) (bin last : ℕ) (rs : List BinRun) → before x bin (with_bin rs last a) ≡ with_bin (before x bin rs) last a
before_with x Yes bin last rs = before_extended x Yes bin last rs
before_with x No bin last rs = refl
before_with x Unknown bin last rs = before_extended x Unknown bin last rs

pub runs_from-more : (bin : ℕ) (answers : List Three) (a : Three) → runs_from bin (answers ++ a ∷ []) ≡ with_bin (runs_from bin answers) (bin + length answers) a
unfolding runs_from
runs_from-more bin [] Yes = let e : bin ≡ bin + 0 = omega arith in ap (λ n. run Yes n (n + 1) ∷ []) e
runs_from-more bin [] No = refl
runs_from-more bin [] Unknown = let e : bin ≡ bin + 0 = omega arith in ap (λ n. run Unknown n (n + 1) ∷ []) e
runs_from-more bin (Yes ∷ answers) a =
    let e : bin + 1 + length answers ≡ bin + suc (length answers) = omega arith in
    ap (before Yes bin) (runs_from-more (bin + 1) answers a ∙ ap (λ n. with_bin (runs_from (bin + 1) answers) n a) e)
    ∙ before_with Yes a bin (bin + suc (length answers)) (runs_from (bin + 1) answers)
runs_from-more bin (No ∷ answers) a =
    let e : bin + 1 + length answers ≡ bin + suc (length answers) = omega arith in
    runs_from-more (bin + 1) answers a ∙ ap (λ n. with_bin (runs_from (bin + 1) answers) n a) e
runs_from-more bin (Unknown ∷ answers) a =
    let e : bin + 1 + length answers ≡ bin + suc (length answers) = omega arith in
    ap (before Unknown bin) (runs_from-more (bin + 1) answers a ∙ ap (λ n. with_bin (runs_from (bin + 1) answers) n a) e)
    ∙ before_with Unknown a bin (bin + suc (length answers)) (runs_from (bin + 1) answers)

-- the runs of one answer more
pub runs_of-more : (answers : List Three) (a : Three) → runs_of (answers ++ a ∷ []) ≡ with_bin (runs_of answers) (length answers) a
runs_of-more answers a = runs_from-more 0 answers a ∙ (let e : 0 + length answers ≡ length answers = omega arith in ap (λ (n : ℕ). with_bin (runs_of answers) n a) e)

-- ---- the bin at the end of a list

get_or-any : {X : Type 0} (xs : List X) (k : ℕ) (d e : X) → k < length xs → get_or xs k d ≡ get_or xs k e
get_or-any [] k d e h = absurd (omega arith)
get_or-any (x ∷ xs) zero d e h = refl
get_or-any (x ∷ xs) (suc k) d e h = get_or-any xs k d e (omega arith)

-- no run goes on: the bin is a run of its own
pub extended_next : (rs : List BinRun) (n bin : ℕ) (a : Three) (r : BinRun) → n + 1 ≡ length rs → r ≡ get_or rs n r → (is_same a r.answer && eqb r.past bin) ≡ false
    → extended rs bin a ≡ rs ++ run a bin (bin + 1) ∷ []
extended_next [] n bin a r l e h = absurd (omega arith)
extended_next (x ∷ []) zero bin a r l e h = let here : (is_same a x.answer && eqb x.past bin) ≡ false = ap (λ (s : BinRun). is_same a s.answer && eqb s.past bin) (sym e) ∙ h in rw here refl
extended_next (x ∷ []) (suc n) bin a r l e h = absurd (omega arith)
extended_next (x ∷ y ∷ rs) zero bin a r l e h = absurd (omega arith)
extended_next (x ∷ y ∷ rs) (suc n) bin a r l e h = ap (λ l. x ∷ l) (extended_next (y ∷ rs) n bin a r (omega arith) e h)

-- the last run goes on
pub extended_on : (rs : List BinRun) (n bin : ℕ) (a : Three) (r : BinRun) → n + 1 ≡ length rs → r ≡ get_or rs n r → (is_same a r.answer && eqb r.past bin) ≡ true
    → extended rs bin a ≡ set rs n (run a r.first (bin + 1))
extended_on [] n bin a r l e h = absurd (omega arith)
extended_on (x ∷ []) zero bin a r l e h =
    let here : (is_same a x.answer && eqb x.past bin) ≡ true = ap (λ (s : BinRun). is_same a s.answer && eqb s.past bin) (sym e) ∙ h in
    rw here (ap (λ (s : BinRun). run a s.first (bin + 1) ∷ []) (sym e))
extended_on (x ∷ []) (suc n) bin a r l e h = absurd (omega arith)
extended_on (x ∷ y ∷ rs) zero bin a r l e h = absurd (omega arith)
extended_on (x ∷ y ∷ rs) (suc n) bin a r l e h = ap (λ l. x ∷ l) (extended_on (y ∷ rs) n bin a r (omega arith) e h)

-- what `==` says of two answers
pub same_test : (a b : Three) → sameb the_type a b ≡ is_same a b
same_test Yes Yes = refl
same_test Yes No = refl
same_test Yes Unknown = refl
same_test No Yes = refl
same_test No No = refl
same_test No Unknown = refl
same_test Unknown Yes = refl
same_test Unknown No = refl
same_test Unknown Unknown = refl

with_some : (rs : List BinRun) (bin : ℕ) (a : Three) → is_same a No ≡ false → with_bin rs bin a ≡ extended rs bin a
with_some rs bin Yes h = refl
with_some rs bin No h = absurd cc
with_some rs bin Unknown h = refl

goes_on : (a b : Three) (past bin : ℕ) → past ≡ bin → is_same b a ≡ true → (is_same a b && eqb past bin) ≡ true
goes_on a b past bin e h =
    let same : is_same a b ≡ true = same_swap a b ∙ h in
    let there : eqb past bin ≡ true = eq-eqb past bin e in
    ap (λ (t : Bool). t && eqb past bin) same ∙ there

ends_here : (a b : Three) (past bin : ℕ) (t : Bool) → (is_same a b && eqb past bin) ≡ t → (past ≡ bin → is_same b a ≡ false) → t ≡ false
ends_here a b past bin false e h = refl
ends_here a b past bin true e h =
    let both = and_true (is_same a b) (eqb past bin) e in
    let wrong : is_same b a ≡ false = h (eqb-true past bin both.1) in
    let right : is_same b a ≡ true = same_swap b a ∙ both.0 in
    absurd cc

-- the last run goes on with the bin
pub bin_on : (rs : List BinRun) (n bin : ℕ) (a : Three) (r s : BinRun) → n + 1 ≡ length rs → r ≡ get_or rs n r → s ≡ get_or rs n s → is_same a No ≡ false → r.past ≡ bin → is_same r.answer a ≡ true
    → set rs n (run s.answer s.first (bin + 1)) ≡ with_bin rs bin a
bin_on rs n bin a r s l e f some past same =
    let one : get_or rs n r ≡ get_or rs n s = get_or-any rs n r s (omega arith) in
    let item : s ≡ r = f ∙ sym one ∙ sym e in
    ap (λ (x : BinRun). set rs n (run x.answer x.first (bin + 1))) item
    ∙ ap (λ (b : Three). set rs n (run b r.first (bin + 1))) (same_is r.answer a same)
    ∙ sym (extended_on rs n bin a r l e (goes_on a r.answer r.past bin past same))
    ∙ sym (with_some rs bin a some)

-- it doesn't
pub bin_next : (rs : List BinRun) (n bin : ℕ) (a : Three) (r : BinRun) → n + 1 ≡ length rs → r ≡ get_or rs n r → is_same a No ≡ false → (r.past ≡ bin → is_same r.answer a ≡ false)
    → rs ++ run a bin (bin + 1) ∷ [] ≡ with_bin rs bin a
bin_next rs n bin a r l e some other =
    sym (with_some rs bin a some ∙ extended_next rs n bin a r l e (ends_here a r.answer r.past bin (is_same a r.answer && eqb r.past bin) refl other))

-- there is none
pub bin_first : (rs : List BinRun) (bin : ℕ) (a : Three) → length rs ≤ 0 → is_same a No ≡ false → rs ++ run a bin (bin + 1) ∷ [] ≡ with_bin rs bin a
bin_first [] bin a l some = sym (with_some [] bin a some)
bin_first (r ∷ rs) bin a l some = absurd (omega arith)

-- ---- the runs in the bins' own words

-- the run has bins, between these two
pub record IsBetween (low high : ℕ) (r : BinRun) : Type 0 where
  pub low_end : low ≤ r.first
  pub some : r.first < r.past
  pub high_end : r.past ≤ high

between_more : (low high : ℕ) (rs : List BinRun) → AllByRecursion (IsBetween (low + 1) high) rs → AllByRecursion (IsBetween low high) rs
between_more low high [] h = tt
between_more low high (r ∷ rs) h = (record { low_end = omega (arith, h.0.low_end); some = h.0.some; high_end = h.0.high_end }, between_more low high rs h.1)

between_first : (x : Three) (bin high : ℕ) (rs : List BinRun) → bin + 1 ≤ high → AllByRecursion (IsBetween (bin + 1) high) rs → AllByRecursion (IsBetween bin high) (before x bin rs)
between_first x bin high [] l h = (record { low_end = omega arith; some = omega arith; high_end = l }, tt)
between_first x bin high (r ∷ rs) l h =
    elim (is_same x r.answer && eqb r.first (bin + 1)) as (λ t. AllByRecursion (IsBetween bin high) (cond t (run x bin r.past ∷ rs) (run x bin (bin + 1) ∷ r ∷ rs))) [
      | true ↦ (record { low_end = omega arith; some = omega (arith, h.0.low_end, h.0.some); high_end = h.0.high_end }, between_more bin high rs h.1)
      | false ↦ (record { low_end = omega arith; some = omega arith; high_end = l }, between_more bin high (r ∷ rs) h)
    ]

pub between : (bin : ℕ) (answers : List Three) → AllByRecursion (IsBetween bin (bin + length answers)) (runs_from bin answers)
unfolding runs_from
between bin [] = tt
between bin (Yes ∷ answers) =
    let e : bin + 1 + length answers ≡ bin + suc (length answers) = omega arith in
    between_first Yes bin (bin + suc (length answers)) (runs_from (bin + 1) answers) (omega arith)
    (subst (λ (n : ℕ). AllByRecursion (IsBetween (bin + 1) n) (runs_from (bin + 1) answers)) e (between (bin + 1) answers))
between bin (No ∷ answers) =
    let e : bin + 1 + length answers ≡ bin + suc (length answers) = omega arith in
    between_more bin (bin + suc (length answers)) (runs_from (bin + 1) answers)
    (subst (λ (n : ℕ). AllByRecursion (IsBetween (bin + 1) n) (runs_from (bin + 1) answers)) e (between (bin + 1) answers))
between bin (Unknown ∷ answers) =
    let e : bin + 1 + length answers ≡ bin + suc (length answers) = omega arith in
    between_first Unknown bin (bin + suc (length answers)) (runs_from (bin + 1) answers) (omega arith)
    (subst (λ (n : ℕ). AllByRecursion (IsBetween (bin + 1) n) (runs_from (bin + 1) answers)) e (between (bin + 1) answers))

each_within : (high : ℕ) (rs : List BinRun) → AllByRecursion (IsBetween 0 high) rs → All (λ r. (r.first < r.past) × (r.past ≤ high)) rs
each_within high [] h k d l = absurd (omega arith)
each_within high (r ∷ rs) h zero d l = (h.0.some, h.0.high_end)
each_within high (r ∷ rs) h (suc k) d l = each_within high rs h.1 k d (omega arith)

-- each run has bins, and they are there
pub runs_within : (answers : List Three) → All (λ r. (r.first < r.past) × (r.past ≤ length answers)) (runs_of answers)
runs_within answers =
    let e : 0 + length answers ≡ length answers = omega arith in
    each_within (length answers) (runs_of answers) (subst (λ (n : ℕ). AllByRecursion (IsBetween 0 n) (runs_of answers)) e (between 0 answers))

-- ---- none can be longer

follows_first : (x : Three) (bin high : ℕ) (r : BinRun) → IsBetween (bin + 1) high r → (is_same x r.answer && eqb r.first (bin + 1)) ≡ false → Follows (run x bin (bin + 1)) r
follows_first x bin high r h e = record {
  later = h.low_end;
  apart = λ same.
      elim (is_same x r.answer) as (λ t. (t && eqb r.first (bin + 1)) ≡ false → t ≡ false) [
        | true ↦ λ f. (let there : eqb r.first (bin + 1) ≡ true = eq-eqb r.first (bin + 1) (sym same) in absurd cc)
        | false ↦ λ f. refl
      ]
      e;
}

maximal_first : (x : Three) (bin high : ℕ) (rs : List BinRun) → AllByRecursion (IsBetween (bin + 1) high) rs → AreMaximal rs → AreMaximal (before x bin rs)
unfolding AreMaximal
maximal_first x bin high [] h m = omega arith
maximal_first x bin high (r ∷ []) h m =
    elim (is_same x r.answer && eqb r.first (bin + 1)) as (λ t. (is_same x r.answer && eqb r.first (bin + 1)) ≡ t → AreMaximal (cond t (run x bin r.past ∷ []) (run x bin (bin + 1) ∷ r ∷ []))) [
      | true ↦ λ e. omega (arith, h.0.low_end, h.0.some)
      | false ↦ λ e. (omega arith, follows_first x bin high r h.0 e, m)
    ]
    refl
maximal_first x bin high (r ∷ s ∷ rs) h m =
    elim (is_same x r.answer && eqb r.first (bin + 1)) as (λ t. (is_same x r.answer && eqb r.first (bin + 1)) ≡ t → AreMaximal (cond t (run x bin r.past ∷ s ∷ rs) (run x bin (bin + 1) ∷ r ∷ s ∷ rs))) [
      | true ↦ λ e. (
        omega (arith, h.0.low_end, h.0.some),
        record {
          later = m.1.later;
          apart = λ same. ap (λ (b : Three). is_same b s.answer) (same_is x r.answer (and_true (is_same x r.answer) (eqb r.first (bin + 1)) e).0) ∙ m.1.apart same;
        },
        m.2,
      )
      | false ↦ λ e. (omega arith, follows_first x bin high r h.0 e, m)
    ]
    refl

maximal : (bin : ℕ) (answers : List Three) → AreMaximal (runs_from bin answers)
unfolding runs_from AreMaximal
maximal bin [] = tt
maximal bin (Yes ∷ answers) = maximal_first Yes bin (bin + 1 + length answers) (runs_from (bin + 1) answers) (between (bin + 1) answers) (maximal (bin + 1) answers)
maximal bin (No ∷ answers) = maximal (bin + 1) answers
maximal bin (Unknown ∷ answers) = maximal_first Unknown bin (bin + 1 + length answers) (runs_from (bin + 1) answers) (between (bin + 1) answers) (maximal (bin + 1) answers)

-- ---- no run is No

some_first : (x : Three) (bin : ℕ) (rs : List BinRun) → is_same x No ≡ false → AllByRecursion (λ r. is_same r.answer No ≡ false) rs → AllByRecursion (λ r. is_same r.answer No ≡ false) (before x bin rs)
some_first x bin [] e h = (e, tt)
some_first x bin (r ∷ rs) e h =
    elim (is_same x r.answer && eqb r.first (bin + 1)) as (λ t. AllByRecursion (λ r. is_same r.answer No ≡ false) (cond t (run x bin r.past ∷ rs) (run x bin (bin + 1) ∷ r ∷ rs))) [
      | true ↦ (e, h.1)
      | false ↦ (e, h)
    ]

some_answer : (bin : ℕ) (answers : List Three) → AllByRecursion (λ r. is_same r.answer No ≡ false) (runs_from bin answers)
unfolding runs_from
some_answer bin [] = tt
some_answer bin (Yes ∷ answers) = some_first Yes bin (runs_from (bin + 1) answers) refl (some_answer (bin + 1) answers)
some_answer bin (No ∷ answers) = some_answer (bin + 1) answers
some_answer bin (Unknown ∷ answers) = some_first Unknown bin (runs_from (bin + 1) answers) refl (some_answer (bin + 1) answers)

-- ---- which bins are in runs

one_bin : (bin b : ℕ) → in_run bin (bin + 1) b ≡ eqb b bin
one_bin bin b = grind (arith, nat_tests)

first_bin : (bin past b : ℕ) → bin + 1 < past → in_run bin past b ≡ (eqb b bin || in_run (bin + 1) past b)
first_bin bin past b h = grind (arith, nat_tests)

split : (s e i t : Bool) → ((s && (e || i)) || t) ≡ ((s && e) || ((s && i) || t))
split true true i t = refl
split true false i t = refl
split false e i t = refl

any_first : (a x : Three) (bin b high : ℕ) (rs : List BinRun) → AllByRecursion (IsBetween (bin + 1) high) rs
    → list_any (has_bin a b) (before x bin rs) ≡ ((is_same a x && eqb b bin) || list_any (has_bin a b) rs)
any_first a x bin b high [] h = ap (λ (t : Bool). (is_same a x && t) || false) (one_bin bin b)
any_first a x bin b high (r ∷ rs) h =
    elim (is_same x r.answer && eqb r.first (bin + 1)) as (λ t. (is_same x r.answer && eqb r.first (bin + 1)) ≡ t
    → list_any (has_bin a b) (cond t (run x bin r.past ∷ rs) (run x bin (bin + 1) ∷ r ∷ rs)) ≡ ((is_same a x && eqb b bin) || list_any (has_bin a b) (r ∷ rs))) [
      | true ↦ λ e.
          (let both = and_true (is_same x r.answer) (eqb r.first (bin + 1)) e in
          let same : x ≡ r.answer = same_is x r.answer both.0 in
          let begins : r.first ≡ bin + 1 = eqb-true r.first (bin + 1) both.1 in
          let below : bin + 1 < r.past = omega (arith, h.0.low_end, h.0.some) in
          ap (λ (t : Bool). (is_same a x && t) || list_any (has_bin a b) rs) (first_bin bin r.past b below)
          ∙ split (is_same a x) (eqb b bin) (in_run (bin + 1) r.past b) (list_any (has_bin a b) rs)
          ∙ ap (λ (n : ℕ). (is_same a x && eqb b bin) || ((is_same a x && in_run n r.past b) || list_any (has_bin a b) rs)) (sym begins)
          ∙ ap (λ (y : Three). (is_same a x && eqb b bin) || ((is_same a y && in_run r.first r.past b) || list_any (has_bin a b) rs)) same)
      | false ↦ λ e. ap (λ (t : Bool). (is_same a x && t) || list_any (has_bin a b) (r ∷ rs)) (one_bin bin b)
    ]
    refl

and_none : (s t : Bool) → t ≡ false → (s && t) ≡ false
and_none true t h = h
and_none false t h = refl

and_all : (s t : Bool) → t ≡ true → (s && t) ≡ s
and_all true t h = h
and_all false t h = refl

or_none : (s t : Bool) → s ≡ false → (s || t) ≡ t
or_none true t h = absurd cc
or_none false t h = refl

or_last : (s t : Bool) → t ≡ false → (s || t) ≡ s
or_last true t h = refl
or_last false t h = h

any_other : (a x : Three) (bin b high : ℕ) (rs : List BinRun) → AllByRecursion (IsBetween (bin + 1) high) rs → eqb b bin ≡ false
    → list_any (has_bin a b) (before x bin rs) ≡ list_any (has_bin a b) rs
any_other a x bin b high rs h e = any_first a x bin b high rs h ∙ or_none (is_same a x && eqb b bin) (list_any (has_bin a b) rs) (and_none (is_same a x) (eqb b bin) e)

-- no bin before the first one is in a run
none_before : (a : Three) (bin b : ℕ) (answers : List Three) → b < bin → list_any (has_bin a b) (runs_from bin answers) ≡ false
unfolding runs_from
none_before a bin b [] h = refl
none_before a bin b (Yes ∷ answers) h =
    any_other a Yes bin b (bin + 1 + length answers) (runs_from (bin + 1) answers) (between (bin + 1) answers) (ne_eqb b bin (omega arith)) ∙ none_before a (bin + 1) b answers (omega arith)
none_before a bin b (No ∷ answers) h = none_before a (bin + 1) b answers (omega arith)
none_before a bin b (Unknown ∷ answers) h =
    any_other a Unknown bin b (bin + 1 + length answers) (runs_from (bin + 1) answers) (between (bin + 1) answers) (ne_eqb b bin (omega arith)) ∙ none_before a (bin + 1) b answers (omega arith)

any_here : (a x : Three) (bin : ℕ) (answers : List Three) → list_any (has_bin a (bin + 0)) (before x bin (runs_from (bin + 1) answers)) ≡ is_same a x
any_here a x bin answers =
    let here : eqb (bin + 0) bin ≡ true = eq-eqb (bin + 0) bin (omega arith) in
    any_first a x bin (bin + 0) (bin + 1 + length answers) (runs_from (bin + 1) answers) (between (bin + 1) answers)
    ∙ or_last (is_same a x && eqb (bin + 0) bin) (list_any (has_bin a (bin + 0)) (runs_from (bin + 1) answers)) (none_before a (bin + 1) (bin + 0) answers (omega arith))
    ∙ and_all (is_same a x) (eqb (bin + 0) bin) here

-- the bins with an answer, Yes or Unknown, are those of the runs with it
any_at : (a : Three) → is_same a No ≡ false → (bin k : ℕ) (answers : List Three) → list_any (has_bin a (bin + k)) (runs_from bin answers) ≡ is_same a (get_or answers k No)
unfolding runs_from
any_at a n bin k [] = sym n
any_at a n bin zero (Yes ∷ answers) = any_here a Yes bin answers
any_at a n bin zero (No ∷ answers) = none_before a (bin + 1) (bin + 0) answers (omega arith) ∙ sym n
any_at a n bin zero (Unknown ∷ answers) = any_here a Unknown bin answers
any_at a n bin (suc k) (Yes ∷ answers) =
    any_other a Yes bin (bin + suc k) (bin + 1 + length answers) (runs_from (bin + 1) answers) (between (bin + 1) answers) (ne_eqb (bin + suc k) bin (omega arith))
    ∙ (let e : bin + suc k ≡ bin + 1 + k = omega arith in ap (λ (b : ℕ). list_any (has_bin a b) (runs_from (bin + 1) answers)) e) ∙ any_at a n (bin + 1) k answers
any_at a n bin (suc k) (No ∷ answers) =
    (let e : bin + suc k ≡ bin + 1 + k = omega arith in ap (λ (b : ℕ). list_any (has_bin a b) (runs_from (bin + 1) answers)) e) ∙ any_at a n (bin + 1) k answers
any_at a n bin (suc k) (Unknown ∷ answers) =
    any_other a Unknown bin (bin + suc k) (bin + 1 + length answers) (runs_from (bin + 1) answers) (between (bin + 1) answers) (ne_eqb (bin + suc k) bin (omega arith))
    ∙ (let e : bin + suc k ≡ bin + 1 + k = omega arith in ap (λ (b : ℕ). list_any (has_bin a b) (runs_from (bin + 1) answers)) e) ∙ any_at a n (bin + 1) k answers

pub any_run : (a : Three) → is_same a No ≡ false → (b : ℕ) (answers : List Three) → list_any (has_bin a b) (runs_of answers) ≡ is_same a (get_or answers b No)
any_run a n b answers = let e : b ≡ 0 + b = omega arith in ap (λ (k : ℕ). list_any (has_bin a k) (runs_of answers)) e ∙ any_at a n 0 b answers

pub are_runs : (answers : List Three) → AreRunsOf answers (runs_of answers)
are_runs answers = record {
  maximal = maximal 0 answers;
  some = some_answer 0 answers;
  yes = λ bin. any_run Yes refl bin answers;
  unknown = λ bin. any_run Unknown refl bin answers;
}
