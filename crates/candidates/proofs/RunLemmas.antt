-- The first run of a list, with the values before it and after it.
use Rattle.std.proofs.Common.{◌≡◌, ℕ, suc, ◌+◌, ◌<◌, Bool, true, false, cond, eqb, List, [], ◌∷◌, ◌++◌, length, replicate, refl, sym, ap, subst, ◌∙◌, arith}
use Rattle.std.proofs.lemmas.Bool.{eqb-true}
use Rattle.wah_iter.specs.Rows.{before, runs_from}
use Rattle.wah_iter.specs.Walks.{BeginsAt}
use Rattle.wah_iter.proofs.RunLaws.{begins_before}

-- so many values that are false, then so many that are true, and those behind them, of which the later runs are
pub record FirstRun (place : ℕ) (v : List Bool) (first past : ℕ) (rest : List (ℕ × ℕ)) : Type 0 where
  pub gap : ℕ
  pub many : ℕ
  pub later : List Bool
  pub begins : first ≡ place + gap
  pub ends : past ≡ first + many
  pub some : 0 < many
  pub split : v ≡ replicate gap false ++ (replicate many true ++ later)
  pub left : rest ≡ runs_from past later []

abbrev head_of : List (ℕ × ℕ) → ℕ × ℕ
head_of [] = (0, 0)
head_of (r ∷ rs) = r

abbrev tail_of : List (ℕ × ℕ) → List (ℕ × ℕ)
tail_of [] = []
tail_of (r ∷ rs) = rs

-- a value that is true, before a run that begins behind it or before none
alone : (place : ℕ) (v : List Bool) (first past : ℕ) (rest rs : List (ℕ × ℕ)) → runs_from (place + 1) v [] ≡ rs
    → (place, place + 1) ∷ rs ≡ (first, past) ∷ rest → FirstRun place (true ∷ v) first past rest
alone place v first past rest rs is e =
    let at : place ≡ first = ap (λ l. (head_of l).0) e in
    let end : place + 1 ≡ past = ap (λ l. (head_of l).1) e in
    record {
      gap = 0;
      many = 1;
      later = v;
      begins = omega (arith, at);
      ends = omega (arith, at, end);
      some = omega arith;
      split = refl;
      left = sym (ap tail_of e) ∙ sym is ∙ ap (λ k. runs_from k v []) end;
    }

joined : (place : ℕ) (v : List Bool) (first past : ℕ) (rest : List (ℕ × ℕ)) (r : ℕ × ℕ) (rs : List (ℕ × ℕ)) (t : Bool) → eqb (place + 1) r.0 ≡ t
    → runs_from (place + 1) v [] ≡ r ∷ rs → FirstRun (place + 1) v r.0 r.1 rs
    → cond t ((place, r.1) ∷ rs) ((place, place + 1) ∷ r ∷ rs) ≡ (first, past) ∷ rest → FirstRun place (true ∷ v) first past rest
joined place v first past rest r rs true t is run e =
    let same : place + 1 ≡ r.0 = eqb-true (place + 1) r.0 t in
    let at : place ≡ first = ap (λ l. (head_of l).0) e in
    let end : r.1 ≡ past = ap (λ l. (head_of l).1) e in
    let none : run.gap ≡ 0 = omega (arith, run.begins, same) in
    record {
      gap = 0;
      many = suc run.many;
      later = run.later;
      begins = omega (arith, at);
      ends = omega (arith, at, end, run.ends, same);
      some = omega arith;
      split = ap (λ l. true ∷ l) (run.split ∙ ap (λ n. replicate n false ++ (replicate run.many true ++ run.later)) none);
      left = sym (ap tail_of e) ∙ run.left ∙ ap (λ k. runs_from k run.later []) end;
    }
joined place v first past rest r rs false t is run e = alone place v first past rest (r ∷ rs) is e

begun : (place : ℕ) (v : List Bool) (first past : ℕ) (rest rs : List (ℕ × ℕ)) → runs_from (place + 1) v [] ≡ rs
    → ((f p : ℕ) (l : List (ℕ × ℕ)) → runs_from (place + 1) v [] ≡ (f, p) ∷ l → FirstRun (place + 1) v f p l)
    → before place (place + 1) rs ≡ (first, past) ∷ rest → FirstRun place (true ∷ v) first past rest
begun place v first past rest [] is inner e = alone place v first past rest [] is e
begun place v first past rest (r ∷ rs) is inner e =
    joined place v first past rest r rs (eqb (place + 1) r.0) refl is (inner r.0 r.1 rs is) e

pub first_run : (place : ℕ) (v : List Bool) (first past : ℕ) (rest : List (ℕ × ℕ)) → runs_from place v [] ≡ (first, past) ∷ rest
    → FirstRun place v first past rest
unfolding runs_from
first_run place [] first past rest e = absurd (cc)
first_run place (true ∷ v) first past rest e =
    begun place v first past rest (runs_from (place + 1) v []) refl (λ f p l h. first_run (place + 1) v f p l h) e
first_run place (false ∷ v) first past rest e =
    let run = first_run (place + 1) v first past rest e in
    record {
      gap = suc run.gap;
      many = run.many;
      later = run.later;
      begins = omega (arith, run.begins);
      ends = run.ends;
      some = run.some;
      split = ap (λ l. false ∷ l) run.split;
      left = run.left;
    }

-- ---- no run

before_some : (first past : ℕ) (rs : List (ℕ × ℕ)) → before first past rs ≡ [] → ⊥
before_some first past rs e = subst (λ l. BeginsAt first l) e (begins_before first past rs)

pub no_run : (place : ℕ) (v : List Bool) → runs_from place v [] ≡ [] → v ≡ replicate (length v) false
unfolding runs_from
no_run place [] e = refl
no_run place (true ∷ v) e = absurd (before_some place (place + 1) (runs_from (place + 1) v []) e)
no_run place (false ∷ v) e = ap (λ l. false ∷ l) (no_run (place + 1) v e)
