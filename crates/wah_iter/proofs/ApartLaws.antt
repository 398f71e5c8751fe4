-- The runs of a list have its rows, and a row stands between each and the next.
use Rattle.std.proofs.Common.{◌≡◌, ℕ, suc, ◌+◌, ◌-◌, ◌<◌, ◌≤◌, Bool, true, false, eqb, List, [], ◌∷◌, ◌++◌, refl, sym, ap, ◌∙◌, arith}
use Rattle.std.specs.List.{range_with_len}
use Rattle.std.proofs.lemmas.Bool.{eq-eqb, eqb-true}
use Rattle.wah_iter.specs.Rows.{AreApart, before, rows_from, rows_in, runs_from}

-- runs that are apart, none of which begins below the place
AreFrom : ℕ → List (ℕ × ℕ) → Type 0
AreFrom place [] = Unit {0}
AreFrom place (r ∷ rs) = (place ≤ r.0) × AreApart (r ∷ rs)

first_of : (r : ℕ × ℕ) (rs : List (ℕ × ℕ)) → AreApart (r ∷ rs) → r.0 < r.1
unfolding AreApart
first_of r [] h = h
first_of r (s ∷ rs) h = h.0

-- an earlier beginning of the first run
widened : (place : ℕ) (r : ℕ × ℕ) (rs : List (ℕ × ℕ)) → place < r.0 → AreApart (r ∷ rs) → AreApart ((place, r.1) ∷ rs)
unfolding AreApart
widened place r [] below h = omega arith
widened place r (s ∷ rs) below h = (omega (arith, h.0), h.1, h.2)

apart_by : (place : ℕ) (r : ℕ × ℕ) (rs : List (ℕ × ℕ)) (t : Bool) → eqb (place + 1) r.0 ≡ t → AreFrom (place + 1) (r ∷ rs)
    → AreFrom place (before place (place + 1) (r ∷ rs))
unfolding AreFrom AreApart
apart_by place r rs true e h =
    let at : place + 1 ≡ r.0 = eqb-true (place + 1) r.0 e in
    rw e (omega arith, widened place r rs (omega arith) h.1)
apart_by place r rs false e h =
    let off : place + 1 ≡ r.0 → ⊥ = λ same. let on : eqb (place + 1) r.0 ≡ true = rw same (eqb-same r.0) in (let bad : true ≡ false = sym on ∙ e in cc) in
    rw e (omega arith, (omega arith, omega (arith, h.0, off), h.1))
  where
    eqb-same : (n : ℕ) → eqb n n ≡ true
    eqb-same n = eq-eqb n n refl

apart_one : (place : ℕ) (rs : List (ℕ × ℕ)) → AreFrom (place + 1) rs → AreFrom place (before place (place + 1) rs)
unfolding AreFrom AreApart
apart_one place [] h = (omega arith, omega arith)
apart_one place (r ∷ rs) h = apart_by place r rs (eqb (place + 1) r.0) refl h

sooner : (place : ℕ) (rs : List (ℕ × ℕ)) → AreFrom (place + 1) rs → AreFrom place rs
unfolding AreFrom
sooner place [] h = h
sooner place (r ∷ rs) h = (omega (arith, h.0), h.1)

runs_apart : (place : ℕ) (v : List Bool) → AreFrom place (runs_from place v [])
unfolding AreFrom runs_from
runs_apart place [] = tt
runs_apart place (true ∷ v) = apart_one place (runs_from (place + 1) v []) (runs_apart (place + 1) v)
runs_apart place (false ∷ v) = sooner place (runs_from (place + 1) v []) (runs_apart (place + 1) v)

without : (place : ℕ) (rs : List (ℕ × ℕ)) → AreFrom place rs → AreApart rs
unfolding AreFrom AreApart
without place [] h = tt
without place (r ∷ rs) h = h.1

pub apart : (v : List Bool) → AreApart (runs_from 0 v [])
apart v = without 0 (runs_from 0 v []) (runs_apart 0 v)

-- ---- their rows

one_more_row : (place past : ℕ) → place < past → range_with_len place (past - place) ≡ place ∷ range_with_len (place + 1) (past - (place + 1))
one_more_row place past h =
    let size : past - place ≡ suc (past - (place + 1)) = omega arith in
    ap (range_with_len place) size

rows_by : (place : ℕ) (r : ℕ × ℕ) (rs : List (ℕ × ℕ)) (t : Bool) → eqb (place + 1) r.0 ≡ t → AreFrom (place + 1) (r ∷ rs)
    → rows_in (before place (place + 1) (r ∷ rs)) ≡ place ∷ rows_in (r ∷ rs)
unfolding AreFrom
rows_by place r rs true e h =
    let at : place + 1 ≡ r.0 = eqb-true (place + 1) r.0 e in
    let long : r.0 < r.1 = first_of r rs h.1 in
    rw e (ap (λ front. front ++ rows_in rs) (one_more_row place r.1 (omega arith) ∙ ap (λ k. place ∷ range_with_len k (r.1 - k)) at))
rows_by place r rs false e h =
    let one : place + 1 - place ≡ 1 = omega arith in
    rw e (ap (λ n. range_with_len place n ++ rows_in (r ∷ rs)) one)

rows_one : (place : ℕ) (rs : List (ℕ × ℕ)) → AreFrom (place + 1) rs → rows_in (before place (place + 1) rs) ≡ place ∷ rows_in rs
rows_one place [] h = let one : place + 1 - place ≡ 1 = omega arith in ap (λ n. range_with_len place n ++ []) one
rows_one place (r ∷ rs) h = rows_by place r rs (eqb (place + 1) r.0) refl h

rows_are : (place : ℕ) (v : List Bool) → rows_in (runs_from place v []) ≡ rows_from place v
unfolding runs_from rows_from
rows_are place [] = refl
rows_are place (true ∷ v) = rows_one place (runs_from (place + 1) v []) (runs_apart (place + 1) v) ∙ ap (λ rs. place ∷ rs) (rows_are (place + 1) v)
rows_are place (false ∷ v) = rows_are (place + 1) v

pub rows : (v : List Bool) → rows_in (runs_from 0 v []) ≡ rows_from 0 v
rows v = rows_are 0 v
