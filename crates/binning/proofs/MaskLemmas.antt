-- Masks as truth values, and the cells that they tell.
use Rattle.std.proofs.Common.{◌≡◌, ℕ, zero, suc, ◌+◌, ◌-◌, ◌/◌, ◌%◌, ◌^◌, ◌<◌, Bool, true, false, eqb, cond, List, [], ◌∷◌, ◌++◌, length, get_or, take, Option, Some, None, ℤ, refl, ap, add-one, ◌∙◌, arith}
use Rattle.std.specs.List.{AllByRecursion}
use Rattle.std.specs.Option.{IfSome}
use Rattle.wah_words.specs.Places.{places}
use Rattle.binning.specs.Bins.{cells, present}

pub places_first : (c n : ℕ) → 0 < c → places c n ≡ eqb (n / 2 ^ (c - 1) % 2) 1 ∷ places (c - 1) n
unfolding places
places_first zero n h = absurd (omega arith)
places_first (suc c) n h = let e : suc c - 1 ≡ c = omega arith in rw e refl

pub places_none : (n : ℕ) → places 0 n ≡ []
unfolding places
places_none n = refl

-- the cell of one row
abbrev pub cell : Bool → ℤ → Option ℤ
cell true v = Some v
cell false v = None

pub cells_more : (mask : List Bool) (vs : List ℤ) (i : ℕ) (b : Bool) (v : ℤ) → i < length mask → i < length vs → cells (take (i + 1) mask) (take (i + 1) vs) ≡ cells (take i mask) (take i vs) ++ cell (get_or mask i b) (get_or vs i v) ∷ []
cells_more [] vs i b v h k = absurd (omega arith)
cells_more (x ∷ mask) [] i b v h k = absurd (omega arith)
cells_more (true ∷ mask) (w ∷ vs) zero b v h k = refl
cells_more (false ∷ mask) (w ∷ vs) zero b v h k = refl
cells_more (true ∷ mask) (w ∷ vs) (suc i) b v h k =
    rw add-one (ap (λ cs. Some w ∷ cs) (rw add-one at (cells_more mask vs i b v (omega arith) (omega arith))))
cells_more (false ∷ mask) (w ∷ vs) (suc i) b v h k =
    rw add-one (ap (λ cs. None ∷ cs) (rw add-one at (cells_more mask vs i b v (omega arith) (omega arith))))

pub present_push : (column : List (Option ℤ)) (b : Bool) (v : ℤ) → present (column ++ cell b v ∷ []) ≡ present column ++ cond b (v ∷ []) []
present_push [] true v = refl
present_push [] false v = refl
present_push (None ∷ column) b v = present_push column b v
present_push (Some w ∷ column) b v = ap (λ vs. w ∷ vs) (present_push column b v)

pub present_more : (mask : List Bool) (vs : List ℤ) (i : ℕ) (b : Bool) (v : ℤ) → i < length mask → i < length vs → present (cells (take (i + 1) mask) (take (i + 1) vs)) ≡ present (cells (take i mask) (take i vs)) ++ cond (get_or mask i b) (get_or vs i v ∷ []) []
present_more mask vs i b v h k =
    ap present (cells_more mask vs i b v h k) ∙ present_push (cells (take i mask) (take i vs)) (get_or mask i b) (get_or vs i v)

pub cell_is : (b : Bool) (v : ℤ) → cell b v ≡ cond b (Some v) None
cell_is true v = refl
cell_is false v = refl

pub cell_within : (P : ℤ → Type 0) (b : Bool) (v : ℤ) → P v → IfSome (cond b (Some v) None) P
cell_within P true v h = h
cell_within P false v h = tt

pub value_at : (P : ℤ → Type 0) (vs : List ℤ) (i : ℕ) (d : ℤ) → AllByRecursion P vs → i < length vs → P (get_or vs i d)
value_at P [] i d all h = absurd (omega arith)
value_at P (v ∷ vs) zero d all h = all.0
value_at P (v ∷ vs) (suc i) d all h = value_at P vs i d all.1 (omega arith)
