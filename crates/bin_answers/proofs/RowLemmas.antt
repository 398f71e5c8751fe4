-- The rows of runs of bins, and the answers of rows by their bins.
use Rattle.std.proofs.Common.{◌≡◌, eqb, ℕ, zero, suc, ◌+◌, ◌*◌, ◌<◌, ◌≤◌, Some, Bool, true, false, ◌&&◌, ◌||◌, cond, List, [], ◌∷◌, All, length, map, get_or, replicate, refl, sym, ap, ◌∙◌, arith}
use Rattle.std.specs.List.{filter, list_any, range_with_len}
use Rattle.std.proofs.Math.Nat.{mul-le-mul_left}
use Rattle.std.proofs.lemmas.Bool.{eqb-true}
use Rattle.std.proofs.lemmas.List.{map-id}
use Rattle.wah_logic.specs.Logic.{each_place, or, union}
use Rattle.binning.specs.Against.{against}
use Rattle.binning.specs.Encodings.{vectors}
use Rattle.binning.specs.Members.{AreBins, chosen, in_run, union_of}
use Rattle.binning.specs.declared.against_bins.Three.{Three}
use Rattle.binning.specs.declared.against_bins.Three.TheVariants.{Yes, No, Unknown}
use Rattle.binning.specs.declared.gathering.Bin.{Bin}
use Rattle.binning.specs.declared.span_lists.Span.{Span}
use Rattle.binning.proofs.MembersLemmas.{bins-op, length-union_of, row_of_bin, union_of-none, union_of-same}
use Rattle.index_file.specs.declared.edge.Edge.{Edge}
use Rattle.wah_logic.proofs.UnionLemmas.{length-union}
use Rattle.three_valued.specs.Tables.{decided}
use Rattle.three_valued.specs.Rows.{answer_of, answers_of, each_row}
use Rattle.three_valued.proofs.RowLemmas.{length-answers_of}
use Rattle.bin_answers.specs.BinRuns.{has_bin, is_same, runs_of}
use Rattle.bin_answers.specs.Bins.{bin_answer, bin_at, edge_of, edges_say, rows_of_runs, said_by}
use Rattle.bin_answers.specs.declared.bin_runs.BinRun.{BinRun}
use Rattle.bin_answers.proofs.RunLemmas.{any_run}

-- ---- a union of runs

joined_run : (len : ℕ) (a : Three) (r : BinRun) (runs : List BinRun) (vs : List (List Bool)) → AreBins len vs
    → each_place or (union_of len (in_run r.first r.past) vs) (union_of len (λ b. list_any (has_bin a b) runs) vs)
    ≡ union_of len (λ b. or (in_run r.first r.past b) (list_any (has_bin a b) runs)) vs
joined_run len a r runs vs h = bins-op or refl len (in_run r.first r.past) (λ b. list_any (has_bin a b) runs) vs h

or_is : (x y t : Bool) → t ≡ true → or x y ≡ ((t && x) || y)
or_is true y true h = refl
or_is false y true h = refl
or_is x y false h = absurd cc

drop_is : (x y t : Bool) → t ≡ false → y ≡ ((t && x) || y)
drop_is x y true h = absurd cc
drop_is x y false h = refl

-- the rows of the runs with an answer are those of the bins that are in one of them
pub runs_union : (len : ℕ) (a : Three) (bins : List Bin) (runs : List BinRun) → AreBins len (vectors bins)
    → union len (rows_of_runs len bins a runs) ≡ union_of len (λ b. list_any (has_bin a b) runs) (vectors bins)
unfolding union
runs_union len a bins [] h = sym (union_of-none len (vectors bins))
runs_union len a bins (r ∷ runs) h =
    let vs = vectors bins in
    elim (is_same a r.answer) as (λ t. is_same a r.answer ≡ t
    → union len (map (λ r. union_of len (in_run r.first r.past) vs) (cond t (r ∷ filter (λ r. is_same a r.answer) runs) (filter (λ r. is_same a r.answer) runs)))
    ≡ union_of len (λ b. list_any (has_bin a b) (r ∷ runs)) vs) [
      | true ↦ λ e.
          ap (λ l. each_place or (union_of len (in_run r.first r.past) vs) l) (runs_union len a bins runs h)
          ∙ joined_run len a r runs vs h
          ∙ union_of-same len (λ b. or (in_run r.first r.past b) (list_any (has_bin a b) runs)) (λ b. list_any (has_bin a b) (r ∷ runs)) vs
          (λ b l. or_is (in_run r.first r.past b) (list_any (has_bin a b) runs) (is_same a r.answer) e)
      | false ↦ λ e.
          runs_union len a bins runs h
          ∙ union_of-same len (λ b. list_any (has_bin a b) runs) (λ b. list_any (has_bin a b) (r ∷ runs)) vs
          (λ b l. drop_is (in_run r.first r.past b) (list_any (has_bin a b) runs) (is_same a r.answer) e)
    ]
    refl

-- ---- a row

or_at : (v u : List Bool) (row : ℕ) → length v ≡ length u → get_or (each_place or v u) row false ≡ or (get_or v row false) (get_or u row false)
unfolding each_place
or_at [] [] row l = refl
or_at [] (y ∷ u) row l = absurd (omega arith)
or_at (x ∷ v) [] row l = absurd (omega arith)
or_at (x ∷ v) (y ∷ u) zero l = refl
or_at (x ∷ v) (y ∷ u) (suc row) l = or_at v u row (omega arith)

with_bin_rows : (x y z : Bool) → y ≡ z → or x y ≡ cond x true z
with_bin_rows true y z e = refl
with_bin_rows false y z e = e

without_bin_rows : (x y z : Bool) → (x ≡ true → y ≡ false) → y ≡ z → y ≡ cond x false z
without_bin_rows true y z h e = h refl
without_bin_rows false y z h e = e

no_row : (n row : ℕ) → get_or (replicate n false) row false ≡ false
no_row zero row = refl
no_row (suc n) zero = refl
no_row (suc n) (suc row) = no_row n row

head_long : (len : ℕ) (v : List Bool) (vs : List (List Bool)) → All (λ x. length x ≡ len) (v ∷ vs) → length v ≡ len
head_long len v vs h = h 0 v (omega arith)

tail_long : (len : ℕ) (v : List Bool) (vs : List (List Bool)) → All (λ x. length x ≡ len) (v ∷ vs) → All (λ x. length x ≡ len) vs
tail_long len v vs h k d l = h (suc k) d (omega arith)

-- no row is in two of these
abbrev pub OneBin : List (List Bool) → Type 0
OneBin vs = (a b row : ℕ) → get_or (get_or vs a []) row false ≡ true → get_or (get_or vs b []) row false ≡ true → a ≡ b

tail_one : (v : List Bool) (vs : List (List Bool)) → OneBin (v ∷ vs) → OneBin vs
tail_one v vs h a b row x y = let e : suc a ≡ suc b = h (suc a) (suc b) row x y in omega (arith, e)

-- a row of the first bin is in no union of the others
others_not : (len : ℕ) (set : ℕ → Bool) (v : List Bool) (vs : List (List Bool)) (row : ℕ) → All (λ x. length x ≡ len) vs → OneBin (v ∷ vs) → get_or v row false ≡ true
    → (t : Bool) → get_or (union_of len set vs) row false ≡ t → t ≡ false
others_not len set v vs row l h x false e = refl
others_not len set v vs row l h x true e =
    let other = row_of_bin len set vs row l e in
    let same : 0 ≡ suc other.0 = h 0 (suc other.0) row x other.1.has in
    absurd (omega (arith, same))

-- The union of the bins with an answer, Yes or Unknown, has the rows whose bin has it.
row_says : (len : ℕ) (says : Bin → Three) (a : Three) (row : ℕ) (bins : List Bin) → is_same a No ≡ false → All (λ x. length x ≡ len) (vectors bins) → OneBin (vectors bins)
    → get_or (union_of len (λ b. is_same a (get_or (map says bins) b No)) (vectors bins)) row false ≡ is_same a (said_by says (bin_at row bins))
unfolding union
row_says len says a row [] n l p = no_row len row ∙ sym n
row_says len says a row (bin ∷ bins) n l p =
    let vs = vectors bins in
    let later : ℕ → Bool = λ b. is_same a (get_or (map says bins) b No) in
    let rest = tail_long len bin.rows vs l in
    let same = row_says len says a row bins n rest (tail_one bin.rows vs p) in
    elim (is_same a (says bin)) as (λ t. get_or (union len (cond t (bin.rows ∷ chosen later vs) (chosen later vs))) row false
    ≡ cond (get_or bin.rows row false) t (is_same a (said_by says (bin_at row bins)))) [
      | true ↦
          or_at bin.rows (union_of len later vs) row (head_long len bin.rows vs l ∙ sym (length-union_of len later vs rest))
          ∙ with_bin_rows (get_or bin.rows row false) (get_or (union_of len later vs) row false) (is_same a (said_by says (bin_at row bins))) same
      | false ↦
          without_bin_rows (get_or bin.rows row false) (get_or (union_of len later vs) row false) (is_same a (said_by says (bin_at row bins)))
          (λ x. others_not len later bin.rows vs row rest p x (get_or (union_of len later vs) row false) refl) same
    ]
    ∙ elim (get_or bin.rows row false) as (λ t. cond t (is_same a (says bin)) (is_same a (said_by says (bin_at row bins))) ≡ is_same a (said_by says (cond t (Some bin) (bin_at row bins)))) [
      | true ↦ refl
      | false ↦ refl
    ]

-- ---- all rows

-- a list is told by what stands at each place
told : (f : ℕ → Bool) (a : ℕ) (xs : List Bool) → ((k : ℕ) → get_or xs k false ≡ f (a + k)) → xs ≡ map f (range_with_len a (length xs))
told f a [] h = refl
told f a (x ∷ xs) h =
    let here : a + 0 ≡ a = omega arith in
    ap (λ y. y ∷ xs) (h 0 ∙ ap f here) ∙ ap (λ l. f a ∷ l) (told f (a + 1) xs (λ k. h (suc k) ∙ (let e : a + suc k ≡ a + 1 + k = omega arith in ap f e)))

pub rows_with : (len : ℕ) (says : Bin → Three) (a : Three) (bins : List Bin) → is_same a No ≡ false → AreBins len (vectors bins)
    → union_of len (λ b. is_same a (get_or (map says bins) b No)) (vectors bins) ≡ each_row len (λ row. is_same a (said_by says (bin_at row bins)))
rows_with len says a bins n h =
    let set : ℕ → Bool = λ b. is_same a (get_or (map says bins) b No) in
    told (λ row. is_same a (said_by says (bin_at row bins))) 0 (union_of len set (vectors bins))
    (λ k. row_says len says a k bins n h.long h.apart ∙ (let e : k ≡ 0 + k = omega arith in ap (λ (row : ℕ). is_same a (said_by says (bin_at row bins))) e))
    ∙ ap (λ (count : ℕ). each_row count (λ row. is_same a (said_by says (bin_at row bins)))) (length-union_of len set (vectors bins) h.long)

answer_back : (x : Three) → answer_of (is_same Yes x) (is_same Unknown x) ≡ x
answer_back Yes = refl
answer_back No = refl
answer_back Unknown = refl

answers_back : (said : ℕ → Three) (rows : List ℕ) → answers_of (map (λ row. is_same Yes (said row)) rows) (map (λ row. is_same Unknown (said row)) rows) ≡ map said rows
unfolding answers_of
answers_back said [] = refl
answers_back said (row ∷ rows) = rw (answer_back (said row), answers_back said rows) refl

-- ---- the bins of an index

says_of : (spans : List Span) (bins : List Bin) → edges_say (map edge_of bins) spans ≡ map (λ bin. against bin.least bin.greatest spans) bins
says_of spans [] = refl
says_of spans (bin ∷ bins) = ap (λ l. against bin.least bin.greatest spans ∷ l) (says_of spans bins)

-- the rows of the runs with an answer
runs_rows : (len : ℕ) (spans : List Span) (a : Three) (edges : List Edge) (bins : List Bin) → is_same a No ≡ false → edges ≡ map edge_of bins → AreBins len (vectors bins)
    → union len (rows_of_runs len bins a (runs_of (edges_say edges spans))) ≡ each_row len (λ row. is_same a (bin_answer spans bins row))
runs_rows len spans a edges bins n e h =
    let answers = map (λ (bin : Bin). against bin.least bin.greatest spans) bins in
    ap (λ (says : List Three). union len (rows_of_runs len bins a (runs_of says))) (ap (λ (l : List Edge). edges_say l spans) e ∙ says_of spans bins)
    ∙ runs_union len a bins (runs_of answers) h
    ∙ union_of-same len (λ b. list_any (has_bin a b) (runs_of answers)) (λ b. is_same a (get_or answers b No)) (vectors bins) (λ b l. any_run a n b answers)
    ∙ rows_with len (λ bin. against bin.least bin.greatest spans) a bins n h

-- each row's answer is what its bin says
pub bins_answer : (len : ℕ) (spans : List Span) (edges : List Edge) (bins : List Bin) (definite unknown : List (List Bool)) → edges ≡ map edge_of bins → AreBins len (vectors bins)
    → definite ≡ rows_of_runs len bins Yes (runs_of (edges_say edges spans)) → unknown ≡ rows_of_runs len bins Unknown (runs_of (edges_say edges spans))
    → answers_of (union len definite) (union len unknown) ≡ each_row len (bin_answer spans bins)
bins_answer len spans edges bins definite unknown e h d u =
    ap (λ (l : List (List Bool)). answers_of (union len l) (union len unknown)) d
    ∙ ap (λ (l : List (List Bool)). answers_of (union len (rows_of_runs len bins Yes (runs_of (edges_say edges spans)))) (union len l)) u
    ∙ ap (λ (l : List Bool). answers_of l (union len (rows_of_runs len bins Unknown (runs_of (edges_say edges spans))))) (runs_rows len spans Yes edges bins refl e h)
    ∙ ap (λ (l : List Bool). answers_of (each_row len (λ row. is_same Yes (bin_answer spans bins row))) l) (runs_rows len spans Unknown edges bins refl e h)
    ∙ answers_back (bin_answer spans bins) (range_with_len 0 len)

-- ---- answers of runs

decided_none : (d : List Bool) (n : ℕ) → length d ≡ n → map decided d ≡ answers_of d (replicate n false)
unfolding answers_of
decided_none [] n l = refl
decided_none (x ∷ d) zero l = absurd (omega arith)
decided_none (true ∷ d) (suc n) l = ap (λ l. Yes ∷ l) (decided_none d n (omega arith))
decided_none (false ∷ d) (suc n) l = ap (λ l. No ∷ l) (decided_none d n (omega arith))

-- no run is Unknown
pub known_only : (len : ℕ) (d : List Bool) (definite unknown : List (List Bool)) → d ≡ union len (map (λ v. v) definite) → All (λ v. length v ≡ len) definite → unknown ≡ []
    → map decided d ≡ answers_of (union len definite) (union len unknown)
unfolding union
known_only len d definite unknown e h none =
    let same : d ≡ union len definite = e ∙ ap (union len) (map-id definite) in
    ap (map decided) same ∙ decided_none (union len definite) len (length-union len definite h) ∙ ap (λ l. answers_of (union len definite) (union len l)) (sym none)

pub of_length : (len : ℕ) (v : List Bool) (vs : List (List Bool)) → v ≡ union len (map (λ v. v) vs) → All (λ v. length v ≡ len) vs → length v ≡ len
of_length len v vs e h = ap length (e ∙ ap (union len) (map-id vs)) ∙ length-union len vs h

-- the steps of two unions and one operation more
pub three_parts : (g d u a b c e : ℕ) → 0 < u → b ≤ a + 2 * g * d → c ≤ b + 2 * g * u → e ≤ c + 2 * g → e ≤ a + 2 * g * (d + 2 * u)
three_parts g d u a b c e some h k l =
    let p : 2 * g * (d + 2 * u) ≡ 2 * g * d + (2 * g * u + 2 * g * u) = grind arith in
    let q : 2 * g * 1 ≤ 2 * g * u = mul-le-mul_left (2 * g) some in
    omega (arith, p, q)

pub one_part : (g d u a b : ℕ) → b ≤ a + 2 * g * d → b ≤ a + 2 * g * (d + 2 * u)
one_part g d u a b h = let p : 2 * g * (d + 2 * u) ≡ 2 * g * d + 2 * g * (2 * u) = grind arith in omega (arith, p)

pub two_parts : (g d u a b c : ℕ) → b ≤ a + 2 * g * d → c ≤ b + 2 * g * u → c ≤ a + 2 * g * (d + 2 * u)
two_parts g d u a b c h k = let p : 2 * g * (d + 2 * u) ≡ 2 * g * d + (2 * g * u + 2 * g * u) = grind arith in omega (arith, p)

pub answers_long : (len : ℕ) (a : List Three) (definite unknown : List (List Bool)) → a ≡ answers_of (union len definite) (union len unknown)
    → All (λ v. length v ≡ len) definite → All (λ v. length v ≡ len) unknown → length a ≡ len
answers_long len a definite unknown e h k =
    ap length e ∙ length-answers_of (union len definite) (union len unknown) (length-union len definite h ∙ sym (length-union len unknown k)) ∙ length-union len definite h

-- ---- counts

pub none_there : (vs : List (List Bool)) → eqb (length vs) 0 ≡ true → vs ≡ []
none_there [] h = refl
none_there (v ∷ vs) h = let e : length (v ∷ vs) ≡ 0 = eqb-true (length (v ∷ vs)) 0 h in absurd (omega (arith, e))

pub some_there : (vs : List (List Bool)) → eqb (length vs) 0 ≡ false → 0 < length vs
some_there [] h = absurd cc
some_there (v ∷ vs) h = omega arith
