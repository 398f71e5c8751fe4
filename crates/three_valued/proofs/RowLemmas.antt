-- Answers row by row, and the vectors that keep them.
use Rattle.std.proofs.Common.{◌≡◌, ℕ, zero, suc, ◌+◌, ◌*◌, ◌/◌, ◌%◌, ◌^◌, ◌<◌, ◌≤◌, ◌++◌, Option, Some, None, Bool, true, false, not, List, [], ◌∷◌, length, map, get_or, replicate, refl, sym, ap, ◌∙◌, subst, arith}
use Rattle.std.specs.Prelude.{is_some}
use Rattle.std.specs.List.{range_with_len}
use Rattle.std.proofs.lemmas.List.{append-nil, length-map, replicate-append-replicate}
use Rattle.std.proofs.Math.Pow.{pow_mono}
use Rattle.std.proofs.lemmas.List.FromFn.{length-range_with_len, length-map-range_with_len}
use Rattle.binning.specs.declared.against_bins.Three.{Three}
use Rattle.binning.specs.declared.against_bins.Three.TheVariants.{Yes, No, Unknown}
use Rattle.wah_logic.specs.Logic.{each_place, or, xor, and_not}
use Rattle.three_valued.specs.Tables.{ActsOnBounds, HasTable, decided, is_possible, is_unknown, is_yes, three_not, three_xor, undecided}
use Rattle.three_valued.specs.Rows.{AreBounds, answer_of, answers_of, each_row, possible_of, rowwise}
use Rattle.three_valued.proofs.TableLemmas.{xor_decided, not_definite, not_possible}

-- ---- from vectors to answers and back

pub bounds_long : (d p : List Bool) → AreBounds d p → length d ≡ length p
unfolding AreBounds
bounds_long [] [] h = refl
bounds_long [] (p ∷ ps) h = absurd h
bounds_long (d ∷ ds) [] h = absurd h
bounds_long (d ∷ ds) (p ∷ ps) h = let same = bounds_long ds ps h.1 in omega arith

pub length-answers_of : (d p : List Bool) → length d ≡ length p → length (answers_of d p) ≡ length d
unfolding answers_of
length-answers_of [] [] h = refl
length-answers_of [] (p ∷ ps) h = refl
length-answers_of (d ∷ ds) [] h = absurd (omega arith)
length-answers_of (d ∷ ds) (p ∷ ps) h = let same = length-answers_of ds ps (omega arith) in omega arith

yes_here : (d p : Bool) → is_yes (answer_of d p) ≡ d
yes_here true p = refl
yes_here false true = refl
yes_here false false = refl

possible_here : (d p : Bool) → (d ≡ true → p ≡ true) → is_possible (answer_of d p) ≡ p
possible_here true p h = sym (h refl)
possible_here false true h = refl
possible_here false false h = refl

pub yes_rows : (d p : List Bool) → AreBounds d p → map is_yes (answers_of d p) ≡ d
unfolding AreBounds answers_of
yes_rows [] [] h = refl
yes_rows [] (p ∷ ps) h = absurd h
yes_rows (d ∷ ds) [] h = absurd h
yes_rows (d ∷ ds) (p ∷ ps) h = rw (yes_here d p, yes_rows ds ps h.1) refl

pub possible_rows : (d p : List Bool) → AreBounds d p → map is_possible (answers_of d p) ≡ p
unfolding AreBounds answers_of
possible_rows [] [] h = refl
possible_rows [] (p ∷ ps) h = absurd h
possible_rows (d ∷ ds) [] h = absurd h
possible_rows (d ∷ ds) (p ∷ ps) h =
    let here = possible_here d p h.0 in
    rw (here, possible_rows ds ps h.1) refl

answer_back : (x : Three) → answer_of (is_yes x) (is_possible x) ≡ x
answer_back Yes = refl
answer_back No = refl
answer_back Unknown = refl

yes_possible : (x : Three) → is_yes x ≡ true → is_possible x ≡ true
yes_possible Yes h = refl
yes_possible No h = absurd cc
yes_possible Unknown h = refl

answers_back : (xs : List Three) → answers_of (map is_yes xs) (map is_possible xs) ≡ xs
unfolding answers_of
answers_back [] = refl
answers_back (x ∷ xs) = rw (answer_back x, answers_back xs) refl

bounds_back : (xs : List Three) → AreBounds (map is_yes xs) (map is_possible xs)
unfolding AreBounds
bounds_back [] = tt
bounds_back (x ∷ xs) = (yes_possible x, bounds_back xs)

-- two vectors that have the rows of some answers keep these
pub kept_answers : (d p : List Bool) (xs : List Three) → d ≡ map is_yes xs → p ≡ map is_possible xs → answers_of d p ≡ xs
kept_answers d p xs h k = rw (h, k) (answers_back xs)

pub kept_bounds : (d p : List Bool) (xs : List Three) → d ≡ map is_yes xs → p ≡ map is_possible xs → AreBounds d p
kept_bounds d p xs h k = rw (h, k) (bounds_back xs)

pub answers_of_same : (d : List Bool) → answers_of d d ≡ map decided d
unfolding answers_of
answers_of_same [] = refl
answers_of_same (true ∷ d) = ap (λ l. Yes ∷ l) (answers_of_same d)
answers_of_same (false ∷ d) = ap (λ l. No ∷ l) (answers_of_same d)

pub bounds_same : (d : List Bool) → AreBounds d d
unfolding AreBounds
bounds_same [] = tt
bounds_same (x ∷ d) = (λ h. h, bounds_same d)

-- one vector, where the rows that are Yes and those that aren't No are the same
pub known_answers : (d : List Bool) (xs : List Three) → d ≡ map is_yes xs → d ≡ map is_possible xs → map decided d ≡ xs
known_answers d xs h k = sym (answers_of_same d) ∙ kept_answers d d xs h k

-- ---- the rows that are Unknown

unknown_here : (x : Three) → and_not (is_possible x) (is_yes x) ≡ is_unknown x
unknown_here Yes = refl
unknown_here No = refl
unknown_here Unknown = refl

unknown_back : (xs : List Three) → each_place and_not (map is_possible xs) (map is_yes xs) ≡ map is_unknown xs
unfolding each_place
unknown_back [] = refl
unknown_back (x ∷ xs) = rw (unknown_here x, unknown_back xs) refl

none_alone : (b : Bool) → and_not b b ≡ false
none_alone true = refl
none_alone false = refl

none_left : (d : List Bool) → each_place and_not d d ≡ replicate (length d) false
unfolding each_place
none_left [] = refl
none_left (x ∷ d) = rw (none_alone x, none_left d) refl

-- no row, where the rows that are Yes and those that aren't No are the same
pub unknown_none : (xs : List Three) (n : ℕ) → map is_possible xs ≡ map is_yes xs → n ≡ length xs → replicate n false ≡ map is_unknown xs
unknown_none xs n same e =
    let long : n ≡ length (map is_yes xs) = e ∙ sym (length-map xs is_yes) in
    ap (λ k. replicate k false) long ∙ sym (none_left (map is_yes xs)) ∙ ap (λ l. each_place and_not l (map is_yes xs)) (sym same) ∙ unknown_back xs

pub unknown_rows_of : (v p d : List Bool) (xs : List Three) → v ≡ each_place and_not p d → p ≡ map is_possible xs → d ≡ map is_yes xs → v ≡ map is_unknown xs
unknown_rows_of v p d xs e h k = e ∙ ap (λ l. each_place and_not l d) h ∙ ap (each_place and_not (map is_possible xs)) k ∙ unknown_back xs

-- ---- Yes, else Unknown

or_bounds : (d u : List Bool) → length d ≡ length u → AreBounds d (each_place or d u)
unfolding AreBounds each_place
or_bounds [] u h = tt
or_bounds (d ∷ ds) [] h = absurd (omega arith)
or_bounds (true ∷ ds) (u ∷ us) h = (λ e. refl, or_bounds ds us (omega arith))
or_bounds (false ∷ ds) (u ∷ us) h = (λ e. absurd cc, or_bounds ds us (omega arith))

or_answers : (d u : List Bool) → length d ≡ length u → answers_of d (each_place or d u) ≡ answers_of d u
unfolding answers_of each_place
or_answers [] u h = refl
or_answers (d ∷ ds) [] h = absurd (omega arith)
or_answers (true ∷ ds) (u ∷ us) h = ap (λ l. Yes ∷ l) (or_answers ds us (omega arith))
or_answers (false ∷ ds) (u ∷ us) h = ap (λ l. answer_of false u ∷ l) (or_answers ds us (omega arith))

pub or_bounds_of : (d u p : List Bool) → length d ≡ length u → p ≡ each_place or d u → AreBounds d p
or_bounds_of d u p h e = rw e (or_bounds d u h)

pub or_answers_of : (d u p : List Bool) → length d ≡ length u → p ≡ each_place or d u → answers_of d p ≡ answers_of d u
or_answers_of d u p h e = rw e (or_answers d u h)

pub decided_all : (n : ℕ) (b : Bool) → map decided (replicate n b) ≡ replicate n (decided b)
decided_all zero b = refl
decided_all (suc n) b = ap (λ l. decided b ∷ l) (decided_all n b)

-- ---- Unknown on some rows, and No on the others

undecided_bounds : (n : ℕ) (v : List Bool) → n ≡ length v → AreBounds (replicate n false) v
unfolding AreBounds
undecided_bounds zero [] h = tt
undecided_bounds zero (b ∷ v) h = absurd (omega arith)
undecided_bounds (suc n) [] h = absurd (omega arith)
undecided_bounds (suc n) (b ∷ v) h = (λ e. absurd cc, undecided_bounds n v (omega arith))

undecided_answers : (n : ℕ) (v : List Bool) → n ≡ length v → answers_of (replicate n false) v ≡ map undecided v
unfolding answers_of
undecided_answers zero [] h = refl
undecided_answers zero (b ∷ v) h = absurd (omega arith)
undecided_answers (suc n) [] h = absurd (omega arith)
undecided_answers (suc n) (true ∷ v) h = ap (λ l. Unknown ∷ l) (undecided_answers n v (omega arith))
undecided_answers (suc n) (false ∷ v) h = ap (λ l. No ∷ l) (undecided_answers n v (omega arith))

pub undecided_bounds_of : (d v : List Bool) (n : ℕ) → d ≡ replicate n false → n ≡ length v → AreBounds d v
undecided_bounds_of d v n e h = rw e (undecided_bounds n v h)

pub undecided_answers_of : (d v : List Bool) (n : ℕ) → d ≡ replicate n false → n ≡ length v → answers_of d v ≡ map undecided v
undecided_answers_of d v n e h = rw e (undecided_answers n v h)

-- ---- two lists of answers

pub length-rowwise : (table : Three → Three → Three) (xs ys : List Three) → length xs ≡ length ys → length (rowwise table xs ys) ≡ length xs
unfolding rowwise
length-rowwise table [] ys h = refl
length-rowwise table (x ∷ xs) [] h = absurd (omega arith)
length-rowwise table (x ∷ xs) (y ∷ ys) h = let same = length-rowwise table xs ys (omega arith) in omega arith

pub each-rowwise : (op : Bool → Bool → Bool) (f : Three → Bool) (table : Three → Three → Three) → ((x y : Three) → f (table x y) ≡ op (f x) (f y)) → (xs ys : List Three) → each_place op (map f xs) (map f ys) ≡ map f (rowwise table xs ys)
unfolding each_place rowwise
each-rowwise op f table h [] ys = refl
each-rowwise op f table h (x ∷ xs) [] = refl
each-rowwise op f table h (x ∷ xs) (y ∷ ys) = rw (h x y, each-rowwise op f table h xs ys) refl

pub either-rowwise : (f g : Three → Bool) → ((x y : Three) → f (three_xor x y) ≡ or (and_not (f x) (g y)) (and_not (f y) (g x))) → (xs ys : List Three) → each_place or (each_place and_not (map f xs) (map g ys)) (each_place and_not (map f ys) (map g xs)) ≡ map f (rowwise three_xor xs ys)
unfolding each_place rowwise
either-rowwise f g h [] ys = refl
either-rowwise f g h (x ∷ xs) [] = refl
either-rowwise f g h (x ∷ xs) (y ∷ ys) = rw (h x y, either-rowwise f g h xs ys) refl

xor-decided : (d e : List Bool) → map decided (each_place xor d e) ≡ rowwise three_xor (map decided d) (map decided e)
unfolding each_place rowwise
xor-decided [] e = refl
xor-decided (x ∷ d) [] = refl
xor-decided (x ∷ d) (y ∷ e) = rw (xor_decided x y, xor-decided d e) refl

-- what is known of both is known of either alone
pub xor_known : (xs ys : List Three) → map is_possible xs ≡ map is_yes xs → map is_possible ys ≡ map is_yes ys → map decided (each_place xor (map is_yes xs) (map is_yes ys)) ≡ rowwise three_xor xs ys
xor_known xs ys h k =
    let first : map decided (map is_yes xs) ≡ xs = known_answers (map is_yes xs) xs refl (sym h) in
    let second : map decided (map is_yes ys) ≡ ys = known_answers (map is_yes ys) ys refl (sym k) in
    xor-decided (map is_yes xs) (map is_yes ys) ∙ ap (λ l. rowwise three_xor l (map decided (map is_yes ys))) first ∙ ap (rowwise three_xor xs) second

not_rows : (f g : Three → Bool) → ((x : Three) → f (three_not x) ≡ not (g x)) → (xs : List Three) → map not (map g xs) ≡ map f (map three_not xs)
not_rows f g h [] = refl
not_rows f g h (x ∷ xs) = rw (h x, not_rows f g h xs) refl

pub not_yes_rows : (xs : List Three) → map not (map is_possible xs) ≡ map is_yes (map three_not xs)
not_yes_rows xs = not_rows is_yes is_possible not_definite xs

pub not_possible_rows : (xs : List Three) → map not (map is_yes xs) ≡ map is_possible (map three_not xs)
not_possible_rows xs = not_rows is_possible is_yes not_possible xs

-- ---- rows

pub rowwise-each : (table : Three → Three → Three) (f g : ℕ → Three) (rows : List ℕ) → rowwise table (map f rows) (map g rows) ≡ map (λ row. table (f row) (g row)) rows
unfolding rowwise
rowwise-each table f g [] = refl
rowwise-each table f g (row ∷ rows) = ap (λ l. table (f row) (g row) ∷ l) (rowwise-each table f g rows)

pub map-each : {X Y : Type 0} (h : X → Y) (f : ℕ → X) (rows : List ℕ) → map h (map f rows) ≡ map (λ row. h (f row)) rows
map-each h f [] = refl
map-each h f (row ∷ rows) = ap (λ l. h (f row) ∷ l) (map-each h f rows)

same_each : {X : Type 0} (x : X) (rows : List ℕ) → replicate (length rows) x ≡ map (λ row. x) rows
same_each x [] = refl
same_each x (row ∷ rows) = ap (λ l. x ∷ l) (same_each x rows)

pub uniform_rows : {X : Type 0} (x : X) (rows : ℕ) → replicate rows x ≡ each_row rows (λ row. x)
uniform_rows x rows = ap (λ n. replicate n x) (sym (length-range_with_len 0 rows)) ∙ same_each x (range_with_len 0 rows)

-- ---- what is kept of answers

pub yes_kept : (d : List Bool) (o : Option (List Bool)) (xs : List Three) → AreBounds d (possible_of d o) → answers_of d (possible_of d o) ≡ xs → d ≡ map is_yes xs
yes_kept d o xs h e = sym (yes_rows d (possible_of d o) h) ∙ ap (map is_yes) e

pub possible_kept : (d : List Bool) (o : Option (List Bool)) (xs : List Three) → AreBounds d (possible_of d o) → answers_of d (possible_of d o) ≡ xs → possible_of d o ≡ map is_possible xs
possible_kept d o xs h e = sym (possible_rows d (possible_of d o) h) ∙ ap (map is_possible) e

pub known_kept : (d : List Bool) (o : Option (List Bool)) (xs : List Three) (none : Bool) → AreBounds d (possible_of d o) → answers_of d (possible_of d o) ≡ xs → is_some o ≡ not none → none ≡ true → map is_possible xs ≡ map is_yes xs
known_kept d None xs none h e same is = sym (possible_kept d None xs h e) ∙ yes_kept d None xs h e
known_kept d (Some p) xs none h e same is = let wrong : true ≡ not true = same ∙ ap not is in absurd cc

pub length_kept : (d : List Bool) (o : Option (List Bool)) (xs : List Three) → AreBounds d (possible_of d o) → answers_of d (possible_of d o) ≡ xs → length d ≡ length xs
length_kept d o xs h e = ap length (yes_kept d o xs h e) ∙ length-map xs is_yes

-- ---- the bounds of two joined parts

pub joined_bound : (op : Bool → Bool → Bool) (f : Three → Bool) (table : Three → Three → Three) → ((x y : Three) → f (table x y) ≡ op (f x) (f y)) → (v p q : List Bool) (xs ys : List Three) → v ≡ each_place op p q → p ≡ map f xs → q ≡ map f ys → v ≡ map f (rowwise table xs ys)
joined_bound op f table acts v p q xs ys e h k = e ∙ ap (λ l. each_place op l q) h ∙ ap (each_place op (map f xs)) k ∙ each-rowwise op f table acts xs ys

pub either_bound : (f g : Three → Bool) → ((x y : Three) → f (three_xor x y) ≡ or (and_not (f x) (g y)) (and_not (f y) (g x))) → (v p q r s : List Bool) (xs ys : List Three) → v ≡ each_place or (each_place and_not p q) (each_place and_not r s) → p ≡ map f xs → q ≡ map g ys → r ≡ map f ys → s ≡ map g xs → v ≡ map f (rowwise three_xor xs ys)
either_bound f g acts v p q r s xs ys e hp hq hr hs = e ∙ rw (hp, hq, hr, hs) (either-rowwise f g acts xs ys)

pub xor_answers : (v p q : List Bool) (xs ys : List Three) → v ≡ each_place xor p q → p ≡ map is_yes xs → q ≡ map is_yes ys → map is_possible xs ≡ map is_yes xs → map is_possible ys ≡ map is_yes ys → map decided v ≡ rowwise three_xor xs ys
xor_answers v p q xs ys e h k same also = rw (e, h, k) (xor_known xs ys same also)

-- ---- vectors of one value

pub fill_nothing : (b : Bool) (n : ℕ) → n ≤ 0 → [] ≡ replicate (31 * n) b
fill_nothing b zero h = refl
fill_nothing b (suc n) h = absurd (omega arith)

pub rest_nothing : (b : Bool) (v : List Bool) (count : ℕ) → count ≤ 0 → v ≡ v ++ replicate count b
rest_nothing b v zero h = sym (append-nil v)
rest_nothing b v (suc count) h = absurd (omega arith)

pub fills_all : (b : Bool) (len : ℕ) → replicate (31 * (len / 31)) b ++ replicate (len % 31) b ≡ replicate len b
fills_all b len =
    let e : 31 * (len / 31) + len % 31 ≡ len = omega arith in
    replicate-append-replicate (31 * (len / 31)) (len % 31) b ∙ ap (λ n. replicate n b) e

pub shifted_one : (count : ℕ) → count < 31 → 1 * 2 ^ count % 4294967296 ≡ 2 ^ count
shifted_one count few =
    let few' : count ≤ 31 = omega arith in
    let most : 2 ^ count ≤ 2 ^ 31 = pow_mono few' in
    omega arith

pub power_some : (count : ℕ) → 1 ≤ 2 ^ count
power_some count =
    let above : 0 ≤ count = omega arith in
    let least : 2 ^ 0 ≤ 2 ^ count = pow_mono above in
    omega arith
