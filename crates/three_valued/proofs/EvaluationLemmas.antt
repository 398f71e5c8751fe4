-- The walk over the parts of a plan, with the answers of their conditions in one list.
use Rattle.std.proofs.Common.{◌≡◌, ℕ, zero, suc, ◌+◌, ◌*◌, ◌<◌, ◌≤◌, List, [], ◌∷◌, ◌++◌, length, map, take, drop, get_or, ◌-◌, replicate, Result, Ok, Err, IfOk, drop-cons, add-one, refl, sym, ap, ◌∙◌, subst, arith, append_assoc, length-append}
use Rattle.std.specs.List.{flat_map, range_with_len}
use Rattle.std.proofs.lemmas.List.{drop-drop, length-map, map-append}
use Rattle.std.proofs.lemmas.List.FromFn.{length-map-range_with_len, length-range_with_len}
use Rattle.binning.specs.declared.against_bins.Three.{Three}
use Rattle.binning.specs.declared.against_bins.Three.TheVariants.{Yes, No, Unknown}
use Rattle.where_plan.specs.declared.plan.PlanAtom.{PlanAtom}
use Rattle.where_plan.specs.declared.plan.Plan.{Plan}
use Rattle.where_plan.specs.declared.plan.Plan.TheVariants as plan
use Rattle.three_valued.specs.declared.connectives.Join.{Join}
use Rattle.three_valued.specs.declared.connectives.Join.TheVariants as join
use Rattle.three_valued.specs.Tables.{joined, joins, three_not, unit}
use Rattle.three_valued.specs.Plans.{atoms_of, parts_in, parts_of, three}
use Rattle.three_valued.specs.declared.evaluation.Held.{Held}
use Rattle.three_valued.specs.Held.{held_answers}
use Rattle.three_valued.specs.Rows.{columns, each_row, rowwise}
use Rattle.three_valued.proofs.TableLemmas.{joins_assoc, joins_unit}
use Rattle.three_valued.proofs.RowLemmas.{map-each, rowwise-each, uniform_rows}
use Rattle.three_valued.proofs.PlanLemmas.{atoms_of-all, atoms_of-and, atoms_of-not, atoms_of-one, atoms_of-or, atoms_of-xor, parts_of-and, parts_of-not, parts_of-or, parts_of-xor, three-all, three-and, three-not, three-one, three-or, three-xor}

-- ---- the answers from the cursor on

pub length-columns : (rows : ℕ) (answer : ℕ → PlanAtom → Three) (atoms : List PlanAtom) → length (columns rows answer atoms) ≡ length atoms
length-columns rows answer atoms = length-map atoms (λ atom. each_row rows (λ row. answer row atom))

drop_front : {X : Type 0} (xs ys : List X) → drop (length xs) (xs ++ ys) ≡ ys
drop_front [] ys = refl
drop_front (x ∷ xs) ys = drop_front xs ys

drop_twice : {X : Type 0} (m n : ℕ) (xs : List X) → drop (m + n) xs ≡ drop n (drop m xs)
drop_twice m n xs = sym (drop-drop n m xs)

-- the answers of the first conditions, and of those behind them
pub cut_front : (rows : ℕ) (answers : List (List Three)) (next : ℕ) (answer : ℕ → PlanAtom → Three) (atoms others : List PlanAtom) (more : List (List Three)) → drop next answers ≡ columns rows answer (atoms ++ others) ++ more → (drop next answers ≡ columns rows answer atoms ++ (columns rows answer others ++ more)) × (drop (next + length atoms) answers ≡ columns rows answer others ++ more)
cut_front rows answers next answer atoms others more e =
    let column = λ (atom : PlanAtom). each_row rows (λ row. answer row atom) in
    let front : drop next answers ≡ columns rows answer atoms ++ (columns rows answer others ++ more) = e ∙ ap (λ l. l ++ more) (map-append column atoms others) ∙ append_assoc (columns rows answer atoms) (columns rows answer others) more in
    let back : drop (next + length atoms) answers ≡ columns rows answer others ++ more =
    drop_twice next (length atoms) answers ∙ ap (drop (length atoms)) front ∙ ap (λ n. drop n (columns rows answer atoms ++ (columns rows answer others ++ more))) (sym (length-columns rows answer atoms)) ∙ drop_front (columns rows answer atoms) (columns rows answer others ++ more) in
    (front, back)

-- ---- parts joined so far, and parts still to come

rowwise-assoc : (join : Join) (xs ys zs : List Three) → rowwise (joins join) (rowwise (joins join) xs ys) zs ≡ rowwise (joins join) xs (rowwise (joins join) ys zs)
unfolding rowwise
rowwise-assoc join [] ys zs = refl
rowwise-assoc join (x ∷ xs) [] zs = refl
rowwise-assoc join (x ∷ xs) (y ∷ ys) [] = refl
rowwise-assoc join (x ∷ xs) (y ∷ ys) (z ∷ zs) = rw (joins_assoc join x y z, rowwise-assoc join xs ys zs) refl

rowwise-unit : (join : Join) (xs : List Three) (rows : List ℕ) → length xs ≡ length rows → rowwise (joins join) xs (map (λ row. unit join) rows) ≡ xs
unfolding rowwise
rowwise-unit join [] rows h = refl
rowwise-unit join (x ∷ xs) [] h = absurd (omega arith)
rowwise-unit join (x ∷ xs) (row ∷ rows) h = rw (joins_unit join x, rowwise-unit join xs rows (omega arith)) refl

-- the plan's answers on each row
abbrev pub plan_rows : ℕ → (ℕ → PlanAtom → Three) → Plan → List Three
plan_rows rows answer p = each_row rows (λ row. three (answer row) p)

abbrev pub joined_rows : Join → ℕ → (ℕ → PlanAtom → Three) → List Plan → List Three
joined_rows join rows answer parts = each_row rows (λ row. joined join (map (three (answer row)) parts))

joined_more : (join : Join) (rows : ℕ) (answer : ℕ → PlanAtom → Three) (part : Plan) (parts : List Plan) → rowwise (joins join) (plan_rows rows answer part) (joined_rows join rows answer parts) ≡ joined_rows join rows answer (part ∷ parts)
unfolding joined
joined_more join rows answer part parts = rowwise-each (joins join) (λ row. three (answer row) part) (λ row. joined join (map (three (answer row)) parts)) (range_with_len 0 rows)

-- What is held and the parts still to come make all parts, which began at the cursor `start`.
pub record HoldsParts (join : Join) (rows : ℕ) (answers : List (List Three)) (start : ℕ) (parts : List Plan) (held : List Three) (next : ℕ) (rest : List Plan) : Type 0 where
  pub cursor : next + length (flat_map atoms_of rest) ≡ start + length (flat_map atoms_of parts)
  pub long : length held ≡ rows
  pub values : (answer : ℕ → PlanAtom → Three) (more : List (List Three)) → drop start answers ≡ columns rows answer (flat_map atoms_of parts) ++ more → (drop next answers ≡ columns rows answer (flat_map atoms_of rest) ++ more) × (rowwise (joins join) held (joined_rows join rows answer rest) ≡ joined_rows join rows answer parts)

pub first_part : (join : Join) (rows : ℕ) (answers : List (List Three)) (start : ℕ) (parts : List Plan) (held : List Three) (next : ℕ) (first : Plan) (rest : List Plan) → parts ≡ first ∷ rest → next ≡ start + length (atoms_of first) → length held ≡ rows → ((answer : ℕ → PlanAtom → Three) (more : List (List Three)) → drop start answers ≡ columns rows answer (atoms_of first) ++ more → held ≡ plan_rows rows answer first) → HoldsParts join rows answers start parts held next rest
first_part join rows answers start parts held next first rest e moved long says =
    subst (λ (l : List Plan). HoldsParts join rows answers start l held next rest) (sym e) (record {
      cursor = omega (arith, moved, length-append (atoms_of first) (flat_map atoms_of rest));
      long = long;
      values = λ answer more told.
          let cut = cut_front rows answers start answer (atoms_of first) (flat_map atoms_of rest) more told in
          let is : held ≡ plan_rows rows answer first = says answer (columns rows answer (flat_map atoms_of rest) ++ more) cut.0 in
          (ap (λ n. drop n answers) moved ∙ cut.1, ap (λ l. rowwise (joins join) l (joined_rows join rows answer rest)) is ∙ joined_more join rows answer first rest);
    })

pub next_part : (join : Join) (rows : ℕ) (answers : List (List Three)) (start : ℕ) (parts : List Plan) (held made : List Three) (next after : ℕ) (part : Plan) (rest : List Plan) → HoldsParts join rows answers start parts held next (part ∷ rest) → after ≡ next + length (atoms_of part) → length made ≡ rows → ((answer : ℕ → PlanAtom → Three) (more : List (List Three)) → drop next answers ≡ columns rows answer (atoms_of part) ++ more → made ≡ rowwise (joins join) held (plan_rows rows answer part)) → HoldsParts join rows answers start parts made after rest
next_part join rows answers start parts held made next after part rest before moved long says = record {
  cursor = omega (arith, before.cursor, moved, length-append (atoms_of part) (flat_map atoms_of rest));
  long = long;
  values = λ answer more told.
      let both = before.values answer more told in
      let cut = cut_front rows answers next answer (atoms_of part) (flat_map atoms_of rest) more both.0 in
      let is : made ≡ rowwise (joins join) held (plan_rows rows answer part) = says answer (columns rows answer (flat_map atoms_of rest) ++ more) cut.0 in (
        ap (λ n. drop n answers) moved ∙ cut.1,
        ap (λ l. rowwise (joins join) l (joined_rows join rows answer rest)) is
            ∙ rowwise-assoc join held (plan_rows rows answer part) (joined_rows join rows answer rest)
            ∙ ap (rowwise (joins join) held) (joined_more join rows answer part rest)
            ∙ both.1,
      );
}

pub no_more_parts : (join : Join) (rows : ℕ) (answers : List (List Three)) (start : ℕ) (parts : List Plan) (held : List Three) (next : ℕ) (rest : List Plan) → rest ≡ [] → HoldsParts join rows answers start parts held next rest → (next ≡ start + length (flat_map atoms_of parts)) × ((answer : ℕ → PlanAtom → Three) (more : List (List Three)) → drop start answers ≡ columns rows answer (flat_map atoms_of parts) ++ more → held ≡ joined_rows join rows answer parts)
unfolding joined
no_more_parts join rows answers start parts held next rest e before =
    let last : HoldsParts join rows answers start parts held next [] = subst (λ (l : List Plan). HoldsParts join rows answers start parts held next l) e before in (
      omega (arith, last.cursor),
      λ answer more told.
          sym (rowwise-unit join held (range_with_len 0 rows) (last.long ∙ sym (length-range_with_len 0 rows))) ∙ (last.values answer more told).1,
    )

-- ---- steps

pub cost_first : (g s t a b : ℕ) → t ≤ s + 2 * g * (6 * a) → t + 2 * g * (6 * b) ≤ s + 2 * g * (6 * (1 + a + b))
cost_first g s t a b h =
    let z : 2 * g * (6 * (1 + a + b)) ≡ 2 * g * (6 * a) + 2 * g * (6 * b) + 12 * g = grind arith in
    omega (arith, h, z)

pub cost_next : (g s t u a b c : ℕ) → t + 2 * g * (6 * (1 + a + b)) ≤ s + 2 * g * (6 * c) → u ≤ t + 2 * g * (6 * (1 + a)) → u + 2 * g * (6 * b) ≤ s + 2 * g * (6 * c)
cost_next g s t u a b c h k =
    let z : 2 * g * (6 * (1 + a + b)) ≡ 2 * g * (6 * (1 + a)) + 2 * g * (6 * b) = grind arith in
    omega (arith, h, k, z)

pub cost_joined : (g s t u a : ℕ) → t ≤ s + 2 * g * (6 * a) → u ≤ t + 12 * g → u ≤ s + 2 * g * (6 * (1 + a))
cost_joined g s t u a h k =
    let z : 2 * g * (6 * (1 + a)) ≡ 2 * g * (6 * a) + 12 * g = grind arith in
    omega (arith, h, k, z)

-- ---- plans of joined parts

-- the plan joins these parts
pub record IsGroup (join : Join) (parts : List Plan) (p : Plan) : Type 0 where
  pub atoms : atoms_of p ≡ flat_map atoms_of parts
  pub size : parts_of p ≡ parts_in parts
  pub answers : (answer : PlanAtom → Three) → three answer p ≡ joined join (map (three answer) parts)

pub or_group : (p : Plan) (parts slice : List Plan) → p ≡ plan.Or parts → slice ≡ parts → IsGroup join.Or slice p
or_group p parts slice e h = rw (e, h) (record { atoms = atoms_of-or parts; size = parts_of-or parts; answers = λ answer. three-or answer parts })

pub xor_group : (p : Plan) (parts slice : List Plan) → p ≡ plan.Xor parts → slice ≡ parts → IsGroup join.Xor slice p
xor_group p parts slice e h = rw (e, h) (record { atoms = atoms_of-xor parts; size = parts_of-xor parts; answers = λ answer. three-xor answer parts })

pub and_group : (p : Plan) (parts slice : List Plan) → p ≡ plan.And parts → slice ≡ parts → IsGroup join.And slice p
and_group p parts slice e h = rw (e, h) (record { atoms = atoms_of-and parts; size = parts_of-and parts; answers = λ answer. three-and answer parts })

-- what is said of the parts is said of the plan
pub group_says : (join : Join) (parts : List Plan) (p : Plan) (rows : ℕ) (answers : List (List Three)) (start : ℕ) (held : List Three) → IsGroup join parts p → ((answer : ℕ → PlanAtom → Three) (more : List (List Three)) → drop start answers ≡ columns rows answer (flat_map atoms_of parts) ++ more → held ≡ joined_rows join rows answer parts) → (answer : ℕ → PlanAtom → Three) (more : List (List Three)) → drop start answers ≡ columns rows answer (atoms_of p) ++ more → held ≡ plan_rows rows answer p
group_says join parts p rows answers start held group says answer more told =
    says answer more (told ∙ ap (λ l. columns rows answer l ++ more) group.atoms)
    ∙ same_rows (λ row. joined join (map (three (answer row)) parts)) (λ row. three (answer row) p) (λ row. sym (group.answers (answer row))) (range_with_len 0 rows)
  where
    same_rows : (f g : ℕ → Three) → ((row : ℕ) → f row ≡ g row) → (l : List ℕ) → map f l ≡ map g l
    same_rows f g h [] = refl
    same_rows f g h (row ∷ l) = rw (h row, same_rows f g h l) refl

pub group_answers : {E : Type 0} (r : Result Held E) (join : Join) (parts : List Plan) (p : Plan) (rows : ℕ) (answers : List (List Three)) (start : ℕ) → IsGroup join parts p → IfOk r (λ held. (answer : ℕ → PlanAtom → Three) (more : List (List Three)) → drop start answers ≡ columns rows answer (flat_map atoms_of parts) ++ more → held_answers held ≡ joined_rows join rows answer parts) → IfOk r (λ held. (answer : ℕ → PlanAtom → Three) (more : List (List Three)) → drop start answers ≡ columns rows answer (atoms_of p) ++ more → held_answers held ≡ plan_rows rows answer p)
group_answers (Ok held) join parts p rows answers start group says = group_says join parts p rows answers start (held_answers held) group says
group_answers (Err e) join parts p rows answers start group says = tt

-- ---- the other plans

same_rows : (f g : ℕ → Three) → ((row : ℕ) → f row ≡ g row) → (l : List ℕ) → map f l ≡ map g l
same_rows f g h [] = refl
same_rows f g h (row ∷ l) = rw (h row, same_rows f g h l) refl

pub all_says : (p : Plan) (rows : ℕ) (answer : ℕ → PlanAtom → Three) → p ≡ plan.All → replicate rows Yes ≡ plan_rows rows answer p
all_says p rows answer e = uniform_rows Yes rows ∙ same_rows (λ row. Yes) (λ row. three (answer row) p) (λ row. sym (ap (three (answer row)) e ∙ three-all (answer row))) (range_with_len 0 rows)

pub none_says : (join : Join) (parts : List Plan) (rows : ℕ) (answer : ℕ → PlanAtom → Three) → length parts < 1 → replicate rows (unit join) ≡ joined_rows join rows answer parts
unfolding joined
none_says join [] rows answer h = uniform_rows (unit join) rows
none_says join (part ∷ parts) rows answer h = absurd (omega arith)

pub all_atoms : (p : Plan) → p ≡ plan.All → length (atoms_of p) ≡ 0
all_atoms p e = ap (λ q. length (atoms_of q)) e ∙ ap length atoms_of-all

pub none_atoms : (parts : List Plan) → length parts < 1 → length (flat_map atoms_of parts) ≡ 0
none_atoms [] h = refl
none_atoms (part ∷ parts) h = absurd (omega arith)

pub one_atoms : (p : Plan) (atom : PlanAtom) → p ≡ plan.One atom → length (atoms_of p) ≡ 1
one_atoms p atom e = ap (λ q. length (atoms_of q)) e ∙ ap length (atoms_of-one atom)

-- the plan turns this one
pub record IsTurned (part p : Plan) : Type 0 where
  pub atoms : atoms_of p ≡ atoms_of part
  pub size : parts_of p ≡ 1 + parts_of part
  pub answers : (answer : PlanAtom → Three) → three answer p ≡ three_not (three answer part)

pub turned : (p part held : Plan) → p ≡ plan.Not part → held ≡ part → IsTurned held p
turned p part held e h = rw (e, h) (record { atoms = atoms_of-not part; size = parts_of-not part; answers = λ answer. three-not answer part })

pub turned_says : (part p : Plan) (rows : ℕ) (answer : ℕ → PlanAtom → Three) (held : List Three) → IsTurned part p → held ≡ plan_rows rows answer part → map three_not held ≡ plan_rows rows answer p
turned_says part p rows answer held is e =
    ap (map three_not) e
    ∙ map-each three_not (λ row. three (answer row) part) (range_with_len 0 rows)
    ∙ same_rows (λ row. three_not (three (answer row) part)) (λ row. three (answer row) p) (λ row. sym (is.answers (answer row))) (range_with_len 0 rows)

pub one_says : (p : Plan) (atom : PlanAtom) (rows : ℕ) (answers : List (List Three)) (next : ℕ) (held : List Three) (answer : ℕ → PlanAtom → Three) (more : List (List Three)) → p ≡ plan.One atom → next < length answers → held ≡ get_or answers next held → drop next answers ≡ columns rows answer (atoms_of p) ++ more → held ≡ plan_rows rows answer p
one_says p atom rows answers next held answer more e below is told =
    let column = each_row rows (λ row. answer row atom) in
    let cut : drop next answers ≡ get_or answers next held ∷ drop (suc next) answers = drop-cons answers next held below in
    let atoms : atoms_of p ≡ atom ∷ [] = ap atoms_of e ∙ atoms_of-one atom in
    let both : get_or answers next held ∷ drop (suc next) answers ≡ column ∷ more = sym cut ∙ told ∙ ap (λ l. columns rows answer l ++ more) atoms in
    let first : get_or answers next held ≡ column = cc in
    is ∙ first ∙ same_rows (λ row. answer row atom) (λ row. three (answer row) p) (λ row. sym (ap (three (answer row)) e ∙ three-one (answer row) atom)) (range_with_len 0 rows)

take_whole : (xs : List Plan) → take (length xs) xs ≡ xs
take_whole [] = refl
take_whole (x ∷ xs) = ap (λ l. x ∷ l) (take_whole xs)

pub first_and_rest : (parts : List Plan) (first : Plan) → 1 ≤ length parts → first ≡ get_or parts 0 first → parts ≡ first ∷ take (length parts - 1) (drop 1 parts)
first_and_rest [] first h e = absurd (omega arith)
first_and_rest (part ∷ parts) first h e =
    let long : length (part ∷ parts) - 1 ≡ length parts = omega arith in
    ap (λ p. p ∷ parts) (sym e) ∙ ap (λ l. first ∷ l) (sym (take_whole parts) ∙ ap (λ n. take n parts) (sym long))

pub rest_cons : (rest : List Plan) (k : ℕ) (part : Plan) → k < length rest → part ≡ get_or rest k part → drop k rest ≡ part ∷ drop (k + 1) rest
rest_cons rest k part below is = rw add-one (drop-cons rest k part below ∙ ap (λ p. p ∷ drop (suc k) rest) (sym is))

pub parts_in-cons : (part : Plan) (parts : List Plan) → parts_in (part ∷ parts) ≡ 1 + parts_of part + parts_in parts
unfolding parts_in
parts_in-cons part parts = refl

pub more_steps : (s x : ℕ) → s ≤ s + x
more_steps s x = omega arith

pub cost_more : (g s t a : ℕ) → t ≤ s + 2 * g * (6 * a) → t ≤ s + 2 * g * (6 * (1 + a))
cost_more g s t a h =
    let z : 2 * g * (6 * (1 + a)) ≡ 2 * g * (6 * a) + 12 * g = grind arith in
    omega (arith, h, z)

pub cost_not : (g s t u a : ℕ) → t ≤ s + 2 * g * (6 * a) → u ≤ t + 2 * g → u ≤ s + 2 * g * (6 * (1 + a))
cost_not g s t u a h k =
    let z : 2 * g * (6 * (1 + a)) ≡ 2 * g * (6 * a) + 12 * g = grind arith in
    omega (arith, h, k, z)

pub part_there : (parts : List Plan) (part : Plan) (more : List Plan) → parts ≡ part ∷ more → length (flat_map atoms_of parts) ≡ length (atoms_of part) + length (flat_map atoms_of more)
part_there parts part more e = ap (λ l. length (flat_map atoms_of l)) e ∙ length-append (atoms_of part) (flat_map atoms_of more)

pub part_size : (parts : List Plan) (part : Plan) (more : List Plan) → parts ≡ part ∷ more → parts_in parts ≡ 1 + parts_of part + parts_in more
part_size parts part more e = ap parts_in e ∙ parts_in-cons part more

nothing_left : (k : ℕ) → drop {A = Plan} k [] ≡ []
nothing_left zero = refl
nothing_left (suc k) = refl

pub drop_over : (k : ℕ) (parts : List Plan) → length parts ≤ k → drop k parts ≡ []
drop_over k [] h = nothing_left k
drop_over zero (part ∷ parts) h = absurd (omega arith)
drop_over (suc k) (part ∷ parts) h = drop_over k parts (omega arith)

pub within_cost : (t x s : ℕ) → t + x ≤ s → t ≤ s
within_cost t x s h = omega arith

-- the parts from the k-th on are fewer
pub size_from : (parts : List Plan) (k : ℕ) → parts_in (drop k parts) ≤ parts_in parts
size_from parts zero = omega arith
size_from [] (suc k) = omega arith
size_from (part ∷ parts) (suc k) = omega (arith, size_from parts k, parts_in-cons part parts)
