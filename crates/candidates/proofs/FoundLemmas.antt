-- Candidates that pass, run by run.
use Rattle.std.proofs.Common.{◌≡◌, ℕ, zero, suc, ◌+◌, ◌-◌, ◌<◌, ◌≤◌, Bool, true, false, List, [], ◌∷◌, ◌++◌, length, get_or, take, drop, map, replicate, refl, sym, ap, ◌∙◌, arith}
use Rattle.std.proofs.Math.Seq.{take-add}
use Rattle.std.proofs.lemmas.List.{drop-drop, drop-map, drop_at, get_or-drop, get_or-replicate, get_or_append_left, length-append, length-drop, length-replicate, length-take-le, take-append-drop, take-map, take_at}
use Rattle.wah_logic.specs.Logic.{and, each_place}
use Rattle.wah_logic.proofs.JoinLemmas.{each_left}

each_take : (op : Bool → Bool → Bool) (n : ℕ) (a b : List Bool) → take n (each_place op a b) ≡ each_place op (take n a) (take n b)
unfolding each_place
each_take op zero a b = refl
each_take op (suc n) [] b = refl
each_take op (suc n) (x ∷ a) [] = refl
each_take op (suc n) (x ∷ a) (y ∷ b) = ap (λ l. op x y ∷ l) (each_take op n a b)

each_drop : (op : Bool → Bool → Bool) (n : ℕ) (a b : List Bool) → length b ≡ length a → drop n (each_place op a b) ≡ each_place op (drop n a) (drop n b)
unfolding each_place
each_drop op zero a b e = refl
each_drop op (suc n) [] b e = refl
each_drop op (suc n) (x ∷ a) [] e = absurd (omega arith)
each_drop op (suc n) (x ∷ a) (y ∷ b) e = each_drop op n a b (omega arith)

each_true : (n : ℕ) (b : List Bool) → length b ≡ n → each_place and (replicate n true) b ≡ b
unfolding each_place
each_true zero [] e = refl
each_true zero (y ∷ b) e = absurd (omega arith)
each_true (suc n) [] e = absurd (omega arith)
each_true (suc n) (y ∷ b) e = ap (λ l. y ∷ l) (each_true n b (omega arith))

-- what is left of a list behind its front
left_over : (c : List Bool) (seen gap many : ℕ) (later : List Bool) → drop seen c ≡ replicate gap false ++ (replicate many true ++ later)
    → drop (seen + gap) c ≡ replicate many true ++ later
left_over c seen gap many later e =
    sym (drop-drop gap seen c) ∙ ap (drop gap) e ∙ drop_at (replicate gap false) (replicate many true ++ later) gap (length-replicate gap false)

pub left_behind : (c : List Bool) (seen gap many : ℕ) (later : List Bool) → drop seen c ≡ replicate gap false ++ (replicate many true ++ later)
    → drop (seen + gap + many) c ≡ later
left_behind c seen gap many later e =
    sym (drop-drop many (seen + gap) c) ∙ ap (drop many) (left_over c seen gap many later e) ∙ drop_at (replicate many true) later many (length-replicate many true)

pub run_fits : (c : List Bool) (seen gap many : ℕ) (later : List Bool) → seen ≤ length c → drop seen c ≡ replicate gap false ++ (replicate many true ++ later)
    → seen + gap + many ≤ length c
run_fits c seen gap many later within e =
    let all = ap length e ∙ length-append (replicate gap false) (replicate many true ++ later) in
    omega (arith, within, all, length-drop seen c, length-replicate gap false, length-append (replicate many true) later, length-replicate many true)

-- each row of a run is true
pub run_true : (c : List Bool) (seen gap many : ℕ) (later : List Bool) (row : ℕ) → drop seen c ≡ replicate gap false ++ (replicate many true ++ later)
    → seen + gap ≤ row → row < seen + gap + many → get_or c row false ≡ true
run_true c seen gap many later row e low high =
    let k : ℕ = row - (seen + gap) in
    let at : seen + gap + k ≡ row = omega (arith, low) in
    let inside : k < many = omega (arith, low, high) in
    let front : k < length (replicate many true) = omega (arith, inside, length-replicate many true) in
    sym (ap (λ i. get_or c i false) at)
    ∙ sym (get_or-drop (seen + gap) c k false)
    ∙ ap (λ l. get_or l k false) (left_over c seen gap many later e)
    ∙ get_or_append_left (replicate many true) later false k front
    ∙ get_or-replicate many k true false inside

-- rows that aren't candidates, and a run of candidates whose tests are these
pub found_more : (c all bits : List Bool) (seen gap many : ℕ) (later : List Bool) → length all ≡ length c → seen ≤ length c
    → drop seen c ≡ replicate gap false ++ (replicate many true ++ later) → bits ≡ take seen (each_place and c all)
    → (bits ++ replicate gap false) ++ take many (drop (seen + gap) all) ≡ take (seen + gap + many) (each_place and c all)
found_more c all bits seen gap many later same within split is =
    let both = each_place and c all in
    let behind = replicate many true ++ later in
    let fits = run_fits c seen gap many later within split in
    let short : length (take gap (drop seen all)) ≡ gap = length-take-le gap (drop seen all) (omega (arith, length-drop seen all, same, fits)) in
    let long : length (take many (drop (seen + gap) all)) ≡ many = length-take-le many (drop (seen + gap) all) (omega (arith, length-drop (seen + gap) all, same, fits)) in
    let zeros : take gap (drop seen both) ≡ replicate gap false =
    ap (take gap) (each_drop and seen c all same)
    ∙ each_take and gap (drop seen c) (drop seen all)
    ∙ ap (λ l. each_place and l (take gap (drop seen all))) (ap (take gap) split ∙ take_at (replicate gap false) behind gap (length-replicate gap false))
    ∙ each_left and false refl gap (take gap (drop seen all)) short in
    let tested : take many (drop (seen + gap) both) ≡ take many (drop (seen + gap) all) =
    ap (take many) (each_drop and (seen + gap) c all same)
    ∙ each_take and many (drop (seen + gap) c) (drop (seen + gap) all)
    ∙ ap (λ l. each_place and l (take many (drop (seen + gap) all)))
    (ap (take many) (left_over c seen gap many later split) ∙ take_at (replicate many true) later many (length-replicate many true))
    ∙ each_true many (take many (drop (seen + gap) all)) long in
    ap (λ l. (l ++ replicate gap false) ++ take many (drop (seen + gap) all)) is
    ∙ ap (λ l. (take seen both ++ l) ++ take many (drop (seen + gap) all)) (sym zeros)
    ∙ ap (λ l. l ++ take many (drop (seen + gap) all)) (sym (take-add seen gap both))
    ∙ ap (λ l. take (seen + gap) both ++ l) (sym tested)
    ∙ sym (take-add (seen + gap) many both)

-- behind the last run no row is a candidate
pub found_last : (c all bits : List Bool) (seen : ℕ) → length all ≡ length c → drop seen c ≡ replicate (length (drop seen c)) false
    → bits ≡ take seen (each_place and c all) → bits ++ replicate (length c - seen) false ≡ each_place and c all
found_last c all bits seen same none is =
    let both = each_place and c all in
    let n : ℕ = length (drop seen c) in
    let count : length c - seen ≡ n = sym (length-drop seen c) in
    let long : length (drop seen all) ≡ n = length-drop seen all ∙ ap (λ k. k - seen) same ∙ count in
    let zeros : drop seen both ≡ replicate n false =
    each_drop and seen c all same ∙ ap (λ l. each_place and l (drop seen all)) none ∙ each_left and false refl n (drop seen all) long in
    ap (λ k. bits ++ replicate k false) count
    ∙ ap (λ l. l ++ replicate n false) is
    ∙ ap (λ l. take seen both ++ l) (sym zeros)
    ∙ take-append-drop seen both

-- tests of a block behind those before it
pub tests_more : (all : List Bool) (first at end : ℕ) → first ≤ at → at ≤ end
    → take (at - first) (drop first all) ++ take (end - at) (drop at all) ≡ take (end - first) (drop first all)
tests_more all first at end low high =
    let a : ℕ = at - first in
    let b : ℕ = end - at in
    let begin : first + a ≡ at = omega (arith, low) in
    let total : a + b ≡ end - first = omega (arith, low, high) in
    ap (λ k. take a (drop first all) ++ take b (drop k all)) (sym begin)
    ∙ ap (λ l. take a (drop first all) ++ take b l) (sym (drop-drop a first all))
    ∙ sym (take-add a b (drop first all))
    ∙ ap (λ n. take n (drop first all)) total

-- the tests of some values are those of their rows
pub tests_of_part : {X : Type 0} (test : X → Bool) (values part : List X) (all : List Bool) (n first : ℕ) → all ≡ map test values → part ≡ take n (drop first values)
    → map test part ≡ take n (drop first all)
tests_of_part test values part all n first e p =
    ap (map test) p ∙ sym (take-map test n (drop first values)) ∙ ap (take n) (sym (drop-map test first values)) ∙ ap (λ l. take n (drop first l)) (sym e)
