-- The bitmaps that a run needs, with and without whole groups.
use Rattle.std.proofs.Common.{◌≡◌, ◌==◌, ℕ, ◌+◌, ◌-◌, ◌*◌, ◌/◌, ◌<◌, ◌≤◌, Bool, true, false, if◌then◌else◌, nat_lt, min, map, List, ◌++◌, refl, sym, ap, ◌∙◌, arith}
use Rattle.std.proofs.lemmas.Bool.Decides.{nat_tests}
use Rattle.std.proofs.lemmas.List.{map-append}
use Rattle.std.specs.Int.{div_ceil}
use Rattle.index_spec.specs.declared.spec.Coarse.{Coarse}
use Rattle.index_spec.specs.Counts.{groups_of}
use Rattle.index_spec.specs.Members.{from_to, coarse_needed, coarse_bitmaps, grouped_needed, two_level_needed}
use Rattle.enc_two_level.specs.declared.groups.Whole.{Whole}
use Rattle.enc_two_level.specs.Whole.{end_group, AreWhole}
use Rattle.enc_two_level.proofs.NumbersLemmas.{shifted_from_to}

-- no whole group: the bitmaps of the run's bins
pub without : (level : Coarse) (m n i j : ℕ) → end_group n (div_ceil n m) (groups_of n m) j ≤ div_ceil i (div_ceil n m) → two_level_needed level m n i j ≡ map (λ b. coarse_bitmaps level m n + b) (from_to i j)
without level m n i j h =
    let g = div_ceil n m in
    let c = groups_of n m in
    let q = coarse_bitmaps level m n in
    let s = div_ceil i g in
    let e = end_group n g c j in
    let none : nat_lt s e ≡ false = grind (arith, nat_tests) in
    ap (λ t. if t then coarse_needed level c s e ++ map (λ b. q + b) (from_to i (s * g) ++ from_to (min (e * g) n) j) else map (λ b. q + b) (from_to i j)) none

-- with whole groups: theirs, and those of the bins beside them
pub with_whole : (level : Coarse) (m n i j : ℕ) (whole : Whole) → AreWhole n (div_ceil n m) (groups_of n m) i j whole → two_level_needed level m n i j ≡ coarse_needed level whole.groups whole.from whole.to ++ map (λ b. coarse_bitmaps level m n + b) (from_to i whole.begin ++ from_to whole.after j)
with_whole level m n i j whole h =
    let g = div_ceil n m in
    let c = groups_of n m in
    let q = coarse_bitmaps level m n in
    let s = div_ceil i g in
    let e = end_group n g c j in
    let some : s < e = omega (arith, h.from, h.to, h.some) in
    let test : nat_lt s e ≡ true = grind (arith, nat_tests) in
    let begin : s * g ≡ whole.begin = ap (λ x. x * g) (sym h.from) ∙ sym h.begin in
    let after : min (e * g) n ≡ whole.after = ap (λ x. min (x * g) n) (sym h.to) ∙ sym h.after in
    ap (λ t. if t then coarse_needed level c s e ++ map (λ b. q + b) (from_to i (s * g) ++ from_to (min (e * g) n) j) else map (λ b. q + b) (from_to i j)) test
    ∙ ap (λ x. coarse_needed level c s e ++ map (λ b. q + b) (from_to i x ++ from_to (min (e * g) n) j)) begin
    ∙ ap (λ x. coarse_needed level c s e ++ map (λ b. q + b) (from_to i whole.begin ++ from_to x j)) after
    ∙ ap (λ x. coarse_needed level x s e ++ map (λ b. q + b) (from_to i whole.begin ++ from_to whole.after j)) (sym h.groups)
    ∙ ap (λ x. coarse_needed level whole.groups x e ++ map (λ b. q + b) (from_to i whole.begin ++ from_to whole.after j)) (sym h.from)
    ∙ ap (λ x. coarse_needed level whole.groups whole.from x ++ map (λ b. q + b) (from_to i whole.begin ++ from_to whole.after j)) (sym h.to)

-- as lists of places
pub places_without : (level : Coarse) (m n i j q : ℕ) → q ≡ coarse_bitmaps level m n → end_group n (div_ceil n m) (groups_of n m) j ≤ div_ceil i (div_ceil n m) → two_level_needed level m n i j ≡ from_to (q + i) (q + j)
places_without level m n i j q e h = without level m n i j h ∙ shifted_from_to (coarse_bitmaps level m n) i j ∙ ap (λ x. from_to (x + i) (x + j)) (sym e)

pub places_with : (level : Coarse) (m n i j q : ℕ) (whole : Whole) → q ≡ coarse_bitmaps level m n → AreWhole n (div_ceil n m) (groups_of n m) i j whole → two_level_needed level m n i j ≡ coarse_needed level whole.groups whole.from whole.to ++ (from_to (q + i) (q + whole.begin) ++ from_to (q + whole.after) (q + j))
places_with level m n i j q whole e h =
    let p = coarse_bitmaps level m n in
    with_whole level m n i j whole h
    ∙ ap (λ l. coarse_needed level whole.groups whole.from whole.to ++ l) (map-append (λ b. p + b) (from_to i whole.begin) (from_to whole.after j)
    ∙ ap (λ l. l ++ map (λ b. p + b) (from_to whole.after j)) (shifted_from_to p i whole.begin)
    ∙ ap (λ l. from_to (p + i) (p + whole.begin) ++ l) (shifted_from_to p whole.after j)
    ∙ ap (λ x. from_to (x + i) (x + whole.begin) ++ from_to (x + whole.after) (x + j)) (sym e))
