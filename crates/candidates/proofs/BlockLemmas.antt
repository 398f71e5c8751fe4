-- The blocks of a run, one block after another.
use Rattle.std.proofs.Common.{◌≡◌, ℕ, zero, suc, ◌+◌, ◌-◌, ◌*◌, ◌/◌, ◌%◌, ◌<◌, ◌≤◌, [], ◌∷◌, ◌++◌, map, min, refl, sym, ap, ◌∙◌, arith}
use Rattle.std.specs.List.{range_with_len}
use Rattle.std.proofs.lemmas.List.FromFn.{map-range_with_len_more}
use Rattle.candidates.specs.Blocks.{block_at, block_count, blocks_of_run}

-- so many blocks, and one more
more_blocks : (first past k : ℕ) → map (block_at first past) (range_with_len 0 (k + 1)) ≡ map (block_at first past) (range_with_len 0 k) ++ block_at first past k ∷ []
more_blocks first past k = map-range_with_len_more (block_at first past) 0 k k (omega arith)

-- full blocks are the same of each run that has them
full_blocks : (first a b k : ℕ) → first + 4096 * k ≤ a → first + 4096 * k ≤ b
    → map (block_at first a) (range_with_len 0 k) ≡ map (block_at first b) (range_with_len 0 k)
full_blocks first a b zero h j = refl
full_blocks first a b (suc k) h j =
    let e : suc k ≡ k + 1 = omega arith in
    let last : min a (first + 4096 * k + 4096) ≡ min b (first + 4096 * k + 4096) = omega (arith, h, j) in
    ap (λ n. map (block_at first a) (range_with_len 0 n)) e
    ∙ more_blocks first a k
    ∙ ap (λ l. l ++ block_at first a k ∷ []) (full_blocks first a b k (omega (arith, h)) (omega (arith, j)))
    ∙ ap (λ end. map (block_at first b) (range_with_len 0 k) ++ (first + 4096 * k, end) ∷ []) last
    ∙ sym (more_blocks first b k)
    ∙ sym (ap (λ n. map (block_at first b) (range_with_len 0 n)) e)

pub no_blocks : (first : ℕ) → blocks_of_run (first, first) ≡ []
unfolding blocks_of_run
no_blocks first =
    let none : block_count (first - first) ≡ 0 = omega arith in
    ap (λ n. map (block_at first first) (range_with_len 0 n)) none

pub block_more : (first at end : ℕ) → first ≤ at → (at - first) % 4096 ≡ 0 → at < end → end ≤ at + 4096
    → blocks_of_run (first, end) ≡ blocks_of_run (first, at) ++ (at, end) ∷ []
unfolding blocks_of_run
block_more first at end order whole some few =
    let k : ℕ = (at - first) / 4096 in
    let begins : first + 4096 * k ≡ at = omega (arith, order, whole) in
    let before : block_count (at - first) ≡ k = omega (arith, order, begins) in
    let now : block_count (end - first) ≡ k + 1 = omega (arith, begins, some, few) in
    let last : min end (first + 4096 * k + 4096) ≡ end = omega (arith, begins, few) in
    ap (λ n. map (block_at first end) (range_with_len 0 n)) now
    ∙ more_blocks first end k
    ∙ ap (λ l. l ++ block_at first end k ∷ []) (full_blocks first end at k (omega (arith, begins, some)) (omega (arith, begins)))
    ∙ ap (λ y. map (block_at first at) (range_with_len 0 k) ++ (first + 4096 * k, y) ∷ []) last
    ∙ ap (λ x. map (block_at first at) (range_with_len 0 k) ++ (x, end) ∷ []) begins
    ∙ ap (λ n. map (block_at first at) (range_with_len 0 n) ++ (at, end) ∷ []) (sym before)

pub whole_again : (first at : ℕ) → first ≤ at → (at - first) % 4096 ≡ 0 → (at + 4096 - first) % 4096 ≡ 0
whole_again first at order whole = omega (arith, order, whole)
