-- The answer of a run, case by case.
use Rattle.std.proofs.Common.{◌≡◌, ℕ, ◌+◌, ◌-◌, ◌*◌, ◌<◌, ◌≤◌, Bool, true, false, nat_le, List, length, get_or, refl, arith}
use Rattle.std.proofs.lemmas.Bool.Decides.{nat_tests}
use Rattle.index_spec.specs.declared.spec.EncodingSpec.TheVariants.{Range}
use Rattle.index_spec.specs.Members.{needed}
use Rattle.wah_logic.specs.Logic.{each_place, and_not}
use Rattle.binning.specs.Members.{union_of, in_run, AreFetched}
use Rattle.binning.proofs.FetchedLemmas.{fetched_at, mask_is, of_one, of_two}

-- all bins
pub whole : (n i j : ℕ) (vs fetched : List (List Bool)) (mask : List Bool) → i < j → j ≤ n → length fetched ≡ length (needed Range n i j) → length fetched < 1 → AreFetched Range n i j vs fetched mask → mask ≡ union_of (length mask) (in_run i j) vs
whole n i j vs fetched mask h k number few f =
    let first : i ≡ 0 = grind (arith, nat_tests) in
    let last : j ≡ n = grind (arith, nat_tests) in
    of_one Range n i j vs fetched mask f mask (λ b. true) (mask_is Range n i j vs fetched mask f) (λ b l. grind (arith, nat_tests))

-- the first bins
pub front : (n i j : ℕ) (vs fetched : List (List Bool)) (mask v : List Bool) → i < j → j ≤ n → length fetched ≡ length (needed Range n i j) → 1 ≤ length fetched → i ≡ 0 → v ≡ get_or fetched 0 v → AreFetched Range n i j vs fetched mask → v ≡ union_of (length mask) (in_run i j) vs
front n i j vs fetched mask v h k number some first e f =
    let place : get_or (needed Range n i j) 0 0 ≡ j - 1 = grind (arith, nat_tests) in
    of_one Range n i j vs fetched mask f v (λ b. nat_le b (j - 1)) (fetched_at Range n i j vs fetched mask f 0 (j - 1) v (omega arith) place e) (λ b l. grind (arith, nat_tests))

-- the last bins
pub back : (n i j : ℕ) (vs fetched : List (List Bool)) (mask v : List Bool) → i < j → j ≤ n → length fetched ≡ length (needed Range n i j) → 1 ≤ length fetched → length fetched < 2 → 0 < i → v ≡ get_or fetched 0 v → AreFetched Range n i j vs fetched mask → each_place and_not mask v ≡ union_of (length mask) (in_run i j) vs
back n i j vs fetched mask v h k number some few later e f =
    let place : get_or (needed Range n i j) 0 0 ≡ i - 1 = grind (arith, nat_tests) in
    let last : j ≡ n = grind (arith, nat_tests) in
    of_two Range n i j vs fetched mask f and_not refl mask v (λ b. true) (λ b. nat_le b (i - 1)) (mask_is Range n i j vs fetched mask f) (fetched_at Range n i j vs fetched mask f 0 (i - 1) v (omega arith) place e) (λ b l. grind (arith, nat_tests))

-- bins between others
pub between : (n i j : ℕ) (vs fetched : List (List Bool)) (mask v w : List Bool) → i < j → j ≤ n → length fetched ≡ length (needed Range n i j) → 2 ≤ length fetched → v ≡ get_or fetched 0 v → w ≡ get_or fetched 1 w → AreFetched Range n i j vs fetched mask → each_place and_not w v ≡ union_of (length mask) (in_run i j) vs
between n i j vs fetched mask v w h k number some e d f =
    let first : get_or (needed Range n i j) 0 0 ≡ i - 1 = grind (arith, nat_tests) in
    let second : get_or (needed Range n i j) 1 0 ≡ j - 1 = grind (arith, nat_tests) in
    let later : 0 < i = grind (arith, nat_tests) in
    of_two Range n i j vs fetched mask f and_not refl w v (λ b. nat_le b (j - 1)) (λ b. nat_le b (i - 1)) (fetched_at Range n i j vs fetched mask f 1 (j - 1) w (omega arith) second d) (fetched_at Range n i j vs fetched mask f 0 (i - 1) v (omega arith) first e) (λ b l. grind (arith, nat_tests))
