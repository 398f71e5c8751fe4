-- The answer of a run from its own bitmaps, or from those of the bins outside of it.
use Rattle.std.proofs.Common.{◌≡◌, ℕ, ◌-◌, ◌*◌, ◌<◌, ◌≤◌, Bool, true, false, ◌||◌, ◌==◌, nat_le, if◌then◌else◌, List, ◌++◌, length, refl, sym, ap, ◌∙◌, arith}
use Rattle.std.specs.List.{list_any}
use Rattle.std.proofs.lemmas.Bool.Decides.{nat_tests}
use Rattle.std.proofs.lemmas.List.Folds.{list_any-append}
use Rattle.index_spec.specs.declared.spec.EncodingSpec.TheVariants.{Equality}
use Rattle.index_spec.specs.Members.{from_to, needed}
use Rattle.wah_logic.specs.Logic.{each_place, and_not, union}
use Rattle.binning.specs.Members.{union_of, in_run, AreFetched}
use Rattle.binning.proofs.MembersLemmas.{any-from_to, union_of-same}
use Rattle.binning.proofs.FetchedLemmas.{fetched_union, mask_is, of_one, of_two}

-- the bins of the run
inside : (b n i j : ℕ) → i < j → nat_le (2 * (j - i)) n ≡ true → list_any (λ k. b == k) (needed Equality n i j) ≡ in_run i j b
inside b n i j h short = ap (λ t. list_any (λ k. b == k) (if t then from_to i j else from_to 0 i ++ from_to j n)) short ∙ any-from_to b i j (omega arith)

-- the bins outside of it
outside : (b n i j : ℕ) → i < j → j ≤ n → nat_le (2 * (j - i)) n ≡ false → list_any (λ k. b == k) (needed Equality n i j) ≡ (in_run 0 i b || in_run j n b)
outside b n i j h k long =
    ap (λ t. list_any (λ k. b == k) (if t then from_to i j else from_to 0 i ++ from_to j n)) long
    ∙ list_any-append (λ k. b == k) (from_to 0 i) (from_to j n)
    ∙ ap (λ t. t || list_any (λ k. b == k) (from_to j n)) (any-from_to b 0 i (omega arith))
    ∙ ap (λ t. in_run 0 i b || t) (any-from_to b j n k)

pub short_run : (n i j : ℕ) (vs fetched : List (List Bool)) (mask v : List Bool) → i < j → nat_le (2 * (j - i)) n ≡ true → v ≡ union (length mask) fetched → AreFetched Equality n i j vs fetched mask → v ≡ union_of (length mask) (in_run i j) vs
short_run n i j vs fetched mask v h short e f = of_one Equality n i j vs fetched mask f v (λ b. list_any (λ k. b == k) (needed Equality n i j)) (e ∙ fetched_union Equality n i j vs fetched mask f) (λ b l. inside b n i j h short)

rest_of_run : (b n i j : ℕ) → b < n → i < j → j ≤ n → and_not true (in_run 0 i b || in_run j n b) ≡ in_run i j b
rest_of_run b n i j l h k = grind (arith, nat_tests)

pub long_run : (n i j : ℕ) (vs fetched : List (List Bool)) (mask v : List Bool) → i < j → j ≤ n → nat_le (2 * (j - i)) n ≡ false → v ≡ union (length mask) fetched → AreFetched Equality n i j vs fetched mask → each_place and_not mask v ≡ union_of (length mask) (in_run i j) vs
long_run n i j vs fetched mask v h k long e f =
    of_two Equality n i j vs fetched mask f and_not refl mask v (λ b. true) (λ b. list_any (λ k. b == k) (needed Equality n i j)) (mask_is Equality n i j vs fetched mask f) (e ∙ fetched_union Equality n i j vs fetched mask f)
    (λ b l. ap (λ t. and_not true t) (outside b n i j h k long) ∙ rest_of_run b n i j l h k)
