-- Numbers of bins and of their groups.
use Rattle.std.proofs.Common.{◌≡◌, ◌==◌, ℕ, zero, suc, ◌+◌, ◌-◌, ◌*◌, ◌/◌, ◌<◌, ◌≤◌, Bool, true, false, ◌&&◌, if◌then◌else◌, nat_le, nat_lt, min, map, List, [], ◌∷◌, ◌++◌, refl, sym, ap, ◌∙◌, arith}
use Rattle.std.proofs.lemmas.Bool.Decides.{nat_tests}
use Rattle.std.proofs.Math.Nat.{le-div_iff_mul-le, div-lt_iff_lt-mul, mul-le-mul_right}
use Rattle.std.proofs.lemmas.Grind.{div_ceil_times}
use Rattle.std.specs.Int.{div_ceil}
use Rattle.std.specs.List.{range_with_len}
use Rattle.index_spec.specs.Members.{from_to}
use Rattle.binning.specs.Members.{in_run}
use Rattle.enc_two_level.specs.Whole.{end_group}

-- a group's number and its first bin
at_least : (g t b : ℕ) → 1 ≤ g → t ≤ b / g → t * g ≤ b
at_least g t b h = (le-div_iff_mul-le {k = g} {x = t} {y = b} h).0

at_least' : (g t b : ℕ) → 1 ≤ g → t * g ≤ b → t ≤ b / g
at_least' g t b h = (le-div_iff_mul-le {k = g} {x = t} {y = b} h).1

below : (g t b : ℕ) → 1 ≤ g → b / g < t → b < t * g
below g t b h = (div-lt_iff_lt-mul {k = g} {x = b} {y = t} h).0

below' : (g t b : ℕ) → 1 ≤ g → b < t * g → b / g < t
below' g t b h = (div-lt_iff_lt-mul {k = g} {x = b} {y = t} h).1

by_tests : (a s e p q b : ℕ) → (s ≤ a → p ≤ b) → (p ≤ b → s ≤ a) → (a < e → b < q) → (b < q → a < e) → in_run s e a ≡ in_run p q b
by_tests a s e p q b f f' h h' = grind (arith, nat_tests)

-- the bins whose group is in a run of groups
pub run_of_groups : (g s e b : ℕ) → 1 ≤ g → in_run s e (b / g) ≡ in_run (s * g) (e * g) b
run_of_groups g s e b h = by_tests (b / g) s e (s * g) (e * g) b (at_least g s b h) (at_least' g s b h) (below g e b h) (below' g e b h)

one_number : (a t : ℕ) → (a == t) ≡ in_run t (t + 1) a
one_number a t = grind (arith, nat_tests)

-- the bins of group t
pub one_group : (g t b : ℕ) → 1 ≤ g → (b / g == t) ≡ in_run (t * g) (t * g + g) b
one_group g t b h =
    let more : (t + 1) * g ≡ t * g + g = grind arith in
    one_number (b / g) t ∙ run_of_groups g t (t + 1) b h ∙ ap (λ e. in_run (t * g) e b) more

pub group_below : (n g c b : ℕ) → 1 ≤ g → n ≤ c * g → b < n → b / g < c
group_below n g c b h k l = below' g c b h (omega arith)

pub next_group : (t c g : ℕ) → t < c → t * g + g ≤ c * g
next_group t c g h =
    let more : (t + 1) * g ≤ c * g = mul-le-mul_right g (omega arith) in
    let one : (t + 1) * g ≡ t * g + g = grind arith in
    omega arith

-- numbers further on
pub shifted : (q i n : ℕ) → map (λ b. q + b) (range_with_len i n) ≡ range_with_len (q + i) n
shifted q i zero = refl
shifted q i (suc n) = ap (λ l. (q + i) ∷ l) (shifted q (i + 1) n ∙ ap (λ a. range_with_len a n) (omega arith))

pub shifted_from_to : (q i j : ℕ) → map (λ b. q + b) (from_to i j) ≡ from_to (q + i) (q + j)
shifted_from_to q i j = shifted q i (j - i) ∙ ap (λ n. range_with_len (q + i) n) (omega arith)

-- the group that bin j is in, which is not the first bin of a group past the last
pub end_below : (n g c j : ℕ) → 1 ≤ g → n ≤ c * g → j ≤ n → end_group n g c j ≤ c
end_below n g c j some whole h =
    elim (j == n) as (λ t. (j == n) ≡ t → (if t then c else j / g) ≤ c) [
      | true ↦ λ e. omega arith
      | false ↦ λ e. (let under : j < n = grind (arith, nat_tests) in let few : j / g < c = below' g c j some (omega arith) in omega arith)
    ]
    refl

-- each group has a bin
pub first_below : (n g t : ℕ) → 1 ≤ g → t < div_ceil n g → t * g < n
first_below n g t h l = let d : (n ≤ div_ceil n g * g) × (div_ceil n g * g < n + g) = div_ceil_times n g h in omega (arith, d.1, next_group t (div_ceil n g) g l)
