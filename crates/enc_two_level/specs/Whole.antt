-- The whole groups of bins that a run has.
use Rattle.std.specs.Prelude.{◌≡◌, ℕ, ◌*◌, ◌/◌, ◌<◌, ◌≤◌, min, Option, Some, None, if◌then◌else◌, ◌==◌}
use Rattle.std.specs.Int.{div_ceil}
use Rattle.enc_two_level.specs.declared.groups.Whole.{Whole}

-- the group after the last whole one of a run that ends before bin j of n, where there are c groups of g bins
abbrev pub end_group : ℕ → ℕ → ℕ → ℕ → ℕ
end_group n g c j = if j == n then c else j / g

-- the whole groups of the run of bins i to j - 1 of n: their numbers, and the bins from the first to the last of them
pub record AreWhole (n g c i j : ℕ) (whole : Whole) : Type 0 where
  pub groups : whole.groups ≡ c
  pub from : whole.from ≡ div_ceil i g
  pub to : whole.to ≡ end_group n g c j
  pub some : whole.from < whole.to
  pub last : whole.to ≤ whole.groups
  pub begin : whole.begin ≡ whole.from * g
  pub after : whole.after ≡ min (whole.to * g) n
  pub before : i ≤ whole.begin
  pub inside : whole.begin ≤ whole.after
  pub within : whole.after ≤ j

-- None where no group lies in the run
abbrev pub IsWholeOf : ℕ → ℕ → ℕ → ℕ → ℕ → Option Whole → Type 0
IsWholeOf n g c i j None = end_group n g c j ≤ div_ceil i g
IsWholeOf n g c i j (Some whole) = AreWhole n g c i j whole
