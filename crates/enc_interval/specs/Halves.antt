-- Halves of the bins, and how a run of bins lies to them.
use Rattle.std.specs.Prelude.{◌≡◌, ℕ, ◌+◌, ◌-◌, ◌<◌, ◌≤◌, Bool, List}
use Rattle.binning.specs.Members.{union_of, in_run}
use Rattle.enc_interval.specs.declared.interval.Case.{Case}
use Rattle.enc_interval.specs.declared.interval.Case.TheVariants.{All, Half, More, Low, High, Middle}

-- the rows of the w bins from k on
abbrev pub rows_from : ℕ → ℕ → List (List Bool) → ℕ → List Bool
rows_from rows w bins k = union_of rows (in_run k (k + w)) bins

-- the run of bins i to j - 1 of n, where w is half of them, rounded up
abbrev pub IsCase : ℕ → ℕ → ℕ → ℕ → Case → Type 0
IsCase n w i j All = j - i ≡ n
IsCase n w i j Half = (j - i < n) × (j - i ≡ w)
IsCase n w i j More = (j - i < n) × (w < j - i)
IsCase n w i j Low = (j - i < w) × (j < w)
IsCase n w i j High = (j - i < w) × (w ≤ j) × (n - w < i)
IsCase n w i j Middle = (j - i < w) × (w ≤ j) × (i ≤ n - w)
