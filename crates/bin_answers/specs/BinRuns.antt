-- The runs of neighbouring bins with one answer, Yes or Unknown.
use Rattle.std.specs.Prelude.{◌≡◌, ⊤, ℕ, ◌+◌, ◌<◌, ◌≤◌, ◌==◌, ◌&&◌, Bool, true, false, List, [], ◌∷◌, if◌then◌else◌, slice_index_or}
use Rattle.std.specs.List.{AllByRecursion, list_any}
use Rattle.binning.specs.Members.{in_run}
use Rattle.binning.specs.declared.against_bins.Three.{Three}
use Rattle.binning.specs.declared.against_bins.Three.TheVariants.{Yes, No, Unknown}
use Rattle.bin_answers.specs.declared.bin_runs.BinRun.{BinRun}

-- a run of the bins from `first` to the one before `past`
abbrev pub run : Three → ℕ → ℕ → BinRun
run answer first past = record { answer = answer; first = first; past = past }

abbrev pub is_same : Three → Three → Bool
is_same Yes Yes = true
is_same Yes No = false
is_same Yes Unknown = false
is_same No Yes = false
is_same No No = true
is_same No Unknown = false
is_same Unknown Yes = false
is_same Unknown No = false
is_same Unknown Unknown = true

-- a bin put before runs of later bins: the first of these is one run with it where it begins behind the bin and has its answer
abbrev pub before : Three → ℕ → List BinRun → List BinRun
before answer bin [] = run answer bin (bin + 1) ∷ []
before answer bin (r ∷ rs) =
    if is_same answer r.answer && (r.first == bin + 1) then run answer bin r.past ∷ rs else run answer bin (bin + 1) ∷ r ∷ rs

-- the runs of bins with these answers, the first of which has this number
unfoldable pub runs_from : ℕ → List Three → List BinRun
runs_from bin [] = []
runs_from bin (Yes ∷ answers) = before Yes bin (runs_from (bin + 1) answers)
runs_from bin (No ∷ answers) = runs_from (bin + 1) answers
runs_from bin (Unknown ∷ answers) = before Unknown bin (runs_from (bin + 1) answers)

abbrev pub runs_of : List Three → List BinRun
runs_of answers = runs_from 0 answers

-- ---- a bin more

-- a bin put behind runs of earlier bins, the last of which goes on where it ends at this bin and has its answer
abbrev pub extended : List BinRun → ℕ → Three → List BinRun
extended [] bin answer = run answer bin (bin + 1) ∷ []
extended (r ∷ []) bin answer =
    if is_same answer r.answer && (r.past == bin) then run answer r.first (bin + 1) ∷ [] else r ∷ run answer bin (bin + 1) ∷ []
extended (r ∷ s ∷ rs) bin answer = r ∷ extended (s ∷ rs) bin answer

-- the same of a bin that may be No, which is in no run
abbrev pub with_bin : List BinRun → ℕ → Three → List BinRun
with_bin runs bin Yes = extended runs bin Yes
with_bin runs bin No = runs
with_bin runs bin Unknown = extended runs bin Unknown

-- ---- in the bins' own words

-- the bin is in the run, and the run has the answer
abbrev pub has_bin : Three → ℕ → BinRun → Bool
has_bin answer bin r = is_same answer r.answer && in_run r.first r.past bin

-- the second run begins behind the first, with a bin between them or another answer
pub record Follows (r s : BinRun) : Type 0 where
  pub later : r.past ≤ s.first
  pub apart : r.past ≡ s.first → is_same r.answer s.answer ≡ false

-- the runs rise, and none can be longer: each has bins and follows the one before it
unfoldable pub AreMaximal : List BinRun → Type 0
AreMaximal [] = ⊤
AreMaximal (r ∷ []) = r.first < r.past
AreMaximal (r ∷ s ∷ rs) = (r.first < r.past) × Follows r s × AreMaximal (s ∷ rs)

-- Yes and Unknown bins are in runs of their answer alone, and No bins, as those that aren't there, in none.
pub record AreRunsOf (answers : List Three) (runs : List BinRun) : Type 0 where
  pub maximal : AreMaximal runs
  pub some : AllByRecursion (λ r. is_same r.answer No ≡ false) runs
  pub yes : (bin : ℕ) → list_any (has_bin Yes bin) runs ≡ is_same Yes (slice_index_or answers bin No)
  pub unknown : (bin : ℕ) → list_any (has_bin Unknown bin) runs ≡ is_same Unknown (slice_index_or answers bin No)
