-- A line in front of the lines behind it.
use Rattle.std.proofs.Common.{◌≡◌, inl, inr, ℕ, ◌+◌, ◌<◌, true, false, List, [], ◌∷◌, Option, length, refl, sym, subst}
use Rattle.std.proofs.lemmas.Bool.{lt-leb}
use Rattle.std.proofs.Math.Dec.{leb-zero}
use Rattle.statuses.specs.declared.Status.{Status}
use Rattle.statuses.specs.declared.Status.TheVariants.{Done}
use Rattle.commands.specs.Reply.{is_fault}
use Rattle.fastbit_tool.specs.Session.{LineRuns, LinesRun, Outside, lines_from, lines_of}

-- all lines are those from the beginning on
pub lines_from_start : (text : List ℕ) → lines_from text 0 ≡ lines_of text
lines_from_start text = rw (leb-zero (length text)) refl

-- none are behind the end
pub lines_from_end : (text : List ℕ) (at : ℕ) → length text < at → lines_from text at ≡ []
lines_from_end text at h = rw (lt-leb at (length text) h) refl

module _ (text : List ℕ) (at : ℕ) (left : Option (List ℕ)) (old new : Outside) (status : Status) where
  pub run_none : length text < at → new ≡ old → status ≡ Done → LinesRun (lines_from text at) left old new status
  run_none h same done =
      subst (λ (lines : List (List ℕ)). LinesRun lines left old new status) (sym (lines_from_end text at h)) (same, done)

  pub run_stops : (line : List ℕ) (more : List (List ℕ)) → lines_from text at ≡ line ∷ more → LineRuns line left old new status
      → is_fault status ≡ true → LinesRun (lines_from text at) left old new status
  run_stops line more first runs fault =
      subst (λ (lines : List (List ℕ)). LinesRun lines left old new status) (sym first) (inl (record { runs = runs; fault = fault }))

  pub run_goes : (line : List ℕ) (more : List (List ℕ)) (between : Outside) (ended : Status)
      → lines_from text at ≡ line ∷ more → LineRuns line left old between ended → is_fault ended ≡ false
      → LinesRun more left between new status → LinesRun (lines_from text at) left old new status
  run_goes line more between ended first runs fine rest =
      subst (λ (lines : List (List ℕ)). LinesRun lines left old new status) (sym first)
      (inr (record { between = between; status = ended; runs = runs; fine = fine; rest = rest }))

  -- the same of the line at a place, and those from the next one on; what the source has left may be told otherwise
  pub run_next : (line : List ℕ) (next : ℕ) (mid : Option (List ℕ)) (between : Outside) (ended : Status)
      → lines_from text at ≡ line ∷ lines_from text (at + length line + 1) → next ≡ at + length line + 1 → mid ≡ left
      → LineRuns line mid old between ended → is_fault ended ≡ false → LinesRun (lines_from text next) left between new status
      → LinesRun (lines_from text at) left old new status
  run_next line next mid between ended first is same runs fine rest =
      run_goes line (lines_from text (at + length line + 1)) between ended first
      (subst (λ (told : Option (List ℕ)). LineRuns line told old between ended) same runs) fine
      (subst (λ (n : ℕ). LinesRun (lines_from text n) left between new status) is rest)
