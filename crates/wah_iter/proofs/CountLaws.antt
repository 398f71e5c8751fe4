-- Counts over runs.
use Rattle.std.proofs.Common.{◌≡◌, ℕ, zero, suc, ◌+◌, ◌*◌, ◌≤◌, Bool, true, false, List, ◌++◌, length, replicate, refl, ap, ◌∙◌, arith, count_by, length-append, Some}
use Rattle.std.proofs.lemmas.List.{length-replicate}
use Rattle.std.proofs.lemmas.List.Sums.{sum_by-append}
use Rattle.wah_words.specs.Limits.{most_bits}
use Rattle.wah_words.specs.Left.{Left, run_values, Comes}
use Rattle.wah_words.specs.declared.run.Run.{Run}
use Rattle.wah_words.specs.declared.run.Run.TheVariants.{Fill, Literal, Tail}
use Rattle.wah_iter.specs.Runs.{Fits}
use Rattle.wah_words.proofs.OnesLemmas.{ones-append}

-- the run that comes fits, and so do its values and what is left
pub fits_comes : (old : Left) (run : Run) (new : Left) → Comes old (Some run) new → length old.values ≤ most_bits → Fits run
fits_comes old (Fill bit groups) new h limit =
    omega (arith, ap length h.0, length-append (replicate (31 * groups) bit) new.values, length-replicate (31 * groups) bit)
fits_comes old (Literal word) new h limit = omega (arith, h.2.1)
fits_comes old (Tail bits count) new h limit = (h.2.1, h.2.2)

pub length_comes : (old : Left) (run : Run) (new : Left) → Comes old (Some run) new → length old.values ≡ length (run_values run) + length new.values
length_comes old run new h = ap length h.0 ∙ length-append (run_values run) new.values
