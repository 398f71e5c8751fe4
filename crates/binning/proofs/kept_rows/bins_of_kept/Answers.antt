use Rattle.binning.proofs.ListedLemmas.{bins_again}
use Rattle.binning.proofs.kept_rows.bins_of_kept.Goals as goal

pub returns-in_ok-bins-in-Listed : goal.returns-in_ok-bins-in-Listed
returns-in_ok-bins-in-Listed c = rw c.in-Listed.is (λ column h. bins_again _ column _ c.in_ok-bins-in-Listed.ensures.few c.in_ok-bins-in-Listed.ensures.bins h)
