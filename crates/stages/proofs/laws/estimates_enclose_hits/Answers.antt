use Rattle.std.proofs.Common.{◌≤◌, sym, subst}
use Rattle.std.specs.List.{range_with_len}
use Rattle.three_valued.specs.Candidates.{definite_rows, possible_rows}
use Rattle.three_valued.specs.Plans.{is_true}
use Rattle.three_valued.proofs.SoundLemmas.{definite_le, possible_ge}
use Rattle.stages.proofs.PlanRows.{sound_at}
use Rattle.stages.proofs.RowLemmas.{count_by-map}
use Rattle.stages.proofs.laws.estimates_enclose_hits.Goals as goal

pub returns-clause-definite : goal.returns-clause-definite
returns-clause-definite g c on files m plan is fit =
    subst (λ n. definite_rows m.rows m.answer plan ≤ n) (sym (count_by-map (λ row. is_true (m.truth row) plan) (range_with_len 0 m.rows)))
    (definite_le m.rows m.answer m.truth plan (λ row below. sound_at (g.C.Conditions.rows on) (g.C.Conditions.fits on) m plan (g.met.C.Conditions.meaning on files m is) fit row below))

pub returns-clause-possible : goal.returns-clause-possible
returns-clause-possible g c on files m plan is fit =
    subst (λ n. n ≤ possible_rows m.rows m.answer plan) (sym (count_by-map (λ row. is_true (m.truth row) plan) (range_with_len 0 m.rows)))
    (possible_ge m.rows m.answer m.truth plan (λ row below. sound_at (g.C.Conditions.rows on) (g.C.Conditions.fits on) m plan (g.met.C.Conditions.meaning on files m is) fit row below))
