use Rattle.std.proofs.Common.{[], ◌∷◌, pos}
use Rattle.index_spec.specs.declared.spec.EncodingSpec.TheVariants.{Equality, Range}
use Rattle.three_valued.specs.Tables.{joined}
use Rattle.part_meaning.specs.Answers.{checked_in, definite_in, possible_in}
use Rattle.part_meaning.specs.Columns.{bins_in, ends_in, one_bin}
use Rattle.part_meaning.specs.Known.{bin_says, known}
use Rattle.part_meaning.specs.Samples.{greatest_int, least_int}
use Rattle.part_meaning.proofs.PlanLemmas.{checked_by, definite_by, possible_by}
use Rattle.part_meaning.proofs.SampleLemmas.{null_says, pair_says, ten_says, two_says}
use Rattle.part_meaning.proofs.examples.the_numbers_of_plans.Goals as goal

pub returns-clause-definite : goal.returns-clause-definite
unfolding definite_in known bin_says bins_in
returns-clause-definite c = definite_by 10 (ten_says Equality ((pos 4, pos 8) ∷ []))

pub returns-clause-possible : goal.returns-clause-possible
unfolding possible_in known bin_says bins_in
returns-clause-possible c = possible_by 10 (ten_says Equality ((pos 4, pos 8) ∷ []))

pub returns-clause-checked : goal.returns-clause-checked
unfolding checked_in known bin_says bins_in
returns-clause-checked c = checked_by 10 (ten_says Equality ((pos 4, pos 8) ∷ []))

pub returns-clause-exact : goal.returns-clause-exact
unfolding checked_in known bin_says bins_in
returns-clause-exact c = checked_by 10 (ten_says Range ((pos 4, pos 7) ∷ []))

pub returns-clause-pair_definite : goal.returns-clause-pair_definite
unfolding definite_in known bin_says bins_in joined
returns-clause-pair_definite c = definite_by 10 (pair_says ((least_int, pos 8) ∷ []) ((pos 1, pos 1) ∷ []))

pub returns-clause-pair_possible : goal.returns-clause-pair_possible
unfolding possible_in known bin_says bins_in joined
returns-clause-pair_possible c = possible_by 10 (pair_says ((least_int, pos 8) ∷ []) ((pos 1, pos 1) ∷ []))

pub returns-clause-pair_checked : goal.returns-clause-pair_checked
unfolding checked_in known bin_says bins_in joined
returns-clause-pair_checked c = checked_by 10 (pair_says ((least_int, pos 8) ∷ []) ((pos 1, pos 1) ∷ []))

pub returns-clause-null_definite : goal.returns-clause-null_definite
unfolding definite_in known bin_says bins_in one_bin ends_in
returns-clause-null_definite c = definite_by 3 (null_says ((least_int, pos 4) ∷ []))

pub returns-clause-null_possible : goal.returns-clause-null_possible
unfolding possible_in known bin_says bins_in one_bin ends_in
returns-clause-null_possible c = possible_by 3 (null_says ((least_int, pos 4) ∷ []))

pub returns-clause-null_checked : goal.returns-clause-null_checked
unfolding checked_in known bin_says bins_in one_bin ends_in
returns-clause-null_checked c = checked_by 3 (null_says ((least_int, pos 4) ∷ []))

pub returns-clause-scanned : goal.returns-clause-scanned
unfolding checked_in known bin_says bins_in one_bin ends_in
returns-clause-scanned c = checked_by 2 (two_says ((pos 1024, greatest_int) ∷ []))

pub returns-clause-whole : goal.returns-clause-whole
unfolding checked_in known bin_says bins_in one_bin ends_in
returns-clause-whole c = checked_by 2 (two_says ((least_int, greatest_int) ∷ []))

pub returns-clause-low_definite : goal.returns-clause-low_definite
unfolding definite_in known bin_says bins_in
returns-clause-low_definite c = definite_by 10 (ten_says Equality ((least_int, pos 3) ∷ []))

pub returns-clause-low_possible : goal.returns-clause-low_possible
unfolding possible_in known bin_says bins_in
returns-clause-low_possible c = possible_by 10 (ten_says Equality ((least_int, pos 3) ∷ []))

pub returns-clause-low : goal.returns-clause-low
unfolding checked_in known bin_says bins_in
returns-clause-low c = checked_by 10 (ten_says Equality ((least_int, pos 3) ∷ []))
