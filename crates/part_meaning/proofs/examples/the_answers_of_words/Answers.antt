use Rattle.std.proofs.Common.{refl}
use Rattle.part_meaning.specs.Bitmaps.{bins_say}
use Rattle.part_meaning.specs.Columns.{bins_in, ends_in, one_bin}
use Rattle.part_meaning.specs.Known.{bin_says, known}
use Rattle.part_meaning.proofs.examples.the_answers_of_words.Goals as goal

pub returns-clause-same : goal.returns-clause-same
unfolding bins_say bin_says bins_in one_bin ends_in
returns-clause-same c = refl

pub returns-clause-null : goal.returns-clause-null
unfolding known bin_says bins_in one_bin ends_in
returns-clause-null c = refl

pub returns-clause-other : goal.returns-clause-other
unfolding bins_say bin_says bins_in one_bin ends_in
returns-clause-other c = refl

pub returns-clause-absent : goal.returns-clause-absent
unfolding bins_say bin_says bins_in one_bin ends_in
returns-clause-absent c = refl
