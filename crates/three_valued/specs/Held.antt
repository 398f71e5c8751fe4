-- Answers that are lent or made.
use Rattle.std.specs.Prelude.{List}
use Rattle.binning.specs.declared.against_bins.Three.{Three}
use Rattle.three_valued.specs.declared.evaluation.Held.{Held}
use Rattle.three_valued.specs.declared.evaluation.Held.TheVariants.{Lent, Made}

abbrev pub held_answers : Held → List Three
held_answers (Lent answers) = answers.now
held_answers (Made answers) = answers
