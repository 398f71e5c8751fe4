use Rattle.std.proofs.Common.{refl}
use Rattle.where_grammar.specs.Rows.{columns}
use Rattle.where_grammar.proofs.Parts.{holds-one, holds-not}
use Rattle.where_grammar.proofs.truth.the_truth_of_a_negation.Goals as goal

pub returns : goal.returns
unfolding columns
returns c = rw (holds-not, holds-one) refl
