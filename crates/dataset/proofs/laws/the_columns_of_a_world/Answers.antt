use Rattle.dataset.proofs.ColumnLemmas.{has_numbers, has_words}
use Rattle.dataset.proofs.laws.the_columns_of_a_world.Goals as goal

pub returns : goal.returns
returns c = record { numbers = has_numbers; words = has_words }
