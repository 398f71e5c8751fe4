use Rattle.part_meaning.proofs.RangeLemmas.{against_over, against_words}
use Rattle.part_meaning.proofs.laws.what_spans_say.Goals as goal

pub returns : goal.returns
returns c = record { numbers = λ least greatest spans apart order. against_over least greatest order spans apart; words = against_words }
