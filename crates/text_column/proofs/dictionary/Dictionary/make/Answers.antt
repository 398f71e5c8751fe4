use Rattle.text_column.proofs.WordLemmas.{no_words}
use Rattle.text_column.proofs.dictionary.Dictionary.make.Goals as goal

pub invariant_of-result : goal.invariant_of-result
invariant_of-result c = rw c.new.ensures.empty no_words
