use Rattle.wah_words.proofs.SpellingLemmas.{canonical_regular, told_regular, length-rest_of}
use Rattle.wah_words.proofs.laws.one_spelling.Goals as goal

pub returns-clause-canonical : goal.returns-clause-canonical
returns-clause-canonical c = canonical_regular

pub returns-clause-told : goal.returns-clause-told
returns-clause-told c = told_regular

pub returns-clause-rest : goal.returns-clause-rest
returns-clause-rest c = length-rest_of
