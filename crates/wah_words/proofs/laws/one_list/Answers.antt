use Rattle.wah_words.proofs.SpellingLemmas.{regular_words_told, rest_of_told}
use Rattle.wah_words.proofs.BytesLemmas.{one_spelling_at}
use Rattle.wah_words.proofs.laws.one_list.Goals as goal

pub returns-clause-words : goal.returns-clause-words
returns-clause-words c = regular_words_told

pub returns-clause-rest : goal.returns-clause-rest
returns-clause-rest c = λ ws rest h few. rest_of_told ws rest few

pub returns-clause-bytes : goal.returns-clause-bytes
returns-clause-bytes c = one_spelling_at
