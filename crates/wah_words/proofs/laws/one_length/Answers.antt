use Rattle.wah_words.proofs.SpellingLemmas.{groups_told_regular, words_of_le}
use Rattle.wah_words.proofs.BytesLemmas.{length-spelling}
use Rattle.wah_words.proofs.laws.one_length.Goals as goal

pub returns-clause-groups : goal.returns-clause-groups
returns-clause-groups c = groups_told_regular

pub returns-clause-words : goal.returns-clause-words
returns-clause-words c = words_of_le

pub returns-clause-bytes : goal.returns-clause-bytes
returns-clause-bytes c = length-spelling
