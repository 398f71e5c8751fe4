use Rattle.text_column.proofs.DictionaryLemmas.{word_of_code, code_of_word, seen_dictionary}
use Rattle.text_column.proofs.WordLemmas.{code_kept}
use Rattle.text_column.proofs.laws.codes_and_words.Goals as goal

pub returns-clause-both : goal.returns-clause-both
returns-clause-both c = λ words word code h. (word_of_code words word code, code_of_word words word code h)

pub returns-clause-dictionary : goal.returns-clause-dictionary
returns-clause-dictionary c = seen_dictionary

pub returns-clause-kept : goal.returns-clause-kept
returns-clause-kept c = code_kept
