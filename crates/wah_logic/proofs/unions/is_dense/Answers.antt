use Rattle.std.proofs.Common.{arith}
use Rattle.wah_words.proofs.SpellingLemmas.{words_of_le}
use Rattle.wah_logic.proofs.unions.is_dense.Goals as goal

pub overflow_add-words : goal.overflow_add-words
overflow_add-words g c = omega (arith, c.if-words-groups.false, c.groups_in-groups.ensures, c.requires, c.words-words.ensures.words, c.words-words.ensures.limit, words_of_le c.rows.result.now)
