use Rattle.std.proofs.Common.{arith}
use Rattle.wah_words.proofs.SpellingLemmas.{words_of_le}
use Rattle.wah_logic.proofs.unions.or_both.Goals as goal

pub overflow_add-words : goal.overflow_add-words
overflow_add-words g c = omega (arith, words_of_le c.args.a.now, words_of_le c.args.b.now, c.words.ensures.words, c.words.ensures.limit, c.words-2.ensures.words, c.words-2.ensures.limit)
