use Rattle.std.proofs.Common.{arith}
use Rattle.wah_words.proofs.SpellingLemmas.{words_of_le}
use Rattle.wah_iter.proofs.making.slice.Goals as goal

pub overflow_mul-words : goal.overflow_mul-words
overflow_mul-words g c = omega (arith, words_of_le c.args.v.now, c.words-words.ensures.words, c.words-words.ensures.limit)
