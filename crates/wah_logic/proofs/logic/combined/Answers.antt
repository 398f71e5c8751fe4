use Rattle.std.proofs.Common.{length, ap, ◌∙◌, arith}
use Rattle.wah_words.proofs.SpellingLemmas.{words_of_le}
use Rattle.wah_logic.proofs.JoinLemmas.{length-each}
use Rattle.wah_logic.proofs.logic.combined.Goals as goal

pub overflow_add-words : goal.overflow_add-words
overflow_add-words g c = omega (arith, words_of_le c.args.a.now, words_of_le c.args.b.now, c.words.ensures.limit, c.words-2.ensures.limit)

pub returns-clause-length : goal.returns-clause-length
returns-clause-length g c = ap length c.combine.ensures.values ∙ length-each g.O.BitOp.op c.args.a.now c.args.b.now c.requires

pub returns-clause-groups : goal.returns-clause-groups
returns-clause-groups g c = omega (arith, words_of_le c.args.a.now, words_of_le c.args.b.now, c.requires)
