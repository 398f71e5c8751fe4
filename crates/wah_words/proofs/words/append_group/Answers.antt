use Rattle.std.proofs.Common.{arith}
use Rattle.wah_words.proofs.WordsLemmas.{appends_literal, appends_zeros, appends_ones}
use Rattle.wah_words.proofs.words.append_group.Goals as goal

pub returns-then-word-eq0-clause-appends : goal.returns-then-word-eq0-clause-appends
returns-then-word-eq0-clause-appends c = rw c.if-word-eq0.true (appends_zeros c.args.regular.now.items c.append_fill.new.regular.items c.append_fill.ensures.appends)

pub returns-then-word-eq-ALL_ONES-clause-appends : goal.returns-then-word-eq-ALL_ONES-clause-appends
returns-then-word-eq-ALL_ONES-clause-appends c = rw c.if-word-eq-ALL_ONES.true (appends_ones c.args.regular.now.items c.append_fill-then-word-eq-ALL_ONES.new.regular.items c.append_fill-then-word-eq-ALL_ONES.ensures.appends)

pub returns-else-word-eq-ALL_ONES-clause-appends : goal.returns-else-word-eq-ALL_ONES-clause-appends
returns-else-word-eq-ALL_ONES-clause-appends c = rw c.push_reserved.ensures.items (appends_literal c.args.regular.now.items c.args.word (omega arith) (omega arith) c.requires.canonical)
