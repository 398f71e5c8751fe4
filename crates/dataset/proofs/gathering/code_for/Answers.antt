use Rattle.std.proofs.Common.{sym, ◌∙◌}
use Rattle.dataset.proofs.CodeLemmas.{known_word}
use Rattle.dataset.proofs.gathering.code_for.Goals as goal

pub returns-in-Some-clause-words : goal.returns-in-Some-clause-words
returns-in-Some-clause-words c = known_word c.args.words.now c.args.word.now c.in-Some.code (sym c.code_of.ensures ∙ c.in-Some.is)
