use Rattle.std.proofs.Common.{◌≡◌, sym, ap, ◌∙◌, count_by}
use Rattle.wah_words.specs.Left.{run_values, run_of_word}
use Rattle.wah_words.proofs.WordsLemmas.{decoded_literal}
use Rattle.wah_words.proofs.OnesLemmas.{ones-places}
use Rattle.wah_words.proofs.words.ones_in.Goals as goal

pub returns-then-word-lt-FILL : goal.returns-then-word-lt-FILL
returns-then-word-lt-FILL c =
    rw (decoded_literal c.args.word c.if-word-lt-FILL.true) (c.from-then-word-lt-FILL.ensures ∙ sym (ones-places 31 c.args.word c.if-word-lt-FILL.true))
