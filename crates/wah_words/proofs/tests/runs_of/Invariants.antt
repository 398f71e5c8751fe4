use Rattle.wah_words.proofs.tests.runs_of.Given as goal

abbrev pub decreases-loop-run : goal.decreases-loop-run
decreases-loop-run g l = l.cursor.words
