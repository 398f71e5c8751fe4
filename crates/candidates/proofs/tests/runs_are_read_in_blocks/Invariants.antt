use Rattle.candidates.proofs.tests.runs_are_read_in_blocks.Given as goal

abbrev pub ghosts-threes_and_fours : goal.ghosts-threes_and_fours
ghosts-threes_and_fours g a = record { name = a.blank.name; parts = a.blank.parts }
