use Rattle.candidates.proofs.tests.values_that_cannot_be_read.Given as goal

abbrev pub ghosts-threes_and_fours : goal.ghosts-threes_and_fours
ghosts-threes_and_fours g a = record { name = a.blank.name; parts = a.blank.parts }
