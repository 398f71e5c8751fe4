use Rattle.three_valued.proofs.tests.and_of_nine_pairs.Given as goal

abbrev pub ghosts-gives : goal.ghosts-gives
ghosts-gives g a = record { name = a.blank.name; parts = a.blank.parts }
