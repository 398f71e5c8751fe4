use Rattle.enc_two_level.proofs.tests.runs_are_the_unions_of_their_bins_by_two_levels.Given as goal

abbrev pub ghosts-all_agree : goal.ghosts-all_agree
ghosts-all_agree g a = record { name = a.blank.name; parts = a.blank.parts }
