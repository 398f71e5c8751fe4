use Rattle.two_stage.proofs.tests.asked.Given as goal

abbrev pub ghosts-numbers : goal.ghosts-numbers
ghosts-numbers g a = record { name = a.blank.name; parts = a.blank.parts }
