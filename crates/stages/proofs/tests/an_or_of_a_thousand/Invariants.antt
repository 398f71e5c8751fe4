use Rattle.stages.proofs.tests.an_or_of_a_thousand.Given as goal

abbrev pub ghosts-numbers : goal.ghosts-numbers
ghosts-numbers g a = record { name = a.blank.name; parts = a.blank.parts }
