use Rattle.stages.proofs.tests.an_estimate_is_exact_at_a_bound.Given as goal

abbrev pub ghosts-numbers : goal.ghosts-numbers
ghosts-numbers g a = record { name = a.blank.name; parts = a.blank.parts }
