use Rattle.ibis_answer.proofs.tests.check_estimate.Given as goal

abbrev pub ghosts-estimated : goal.ghosts-estimated
ghosts-estimated g a = record { name = a.blank.name; parts = a.blank.parts }
