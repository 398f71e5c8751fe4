use Rattle.candidates.proofs.tests.texts_are_read_in_runs.Given as goal

abbrev pub ghosts-texts_that_meet : goal.ghosts-texts_that_meet
ghosts-texts_that_meet g a = record { name = a.blank.name; parts = a.blank.parts }
