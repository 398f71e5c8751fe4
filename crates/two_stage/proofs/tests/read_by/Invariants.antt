use Rattle.two_stage.proofs.tests.read_by.Given as goal

abbrev pub ghosts-evaluated : goal.ghosts-evaluated
ghosts-evaluated g a = record { name = a.blank.name; parts = a.blank.parts }
