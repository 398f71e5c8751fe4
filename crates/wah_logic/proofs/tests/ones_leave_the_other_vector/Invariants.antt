use Rattle.wah_logic.proofs.tests.ones_leave_the_other_vector.Given as goal

abbrev pub ghosts-answered : goal.ghosts-answered
ghosts-answered g a = record { name = a.blank.name; parts = a.blank.parts }

abbrev pub ghosts-union_of_none : goal.ghosts-union_of_none
ghosts-union_of_none g a = record { name = a.blank.name; parts = a.blank.parts }
