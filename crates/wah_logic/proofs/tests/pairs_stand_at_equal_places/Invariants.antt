use Rattle.wah_logic.proofs.tests.pairs_stand_at_equal_places.Given as goal

abbrev pub ghosts-pairs_of : goal.ghosts-pairs_of
ghosts-pairs_of g a = record { name = a.blank.name; parts = a.blank.parts }
