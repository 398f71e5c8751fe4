use Rattle.wah_iter.proofs.tests.parts_are_the_values.Given as goal

abbrev pub ghosts-parts_of : goal.ghosts-parts_of
ghosts-parts_of g a = record { name = a.blank.name; parts = a.blank.parts }

abbrev pub ghosts-bytes_of : goal.ghosts-bytes_of
ghosts-bytes_of g a = record { name = a.blank.name; parts = a.blank.parts }
