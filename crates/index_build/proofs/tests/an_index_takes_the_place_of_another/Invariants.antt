use Rattle.index_build.proofs.tests.an_index_takes_the_place_of_another.Given as goal

abbrev pub ghosts-built : goal.ghosts-built
ghosts-built g a = record { name = a.blank.name; parts = a.blank.parts }
