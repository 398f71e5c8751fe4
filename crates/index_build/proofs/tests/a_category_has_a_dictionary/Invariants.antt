use Rattle.index_build.proofs.tests.a_category_has_a_dictionary.Given as goal

abbrev pub ghosts-built : goal.ghosts-built
ghosts-built g a = record { name = a.blank.name; parts = a.blank.parts }
