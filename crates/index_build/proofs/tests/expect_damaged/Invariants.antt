use Rattle.index_build.proofs.tests.expect_damaged.Given as goal

abbrev pub ghosts-built : goal.ghosts-built
ghosts-built g a = record { name = a.blank.name; parts = a.blank.parts }
