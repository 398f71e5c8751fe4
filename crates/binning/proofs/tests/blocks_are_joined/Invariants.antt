use Rattle.binning.proofs.tests.blocks_are_joined.Given as goal

abbrev pub ghosts-numbers_of_blocks : goal.ghosts-numbers_of_blocks
ghosts-numbers_of_blocks g a = record { name = a.blank.name; parts = a.blank.parts }
