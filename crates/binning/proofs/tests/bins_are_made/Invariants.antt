use Rattle.binning.proofs.tests.bins_are_made.Given as goal

abbrev pub ghosts-numbers_of_bins : goal.ghosts-numbers_of_bins
ghosts-numbers_of_bins g a = record { name = a.blank.name; parts = a.blank.parts }
