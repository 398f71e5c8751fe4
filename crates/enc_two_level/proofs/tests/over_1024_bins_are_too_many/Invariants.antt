use Rattle.enc_two_level.proofs.tests.over_1024_bins_are_too_many.Given as goal

abbrev pub ghosts-too_many : goal.ghosts-too_many
ghosts-too_many g a = record { name = a.blank.name; parts = a.blank.parts }
