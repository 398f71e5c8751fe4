use Rattle.bin_answers.proofs.tests.a_damaged_bitmap_is_refused.Given as goal

abbrev pub ghosts-found : goal.ghosts-found
ghosts-found g a = record { name = a.blank.name; parts = a.blank.parts }
