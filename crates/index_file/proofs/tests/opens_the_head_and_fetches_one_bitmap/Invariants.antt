use Rattle.index_file.proofs.tests.opens_the_head_and_fetches_one_bitmap.Given as goal

abbrev pub ghosts-has_bytes : goal.ghosts-has_bytes
ghosts-has_bytes g a = record { name = a.blank.name; parts = a.blank.parts }
