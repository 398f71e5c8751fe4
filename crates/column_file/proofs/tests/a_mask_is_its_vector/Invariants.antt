use Rattle.column_file.proofs.tests.a_mask_is_its_vector.Given as goal

abbrev pub ghosts-put_mask : goal.ghosts-put_mask
ghosts-put_mask g a = record { name = a.blank.name; parts = a.blank.parts }
