use Rattle.wah_iter.proofs.tests.rows_make_a_vector_and_a_vector_rows.Given as goal

abbrev pub ghosts-bytes_of : goal.ghosts-bytes_of
ghosts-bytes_of g a = record { name = a.blank.name; parts = a.blank.parts }

abbrev pub ghosts-look_at : goal.ghosts-look_at
ghosts-look_at g a = record { name = a.blank.name; parts = a.blank.parts }

abbrev pub ghosts-value_at : goal.ghosts-value_at
ghosts-value_at g a = record { name = a.blank.name; parts = a.blank.parts }
