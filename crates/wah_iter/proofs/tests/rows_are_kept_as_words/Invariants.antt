use Rattle.wah_iter.proofs.tests.rows_are_kept_as_words.Given as goal

abbrev pub ghosts-bytes_of : goal.ghosts-bytes_of
ghosts-bytes_of g a = record { name = a.blank.name; parts = a.blank.parts }
