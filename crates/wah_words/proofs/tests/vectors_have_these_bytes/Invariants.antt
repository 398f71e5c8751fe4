use Rattle.wah_words.proofs.tests.vectors_have_these_bytes.Given as goal

abbrev pub ghosts-bytes_of : goal.ghosts-bytes_of
ghosts-bytes_of g a = record { name = a.blank.name; parts = a.blank.parts }
