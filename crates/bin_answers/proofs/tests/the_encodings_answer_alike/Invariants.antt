use Rattle.bin_answers.proofs.tests.the_encodings_answer_alike.Given as goal

abbrev pub ghosts-found : goal.ghosts-found
ghosts-found g a = record { name = a.blank.name; parts = a.blank.parts }
