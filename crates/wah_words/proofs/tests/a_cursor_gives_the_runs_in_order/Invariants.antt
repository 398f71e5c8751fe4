use Rattle.wah_words.proofs.tests.a_cursor_gives_the_runs_in_order.Given as goal

abbrev pub ghosts-runs_of : goal.ghosts-runs_of
ghosts-runs_of g a = record { name = a.blank.name; parts = a.blank.parts }

abbrev pub ghosts-first_of : goal.ghosts-first_of
ghosts-first_of g a = record { name = a.blank.name; parts = a.blank.parts }
