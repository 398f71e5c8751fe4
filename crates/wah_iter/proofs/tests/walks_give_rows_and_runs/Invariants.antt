use Rattle.wah_iter.proofs.tests.walks_give_rows_and_runs.Given as goal

abbrev pub ghosts-look_at : goal.ghosts-look_at
ghosts-look_at g a = record { name = a.blank.name; parts = a.blank.parts }

abbrev pub ghosts-value_at : goal.ghosts-value_at
ghosts-value_at g a = record { name = a.blank.name; parts = a.blank.parts }
