use Rattle.wah_logic.proofs.tests.a_dense_union_has_the_rows_of_each.Given as goal

abbrev pub ghosts-rows_agree : goal.ghosts-rows_agree
ghosts-rows_agree g a = record { name = a.blank.name; parts = a.blank.parts }
