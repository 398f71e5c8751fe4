use Rattle.wah_logic.proofs.tests.union_of_many_has_the_rows_of_each.Given as goal

abbrev pub ghosts-union_of_groups : goal.ghosts-union_of_groups
ghosts-union_of_groups g a = record { name = a.blank.name; parts = a.blank.parts }
