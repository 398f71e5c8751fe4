use Rattle.wah_logic.proofs.tests.unions_of_few_leave_none_out.Given as goal

abbrev pub ghosts-union_of_groups : goal.ghosts-union_of_groups
ghosts-union_of_groups g a = record { name = a.blank.name; parts = a.blank.parts }
