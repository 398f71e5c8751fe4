use Rattle.wah_logic.proofs.tests.operations_are_those_of_the_lists.Given as goal

abbrev pub ghosts-all_agree : goal.ghosts-all_agree
ghosts-all_agree g a = record { name = a.blank.name; parts = a.blank.parts }
