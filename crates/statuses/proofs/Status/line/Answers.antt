use Rattle.statuses.proofs.Status.line.Goals as goal

pub returns-in-Damaged : goal.returns-in-Damaged
returns-in-Damaged c = rw c.in-Damaged.is (c.damaged_line.ensures _ _)
