use Rattle.index_spec.proofs.Laws.{spec_of-spelled}
use Rattle.index_spec.proofs.Again.{printed-spelled, length-printed}
use Rattle.index_spec.specs.Printed.{printed}
use Rattle.index_spec.proofs.printing.print_spec.Goals as goal

pub returns-clause-read_again : goal.returns-clause-read_again
returns-clause-read_again c = λ given. spec_of-spelled (printed c.args.spec.now) c.args.spec.now (printed-spelled c.args.spec.now given)

pub returns-clause-spelled : goal.returns-clause-spelled
returns-clause-spelled c = λ given. printed-spelled c.args.spec.now given

pub returns-clause-short : goal.returns-clause-short
returns-clause-short c = λ given. length-printed c.args.spec.now given
