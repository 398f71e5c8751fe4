use Rattle.std.proofs.lemmas.List.Elements.{All-from_recursion}
use Rattle.column_file.specs.Values.{ValueFits}
use Rattle.column_file.proofs.tests.check_file.Goals as goal

pub write_column-requires-clause-values : goal.write_column-requires-clause-values
write_column-requires-clause-values g c = All-from_recursion (λ value. ValueFits value c.args.ty) c.args.values.now c.requires.values
