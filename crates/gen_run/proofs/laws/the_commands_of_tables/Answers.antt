use Rattle.std.proofs.Common.{refl}
use Rattle.gen_run.specs.Made.{indexed_columns, queries, specifications, table_path}
use Rattle.gen_run.proofs.laws.the_commands_of_tables.Goals as goal

pub returns : goal.returns
unfolding specifications queries table_path indexed_columns
returns c = record { number = refl; first = refl }
