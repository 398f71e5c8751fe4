use Rattle.std.proofs.Common.{◌≡◌, ◌-◌, ◌++◌}
use Rattle.generator.specs.Generated.{generated, generated_columns}
use Rattle.generator.proofs.drawing.generate.Given as goal

abbrev pub invariant-loop : goal.invariant-loop
invariant-loop l = record {
  schema : l.table.schema ≡ generated_columns;
  records : l.table.records ++ generated (l.rows - l.counter) l.x ≡ generated l.rows l.seed;
}
