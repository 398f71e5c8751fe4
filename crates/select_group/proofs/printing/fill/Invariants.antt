use Rattle.std.proofs.Common.{◌≡◌, [], map, take}
use Rattle.csv.specs.Records.{fields_of, partial_of}
use Rattle.select_group.specs.Printed.{cell_text}
use Rattle.select_group.proofs.printing.fill.Given as goal

abbrev pub invariant-loop-cell : goal.invariant-loop-cell
invariant-loop-cell l = record {
  fields : fields_of l.line ≡ map cell_text (take l.cell-index l.row);
  partial : partial_of l.line ≡ [];
}
