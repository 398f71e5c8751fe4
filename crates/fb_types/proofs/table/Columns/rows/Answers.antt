use Rattle.std.proofs.Common.{sym, length}
use Rattle.fb_types.proofs.RowFacts.{length-rows_of}
use Rattle.fb_types.proofs.table.Columns.rows.Goals as goal

pub returns : goal.returns
returns c = rw (← c.self.view_is) (sym (length-rows_of (length c.self.inside.schema) c.self.inside.rows c.self.inside.cells))
