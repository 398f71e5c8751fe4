use Rattle.std.proofs.Common.{◌≡◌, ◌+◌, ◌++◌, arith}
use Rattle.fb_types.specs.Cells.{RecordFits}
use Rattle.fb_types.proofs.CellFacts.{AllStorable-fits}
use Rattle.fb_types.proofs.RowFacts.{pushed, pushed_table, rows_few}
use Rattle.fb_types.proofs.table.Columns.push_slice.Goals as goal

pub extend-requires : goal.extend-requires
extend-requires c = AllStorable-fits _ _ c.requires

pub overflow_add-self : goal.overflow_add-self
overflow_add-self c =
    let fits : RecordFits c.args.cells.now c.self.inside.schema = rw (← c.self.view_is) at c.requires in
    let is : c.extend.new.self ≡ c.self.inside.cells ++ c.args.cells.now = c.in_ok-extend.ensures.ok in
    let few = rows_few c.self.inside.schema (c.self.inside.rows + 1) c.extend.new.self (pushed c.self.inside.schema c.self.inside.rows c.self.inside.cells c.extend.new.self c.args.cells.now c.self.invariant fits is c.in_ok-extend.ensures.few) in
    omega (arith, few)

pub invariant_of-self-2 : goal.invariant_of-self-2
invariant_of-self-2 c =
    let fits : RecordFits c.args.cells.now c.self.inside.schema = rw (← c.self.view_is) at c.requires in
    let is : c.extend.new.self ≡ c.self.inside.cells ++ c.args.cells.now = c.in_ok-extend.ensures.ok in
    pushed c.self.inside.schema c.self.inside.rows c.self.inside.cells c.extend.new.self c.args.cells.now c.self.invariant fits is c.in_ok-extend.ensures.few

pub returns-clause-ok : goal.returns-clause-ok
returns-clause-ok c =
    let fits : RecordFits c.args.cells.now c.self.inside.schema = rw (← c.self.view_is) at c.requires in
    let is : c.extend.new.self ≡ c.self.inside.cells ++ c.args.cells.now = c.in_ok-extend.ensures.ok in
    pushed_table c.self.inside.schema c.self.inside.rows c.self.inside.cells c.extend.new.self c.args.cells.now c.args.self.now c.self.view_is c.self.invariant fits is
