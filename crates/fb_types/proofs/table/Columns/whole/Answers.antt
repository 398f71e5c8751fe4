use Rattle.std.proofs.Common.{◌≡◌, arith, get_or, ap, []}
use Rattle.fb_types.specs.Slots.{whole_in}
use Rattle.fb_types.specs.Table.{cell_at}
use Rattle.fb_types.proofs.CellFacts.{whole_of_record, whole_column_within}
use Rattle.fb_types.proofs.RowFacts.{cell_place, cell_found, record_fits}
use Rattle.fb_types.proofs.table.Columns.whole.Goals as goal

pub whole-requires : goal.whole-requires
whole-requires c =
    let within = whole_column_within c.args.self.now.schema c.args.col c.requires.column in
    rw c.columns-width.ensures.value (cell_place c.self.inside.schema c.self.inside.rows c.self.inside.cells c.args.self.now c.args.row c.args.col c.self.view_is c.self.invariant c.requires.row within)

pub overflow_mul-row : goal.overflow_mul-row
overflow_mul-row c =
    let within = whole_column_within c.args.self.now.schema c.args.col c.requires.column in
    rw c.columns-width.ensures.value (omega (arith, c.self.invariant.few, cell_place c.self.inside.schema c.self.inside.rows c.self.inside.cells c.args.self.now c.args.row c.args.col c.self.view_is c.self.invariant c.requires.row within))

pub overflow_add-row : goal.overflow_add-row
overflow_add-row c =
    let within = whole_column_within c.args.self.now.schema c.args.col c.requires.column in
    rw c.columns-width.ensures.value (omega (arith, c.self.invariant.few, cell_place c.self.inside.schema c.self.inside.rows c.self.inside.cells c.args.self.now c.args.row c.args.col c.self.view_is c.self.invariant c.requires.row within))

pub returns : goal.returns
returns c =
    let within = whole_column_within c.args.self.now.schema c.args.col c.requires.column in
    let found = cell_found c.self.inside.schema c.self.inside.rows c.self.inside.cells c.args.self.now c.args.row c.args.col c.self.view_is c.requires.row within in
    let fits = record_fits c.self.inside.schema c.self.inside.rows c.self.inside.cells c.args.self.now c.args.row c.self.view_is c.self.invariant c.requires.row in
    let answer = whole_of_record (get_or c.args.self.now.records c.args.row []) c.args.self.now.schema c.args.col fits c.requires.column in
    let is : c.whole.result ≡ whole_in (cell_at c.args.self.now c.args.row c.args.col) =
    rw (c.whole.ensures, c.columns-width.ensures.value) (ap whole_in found) in
    rw is answer
