use Rattle.std.proofs.Common.{◌≡◌, arith, get_or, ap, []}
use Rattle.std.specs.Option.{option_copied}
use Rattle.fb_types.specs.Slots.{word_in}
use Rattle.fb_types.specs.Table.{cell_at}
use Rattle.fb_types.proofs.CellFacts.{copied_word, word_of_record, word_column_within}
use Rattle.fb_types.proofs.RowFacts.{cell_place, cell_found, record_fits}
use Rattle.fb_types.proofs.table.Columns.word.Goals as goal

pub word-requires : goal.word-requires
word-requires c =
    let within = word_column_within c.args.self.now.schema c.args.col c.requires.column in
    rw c.columns-width.ensures.value (cell_place c.self.inside.schema c.self.inside.rows c.self.inside.cells c.args.self.now c.args.row c.args.col c.self.view_is c.self.invariant c.requires.row within)

pub overflow_mul-row : goal.overflow_mul-row
overflow_mul-row c =
    let within = word_column_within c.args.self.now.schema c.args.col c.requires.column in
    rw c.columns-width.ensures.value (omega (arith, c.self.invariant.few, cell_place c.self.inside.schema c.self.inside.rows c.self.inside.cells c.args.self.now c.args.row c.args.col c.self.view_is c.self.invariant c.requires.row within))

pub overflow_add-row : goal.overflow_add-row
overflow_add-row c =
    let within = word_column_within c.args.self.now.schema c.args.col c.requires.column in
    rw c.columns-width.ensures.value (omega (arith, c.self.invariant.few, cell_place c.self.inside.schema c.self.inside.rows c.self.inside.cells c.args.self.now c.args.row c.args.col c.self.view_is c.self.invariant c.requires.row within))

pub returns : goal.returns
returns c =
    let within = word_column_within c.args.self.now.schema c.args.col c.requires.column in
    let found = cell_found c.self.inside.schema c.self.inside.rows c.self.inside.cells c.args.self.now c.args.row c.args.col c.self.view_is c.requires.row within in
    let fits = record_fits c.self.inside.schema c.self.inside.rows c.self.inside.cells c.args.self.now c.args.row c.self.view_is c.self.invariant c.requires.row in
    let answer = word_of_record (get_or c.args.self.now.records c.args.row []) c.args.self.now.schema c.args.col fits c.requires.column in
    let is : option_copied c.word.result ≡ word_in (cell_at c.args.self.now c.args.row c.args.col) =
    rw (c.word.ensures, c.columns-width.ensures.value) (ap word_in found) in
    copied_word c.word.result (cell_at c.args.self.now c.args.row c.args.col) is answer
