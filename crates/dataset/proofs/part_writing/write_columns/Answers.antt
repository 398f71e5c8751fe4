use Rattle.std.proofs.Common.{◌<◌, ◌≤◌, ◌+◌, List, get_or, length, take, refl, ap, subst, sym, ◌∙◌, arith}
use Rattle.std.proofs.lemmas.List.{take_all}
use Rattle.fb_types.specs.declared.schemas.Column.{Column}
use Rattle.fb_outside.specs.Puts.{File, PutsAll, PutsFront}
use Rattle.fb_outside.proofs.PutLemmas.{PutsAll-none, PutsAll-append, PutsInOrder-err, PutsFront-append}
use Rattle.world.specs.PartFiles.{column_files, columns_files}
use Rattle.world.specs.Cells.{column_cells}
use Rattle.dataset.specs.WrittenColumns.{part_from}
use Rattle.dataset.proofs.CellLemmas.{cells_fit, length-cells}
use Rattle.dataset.proofs.FileLemmas.{columns_files-more, front_of_columns, there_is}
use Rattle.dataset.proofs.part_writing.write_columns.Goals as goal

pub loop-col-init : goal.loop-col-init
loop-col-init g c = record { files = PutsAll-none (g.S.Store.files c.args.store.now) (g.S.Store.files c.args.store.now) refl; reads = refl; cause = refl }

pub loop-col-preserved : goal.loop-col-preserved
loop-col-preserved g c =
    let dir = c.args.dir.now in
    let table = c.args.columns.now in
    let meta = c.args.meta.now in
    let part = part_from table meta.number c.args.first meta.rows in
    let same = c.columns-column-items.ensures.value ∙ c.schema.ensures.value in
    let col = c.loop-col.col in
    let column = c.column-item.result in
    let before = columns_files dir part 0 (take col table.schema) in
    let files = column_files dir meta.number column (column_cells col part.records) in
    let len = ap length same in
    let within : col < length table.schema = omega (arith, len, c.loop-col-test.true) in
    let is = c.column-item.is ∙ ap (λ (xs : List Column). get_or xs col column) same in
    record {
      files = subst (λ (fs : List File). PutsAll fs (g.S.Store.files c.args.store.now) (g.S.Store.files c.write_column_files.new.store))
          (sym (columns_files-more dir part col table.schema column within (sym is)))
          (PutsAll-append before files _ _ _ c.loop-col.invariant.files c.in_ok-write_column_files.ensures.files);
      reads = c.in_ok-write_column_files.ensures.reads ∙ c.loop-col.invariant.reads;
      cause = c.in_ok-write_column_files.ensures.cause.told (λ e. absurd (cc)) ∙ c.loop-col.invariant.cause;
    }

pub invariant_of-part : goal.invariant_of-part
invariant_of-part g c =
    let table = c.args.columns.now in
    let meta = c.args.meta.now in
    let same = c.columns-column-items.ensures.value ∙ c.schema.ensures.value in
    let col = c.loop-col.col in
    let column = c.column-item.result in
    let len = ap length same in
    let within : col < length table.schema = omega (arith, len, c.loop-col-test.true) in
    let is = c.column-item.is ∙ ap (λ (xs : List Column). get_or xs col column) same in
    let there = there_is table.schema col column within is in
    let size = length-cells table col c.args.first meta.rows c.requires.within in (
      record { there = there; within = c.requires.within; few = c.requires.small },
      record {
        path = c.requires.path;
        number = c.requires.number;
        few = omega (arith, size, c.requires.few);
        fit = cells_fit table column col c.args.first meta.rows c.schema.ensures.fits there;
      },
    )

pub returns-in_err-write_column_files-clause-files : goal.returns-in_err-write_column_files-clause-files
returns-in_err-write_column_files-clause-files g c =
    let dir = c.args.dir.now in
    let table = c.args.columns.now in
    let meta = c.args.meta.now in
    let part = part_from table meta.number c.args.first meta.rows in
    let same = c.columns-column-items.ensures.value ∙ c.schema.ensures.value in
    let col = c.loop-col.col in
    let column = c.column-item.result in
    let before = columns_files dir part 0 (take col table.schema) in
    let files = column_files dir meta.number column (column_cells col part.records) in
    let len = ap length same in
    let within : col < length table.schema = omega (arith, len, c.loop-col-test.true) in
    let is = c.column-item.is ∙ ap (λ (xs : List Column). get_or xs col column) same in
    PutsInOrder-err (columns_files dir part 0 table.schema) c.from_residual.result _ _ c.from_residual.ensures.0
    (front_of_columns dir part (col + 1) table.schema _ _ (omega arith)
    (subst (λ (fs : List File). PutsFront fs (g.S.Store.files c.args.store.now) (g.S.Store.files c.write_column_files.new.store))
    (sym (columns_files-more dir part col table.schema column within (sym is)))
    (PutsFront-append before files _ _ _ c.loop-col.invariant.files c.in_err-write_column_files.ensures.files)))

pub returns-clause-files : goal.returns-clause-files
returns-clause-files g c =
    let table = c.args.columns.now in
    let meta = c.args.meta.now in
    let part = part_from table meta.number c.args.first meta.rows in
    let len = ap length (c.columns-column-items.ensures.value ∙ c.schema.ensures.value) in
    let all : length table.schema ≤ c.loop-col.col = omega (arith, len, c.loop-col-test.false) in
    subst (λ (xs : List Column). PutsAll (columns_files c.args.dir.now part 0 xs) (g.S.Store.files c.args.store.now) (g.S.Store.files c.loop-col.store))
    (take_all c.loop-col.col table.schema all) c.loop-col.invariant.files
