use Rattle.std.proofs.Common.{[], ◌∷◌, List, subst, sym}
use Rattle.fb_outside.specs.Puts.{File, PutsFront, PutsInOrder}
use Rattle.fb_outside.proofs.PutLemmas.{PutsInOrder-then, PutsInOrder-err, PutsFront-more}
use Rattle.part_meta.specs.FileNames.{part_name}
use Rattle.part_meta.specs.PartText.{part_text}
use Rattle.world.specs.PartFiles.{columns_files}
use Rattle.dataset.specs.WrittenColumns.{part_from}
use Rattle.dataset.proofs.FileLemmas.{part_files-is}
use Rattle.dataset.proofs.part_writing.write_part.Goals as goal

pub returns-in_err-write_columns-clause-files : goal.returns-in_err-write_columns-clause-files
returns-in_err-write_columns-clause-files g c =
    let dir = c.args.dir.now in
    let table = c.args.columns.now in
    let meta = c.args.meta.now in
    let columns = columns_files dir (part_from table meta.number c.args.first meta.rows) 0 table.schema in
    let text : List File = record { name = part_name dir meta.number; bytes = part_text meta } ∷ [] in
    PutsInOrder-err _ c.from_residual.result _ _ c.from_residual.ensures.0
    (subst (λ (fs : List File). PutsFront fs (g.S.Store.files c.args.store.now) (g.S.Store.files c.write_columns.new.store))
    (sym (part_files-is dir table meta c.args.first c.requires.within c.requires.schema))
    (PutsFront-more columns text _ _ c.in_err-write_columns.ensures.files))

pub returns-clause-files : goal.returns-clause-files
returns-clause-files g c =
    let dir = c.args.dir.now in
    let table = c.args.columns.now in
    let meta = c.args.meta.now in
    let columns = columns_files dir (part_from table meta.number c.args.first meta.rows) 0 table.schema in
    let text : List File = record { name = part_name dir meta.number; bytes = part_text meta } ∷ [] in
    subst (λ (fs : List File). PutsInOrder fs c.write_part_text.result (g.S.Store.files c.args.store.now) (g.S.Store.files c.write_part_text.new.store))
    (sym (part_files-is dir table meta c.args.first c.requires.within c.requires.schema))
    (PutsInOrder-then columns text c.write_part_text.result _ _ _ c.in_ok-write_columns.ensures.files c.write_part_text.ensures.files)
