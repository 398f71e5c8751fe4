use Rattle.std.proofs.Common.{◌≡◌, ◌≢◌, ◌∙◌, List, ℕ, Option, None, Ok, Err, subst, sym}
use Rattle.std.proofs.lemmas.Result.{err_from_is_err_and}
use Rattle.fb_outside.specs.Files.{Files, SameFiles}
use Rattle.fb_outside.specs.Puts.{PutsAll, PutsFront}
use Rattle.dataset.specs.Appended.{append_files}
use Rattle.dataset.specs.Opened.{catalog_in}
use Rattle.ardea.specs.Answers.{GivesCatalog, StopsBy, refusal_of}
use Rattle.ardea.proofs.AnswerLemmas.{StopsBy-weaker}
use Rattle.ardea.proofs.EndLemmas.{GivesCatalog-same, IsReady, ends_add, ends_dataset, ends_done, ends_table, file_asked, store_asked}
use Rattle.ardea.proofs.LookLemmas.{load_looks, load_looks_all}
use Rattle.ardea.proofs.load.Goals as goal

pub returns-in_err-columns-clause-ends : goal.returns-in_err-columns-clause-ends
returns-in_err-columns-clause-ends g c =
    let p = err_from_is_err_and c.from_residual.result c.from_residual.ensures.1 in
    rw (p.1, p.2) (ends_table c.args.load.now _ _ _ c.in_err-columns.field-0.0 c.table_of.ensures.files c.in_err-columns.ensures.stop)

pub returns-in_err-columns-clause-asks_store : goal.returns-in_err-columns-clause-asks_store
returns-in_err-columns-clause-asks_store g c =
    let p = err_from_is_err_and c.from_residual.result c.from_residual.ensures.1 in
    rw (p.1, p.2) (λ failed. file_asked c.args.load.now _ _ c.in_err-columns.field-0.0 c.in_err-columns.ensures.stop (cc))

pub returns-in_err-dataset-clause-ends : goal.returns-in_err-dataset-clause-ends
returns-in_err-dataset-clause-ends g c =
    let p = err_from_is_err_and c.from_residual-in_err-dataset.result c.from_residual-in_err-dataset.ensures.1 in
    rw (p.1, p.2)
    (ends_dataset c.args.load.now _ _ _ c.in_ok-columns.columns c.in_err-dataset.field-0.0 (c.dataset_of.ensures.files ∙ c.table_of.ensures.files)
    c.in_ok-columns.ensures.table
    (StopsBy-weaker _ _ _ _ _ _
    (λ why k. GivesCatalog-same c.args.load.now.dir c.schema.result.now c.in_ok-columns.columns.schema _ _ (Err why) c.schema.ensures.value
    c.table_of.ensures.files k)
    (λ h. h) (λ h. h) c.in_err-dataset.field-0.0 c.in_err-dataset.ensures.stop))

pub returns-in_err-dataset-clause-asks_store : goal.returns-in_err-dataset-clause-asks_store
returns-in_err-dataset-clause-asks_store g c = λ failed. store_asked c.args.load.now _ _ c.in_ok-columns.columns c.in_ok-columns.ensures.table

pub returns-in_err-add-clause-ends : goal.returns-in_err-add-clause-ends
returns-in_err-add-clause-ends g c =
    let p = err_from_is_err_and c.from_residual-in_err-add.result c.from_residual-in_err-add.ensures.1 in
    let files : Option Files = g.S.Store.files c.args.store.now in
    let same : SameFiles files (g.S.Store.files c.dataset_of.new.store) = c.dataset_of.ensures.files ∙ c.table_of.ensures.files in
    let catalog = catalog_in c.in_ok-dataset.dataset in
    let list = append_files c.args.load.now.dir catalog c.args.load.now.per_part c.in_ok-columns.columns.records in
    let ready : IsReady c.args.load.now (g.I.Source.left c.args.input.now) files c.in_ok-columns.columns catalog =
    record {
      table_read = c.in_ok-columns.ensures.table;
      opened = GivesCatalog-same c.args.load.now.dir c.schema.result.now c.in_ok-columns.columns.schema _ _ (Ok catalog) c.schema.ensures.value
          c.table_of.ensures.files c.in_ok-dataset.ensures.catalog;
      schema = c.schema.ensures.valid;
      fit = c.schema.ensures.fits;
    } in
    let put : PutsFront list files (g.S.Store.files c.add.new.store) =
    subst (λ (f : Option Files). PutsFront list f (g.S.Store.files c.add.new.store)) same
    (subst (λ (dir : List ℕ). PutsFront (append_files dir catalog c.args.load.now.per_part c.in_ok-columns.columns.records)
    (g.S.Store.files c.dataset_of.new.store) (g.S.Store.files c.add.new.store))
    c.in_ok-dataset.ensures.path c.in_err-add.ensures.files) in
    rw (p.1, p.2)
    (ends_add c.args.load.now _ files _ c.in_ok-columns.columns catalog c.in_err-add.field-0.0 ready c.in_err-add.ensures.stop
    (λ why. c.add.ensures.kept why ∙ same) put)

pub returns-in_err-add-clause-asks_store : goal.returns-in_err-add-clause-asks_store
returns-in_err-add-clause-asks_store g c = λ failed. store_asked c.args.load.now _ _ c.in_ok-columns.columns c.in_ok-columns.ensures.table

pub returns-clause-ends : goal.returns-clause-ends
returns-clause-ends g c =
    let files : Option Files = g.S.Store.files c.args.store.now in
    let same : SameFiles files (g.S.Store.files c.dataset_of.new.store) = c.dataset_of.ensures.files ∙ c.table_of.ensures.files in
    let catalog = catalog_in c.in_ok-dataset.dataset in
    let list = append_files c.args.load.now.dir catalog c.args.load.now.per_part c.in_ok-columns.columns.records in
    let ready : IsReady c.args.load.now (g.I.Source.left c.args.input.now) files c.in_ok-columns.columns catalog =
    record {
      table_read = c.in_ok-columns.ensures.table;
      opened = GivesCatalog-same c.args.load.now.dir c.schema.result.now c.in_ok-columns.columns.schema _ _ (Ok catalog) c.schema.ensures.value
          c.table_of.ensures.files c.in_ok-dataset.ensures.catalog;
      schema = c.schema.ensures.valid;
      fit = c.schema.ensures.fits;
    } in
    let put : PutsAll list files (g.S.Store.files c.add.new.store) =
    subst (λ (f : Option Files). PutsAll list f (g.S.Store.files c.add.new.store)) same
    (subst (λ (dir : List ℕ). PutsAll (append_files dir catalog c.args.load.now.per_part c.in_ok-columns.columns.records)
    (g.S.Store.files c.dataset_of.new.store) (g.S.Store.files c.add.new.store))
    c.in_ok-dataset.ensures.path c.in_ok-add.ensures.files) in
    ends_done c.args.load.now _ files _ c.in_ok-columns.columns catalog c.rows.result ready c.in_ok-add.ensures.accepts c.rows.ensures put

pub returns-in_err-dataset-clause-reads : goal.returns-in_err-dataset-clause-reads
returns-in_err-dataset-clause-reads g c = load_looks c.args.load.now _ _ _ c.table_of.ensures.reads c.dataset_of.ensures.reads

pub returns-in_err-add-clause-reads : goal.returns-in_err-add-clause-reads
returns-in_err-add-clause-reads g c =
    load_looks_all c.args.load.now _ _ _ _ c.table_of.ensures.reads c.dataset_of.ensures.reads c.add.ensures.reads

pub returns-clause-reads : goal.returns-clause-reads
returns-clause-reads g c = load_looks_all c.args.load.now _ _ _ _ c.table_of.ensures.reads c.dataset_of.ensures.reads c.add.ensures.reads
