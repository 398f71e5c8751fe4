use Rattle.std.proofs.lemmas.Result.{err_from_is_err_and}
use Rattle.fb_outside.proofs.ReadLemmas.{AddsOnly-trans}
use Rattle.index_build.proofs.OpeningLemmas.{both_open, column_is_refused, dictionary_is_refused, mask_looks}
use Rattle.index_build.proofs.opening.open_numbers.Goals as goal

-- ---- the column isn't opened

pub returns-in_err-found-clause-exact : goal.returns-in_err-found-clause-exact
returns-in_err-found-clause-exact g c =
    let p = err_from_is_err_and c.from_residual.result c.from_residual.ensures.1 in
    rw (p.1, p.2)
    (column_is_refused c.args.dataset.now c.args.part.now c.args.column.now (g.S.Store.files c.args.store.now) c.in_err-found.field-0.0
    c.in_err-found.ensures.exact)

pub returns-in_err-found-clause-reads : goal.returns-in_err-found-clause-reads
returns-in_err-found-clause-reads g c =
    mask_looks (g.S.Store.files c.args.store.now) c.args.dataset.now c.args.part.now c.args.column.now _ _ c.requires.number
    c.open_part_column.ensures.reads

-- ---- its dictionary isn't read

pub returns-in_err-read_words-clause-exact : goal.returns-in_err-read_words-clause-exact
returns-in_err-read_words-clause-exact g c =
    let p = err_from_is_err_and c.from_residual-in_err-read_words.result c.from_residual-in_err-read_words.ensures.1 in
    rw (p.1, p.2)
    (dictionary_is_refused c.args.dataset.now c.args.part.now c.args.column.now (g.S.Store.files c.args.store.now)
    (g.S.Store.files c.open_part_column.new.store) c.in_ok-found.found c.in_err-read_words.field-0.0 c.open_part_column.ensures.files
    c.in_ok-found.ensures.exact c.in_err-read_words.ensures.exact)

pub returns-in_err-read_words-clause-reads : goal.returns-in_err-read_words-clause-reads
returns-in_err-read_words-clause-reads g c =
    AddsOnly-trans _ _ _ _
    (mask_looks (g.S.Store.files c.args.store.now) c.args.dataset.now c.args.part.now c.args.column.now _ _ c.requires.number
    c.open_part_column.ensures.reads)
    c.read_words.ensures.reads

-- ---- both are

pub returns-clause-exact : goal.returns-clause-exact
returns-clause-exact g c =
    both_open c.args.dataset.now c.args.part.now c.args.column.now (g.S.Store.files c.args.store.now) (g.S.Store.files c.open_part_column.new.store)
    c.in_ok-found.found c.in_ok-read_words.field-0 c.open_part_column.ensures.files c.in_ok-found.ensures.exact c.in_ok-read_words.ensures.exact

pub returns-clause-reads : goal.returns-clause-reads
returns-clause-reads g c =
    AddsOnly-trans _ _ _ _
    (mask_looks (g.S.Store.files c.args.store.now) c.args.dataset.now c.args.part.now c.args.column.now _ _ c.requires.number
    c.open_part_column.ensures.reads)
    c.read_words.ensures.reads
