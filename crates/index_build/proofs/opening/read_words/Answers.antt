use Rattle.index_build.proofs.OpeningLemmas.{no_words, words_are_read, words_are_refused, words_looks}
use Rattle.index_build.proofs.opening.read_words.Goals as goal

pub returns-in-Ok-clause-exact : goal.returns-in-Ok-clause-exact
returns-in-Ok-clause-exact g c =
    words_are_read c.args.dataset.now c.args.part.now c.args.column.now (g.S.Store.files c.args.store.now) c.in-Ok.field-0 _ c.in-Ok.ensures.exact

pub returns-in-Ok-clause-reads : goal.returns-in-Ok-clause-reads
returns-in-Ok-clause-reads g c =
    words_looks (g.S.Store.files c.args.store.now) c.args.dataset.now c.args.part.now c.args.column.now _ _ c.requires.number c.in-Category.is
    c.in-Ok.ensures.reads

pub returns-in-Category-clause-exact : goal.returns-in-Category-clause-exact
returns-in-Category-clause-exact g c =
    words_are_refused c.args.dataset.now c.args.part.now c.args.column.now (g.S.Store.files c.args.store.now) c.in-Err.fault c.in-Category.is
    c.in-Err.ensures.exact

pub returns-in-Category-clause-reads : goal.returns-in-Category-clause-reads
returns-in-Category-clause-reads g c =
    words_looks (g.S.Store.files c.args.store.now) c.args.dataset.now c.args.part.now c.args.column.now _ _ c.requires.number c.in-Category.is
    c.in-Err.ensures.reads

pub returns-clause-exact : goal.returns-clause-exact
returns-clause-exact g c =
    no_words c.args.dataset.now c.args.part.now c.args.column.now (g.S.Store.files c.args.store.now) _ c.in_default.not-Category
