use Rattle.text_column.specs.OpenedTexts.{opened_text}
use Rattle.text_column.proofs.OpenedLemmas.{opens_texts}
use Rattle.text_column.proofs.texts.open_text.Goals as goal

pub returns-clause-only : goal.returns-clause-only
returns-clause-only g c = λ texts bits size one_each limit small text starts mask.
    opens_texts (g.S.Store.files c.args.store.now) (opened_text c.open_files.result) c.args.name.now c.args.starts_name.now c.args.mask_name.now c.args.rows texts bits
    c.open_files.ensures.exact size one_each limit small text starts mask
