use Rattle.std.proofs.Common.{◌≡◌, ◌-◌, ap, drop, get_or, take, arith}
use Rattle.text_column.specs.OpenedTexts.{listed}
use Rattle.text_column.specs.Texts.{size_between, starts_between}
use Rattle.text_column.proofs.OpenedLemmas.{none_missing, ok_listed, rows_have, rows_read}
use Rattle.text_column.proofs.text_reads.read_texts.Goals as goal

pub returns-clause-whole : goal.returns-clause-whole
returns-clause-whole g c = λ bytes told size is.
    let text = c.args.text.now in
    let starts = text.starts.items in
    none_missing (g.S.Store.files c.args.store.now) text.name bytes (get_or starts c.args.first 0) (size_between starts c.args.first c.args.end)
    (starts_between starts c.args.first c.args.end) (listed c.texts_between.result) told
    (rows_have starts bytes c.args.first c.args.end text.rows text.rising text.counted c.requires.order c.requires.rows size)
    c.texts_between.ensures.exact (ap listed is)

pub returns-clause-rows : goal.returns-clause-rows
returns-clause-rows g c = λ texts is told.
    let text = c.args.text.now in
    let within = text.counted in
    let rows = c.requires.rows in
    ok_listed c.texts_between.result (λ read. read ≡ take (c.args.end - c.args.first) (drop c.args.first texts))
    (rows_read (g.S.Store.files c.args.store.now) text.name texts text.starts.items c.args.first c.args.end (listed c.texts_between.result) is told c.requires.order
    (omega (arith, within, rows)) c.texts_between.ensures.exact)
