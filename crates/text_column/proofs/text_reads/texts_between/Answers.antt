use Rattle.std.proofs.Common.{◌≡◌, ◌-◌, get_or, length, ap, ◌∙◌, arith}
use Rattle.text_column.specs.Texts.{size_between, starts_between, texts_at}
use Rattle.text_column.proofs.TextLemmas.{rows_counted, starts_order, within_between}
use Rattle.text_column.proofs.text_reads.texts_between.Goals as goal

pub overflow_sub-size : goal.overflow_sub-size
overflow_sub-size g c =
    let within = c.args.text.now.counted in
    let rows = c.requires.rows in
    rw c.as_slice-starts.ensures.value
    (starts_order c.args.text.now.starts.items c.args.first c.args.end c.args.text.now.rising c.requires.order (omega (arith, within, rows)))

pub texts_of-requires : goal.texts_of-requires
texts_of-requires g c =
    let within = c.args.text.now.counted in
    let rows = c.requires.rows in
    let value = c.as_slice-starts.ensures.value in
    let size : length c.in_ok-bytes.bytes.items ≡ size_between c.args.text.now.starts.items c.args.first c.args.end =
    c.in_ok-bytes.ensures.size ∙ ap (λ ss. get_or ss c.args.end 0 - get_or ss c.args.first 0) value in
    rw (value, c.deref.ensures.value)
    (within_between c.args.text.now.starts.items c.args.first c.args.end c.in_ok-bytes.bytes.items c.args.text.now.rising c.requires.order (omega (arith, within, rows)) size)

pub returns-in-Ok-clause-count : goal.returns-in-Ok-clause-count
returns-in-Ok-clause-count g c =
    let starts = c.args.text.now.starts.items in
    let within = c.args.text.now.counted in
    let rows = c.requires.rows in
    ap length c.in-Ok.ensures ∙ ap (λ ss. length (texts_at (starts_between ss c.args.first c.args.end) c.deref.result.now)) c.as_slice-starts.ensures.value
    ∙ rows_counted starts c.deref.result.now c.args.first c.args.end c.args.text.now.rising c.requires.order (omega (arith, within, rows))
