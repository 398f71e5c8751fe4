use Rattle.std.proofs.Common.{◌≡◌, ◌*◌, length, take, ap, sym, ◌∙◌}
use Rattle.column_file.proofs.RowsLemmas.{all_came, rows_of_values, as_meant}
use Rattle.column_file.proofs.column.read_by.Goals as goal

pub returns-in-Ok-clause-rows : goal.returns-in-Ok-clause-rows
returns-in-Ok-clause-rows g c values told fit =
    let files = g.S.Store.files c.args.store.now in
    let buf = c.read_at.new.buf in
    let w = c.number_width.result in
    let wide : length c.args.buffer.now ≡ length c.args.out.now * w = c.requires.buffer ∙ ap (λ k. length c.args.out.now * k) (sym c.number_width.ensures.width) in
    let room : length buf ≡ length c.args.out.now * w = c.read_at.auto.buf ∙ wide in
    rows_of_values files c.args.column.now.ty c.args.column.now.name buf values c.numbers_of_bytes.new.out c.args.first (length c.args.out.now) w c.in-Ok.have
    c.requires.width c.number_width.ensures.width c.number_width.ensures.some.0 room (c.if-have-want.true ∙ wide)
    (as_meant files (take c.in-Ok.have buf) c.as_str.result.now c.args.column.now.name c.from.result c.args.first w (length buf) c.as_str.ensures.bytes
    c.from.ensures c.in-Ok.ensures.given)
    told fit c.numbers_of_bytes.ensures.numbers

pub returns-in-Ok-2-clause-whole : goal.returns-in-Ok-2-clause-whole
returns-in-Ok-2-clause-whole g c bytes told size =
    let files = g.S.Store.files c.args.store.now in
    let buf = c.read_at.new.buf in
    let w = c.number_width.result in
    let wide : length c.args.buffer.now ≡ length c.args.out.now * w = c.requires.buffer ∙ ap (λ k. length c.args.out.now * k) (sym c.number_width.ensures.width) in
    let room : length buf ≡ length c.args.out.now * w = c.read_at.auto.buf ∙ wide in
    let size_in : length bytes ≡ c.args.column.now.rows * w = size ∙ ap (λ k. c.args.column.now.rows * k) (sym c.number_width.ensures.width) in
    absurd
    (c.if-have-want.false
    (all_came files c.args.column.now.name bytes buf c.args.first (length c.args.out.now) c.args.column.now.rows w c.in-Ok.have c.requires.rows size_in room
    c.in-Ok.ensures.count
    (as_meant files (take c.in-Ok.have buf) c.as_str.result.now c.args.column.now.name c.from.result c.args.first w (length buf) c.as_str.ensures.bytes
    c.from.ensures c.in-Ok.ensures.given)
    told
    ∙ sym wide))
