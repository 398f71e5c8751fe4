use Rattle.std.proofs.Common.{◌≡◌, ◌*◌, ◌/◌, ◌%◌, ◌++◌, replicate, ap, ◌∙◌}
use Rattle.three_valued.proofs.RowLemmas.{fill_nothing, rest_nothing, fills_all}
use Rattle.three_valued.proofs.row_answers.filled.Goals as goal
use Rattle.three_valued.proofs.row_answers.filled.Goals.{then-rows-gt0, else-rows-gt0, then-rest-gt0, else-rest-gt0}

pub returns : goal.returns
returns c =
    let rows = c.args.rows in
    let value = c.args.value in
    let fill = replicate (31 * (rows / 31)) value in
    let first : c.if-rows-gt0.out.values ≡ fill =
    elim c.if-rows-gt0.branch [
      | then-rows-gt0 w ↦ ap (λ o. o.values) w.out-is ∙ w.push_fill.ensures.values ∙ ap (λ l. l ++ fill) c.in_ok-out.ensures.empty
      | else-rows-gt0 w ↦ ap (λ o. o.values) w.out-is ∙ c.in_ok-out.ensures.empty ∙ fill_nothing value (rows / 31) w.if-rows-gt0.false
    ] in
    let second : c.if-rest-gt0.out.values ≡ c.if-rows-gt0.out.values ++ replicate (rows % 31) value =
    elim c.if-rest-gt0.branch [
      | then-rest-gt0 w ↦ ap (λ o. o.values) w.out-is ∙ w.push_tail.ensures.values ∙ ap (λ l. c.if-rows-gt0.out.values ++ l) w.last_bits.ensures.bits
      | else-rest-gt0 w ↦ ap (λ o. o.values) w.out-is ∙ rest_nothing value c.if-rows-gt0.out.values (rows % 31) w.if-rest-gt0.false
    ] in
    c.finish.ensures ∙ second ∙ ap (λ l. l ++ replicate (rows % 31) value) first ∙ fills_all value rows
