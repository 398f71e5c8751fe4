use Rattle.std.proofs.Common.{◌≡◌, ◌*◌, ◌/◌, ◌%◌, ◌++◌, false, replicate, ap, ◌∙◌}
use Rattle.wah_words.proofs.PlacesLemmas.{places-zeros}
use Rattle.wah_logic.proofs.UnionLemmas.{fill_none, places_rest, zeros_all}
use Rattle.wah_logic.proofs.unions.zeros.Goals as goal
use Rattle.wah_logic.proofs.unions.zeros.Goals.{then-len-gt0, else-len-gt0, then-len-gt0-2, else-len-gt0-2}

pub returns : goal.returns
returns c =
    let len = c.args.len in
    let fill = replicate (31 * (len / 31)) false in
    let first : c.if-len-gt0.out.values ≡ fill =
    elim c.if-len-gt0.branch [
      | then-len-gt0 w ↦ ap (λ o. o.values) w.out-is ∙ w.push_fill.ensures.values ∙ ap (λ l. l ++ fill) c.in_ok-out.ensures.empty
      | else-len-gt0 w ↦ ap (λ o. o.values) w.out-is ∙ c.in_ok-out.ensures.empty ∙ fill_none (len / 31) w.if-len-gt0.false
    ] in
    let second : c.if-len-gt0-2.out.values ≡ c.if-len-gt0.out.values ++ replicate (len % 31) false =
    elim c.if-len-gt0-2.branch [
      | then-len-gt0-2 w ↦ ap (λ o. o.values) w.out-is ∙ w.push_tail.ensures.values ∙ ap (λ l. c.if-len-gt0.out.values ++ l) (places-zeros (len % 31))
      | else-len-gt0-2 w ↦ ap (λ o. o.values) w.out-is ∙ places_rest c.if-len-gt0.out.values (len % 31) w.if-len-gt0-2.false
    ] in
    c.finish.ensures ∙ second ∙ ap (λ l. l ++ replicate (len % 31) false) first ∙ zeros_all len
