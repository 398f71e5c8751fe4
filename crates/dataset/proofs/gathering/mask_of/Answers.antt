use Rattle.std.proofs.Common.{◌≤◌, ◌+◌, ◌*◌, ◌/◌, ◌%◌, ◌++◌, Bool, List, length, map, take, arith, sym, ap, ◌∙◌}
use Rattle.std.proofs.lemmas.List.{take_all}
use Rattle.wah_words.specs.Places.{places}
use Rattle.world.specs.Cells.{is_present}
use Rattle.dataset.proofs.CellLemmas.{groups_more}
use Rattle.dataset.proofs.gathering.mask_of.Goals as goal
use Rattle.dataset.proofs.gathering.mask_of.Goals.{then-rest-ne0, else-rest-ne0}

pub returns : goal.returns
returns c =
    let cells = c.args.part.now.cells in
    let n = 31 * (c.len-rows.result / 31) in
    let rest = c.len-rows.result % 31 in
    let all : length cells ≤ n + rest = omega (arith, c.len-rows.ensures.len) in
    let first : n ≤ length cells = omega (arith, c.len-rows.ensures.len) in
    c.finish.ensures ∙ elim c.if-rest-ne0.branch [
      | then-rest-ne0 w ↦
          ap (λ mask. mask.values) w.mask-is ∙ w.push_tail.ensures.values
          ∙ ap (λ (bits : List Bool). bits ++ places rest w.group_of.result) c.in_ok-mask.ensures.values
          ∙ ap (λ (bits : List Bool). map is_present (take n cells) ++ bits) w.group_of.ensures.places
          ∙ sym (groups_more cells n rest first) ∙ ap (map is_present) (take_all (n + rest) cells all)
      | else-rest-ne0 w ↦
          ap (λ mask. mask.values) w.mask-is ∙ c.in_ok-mask.ensures.values ∙ ap (map is_present) (take_all n cells (omega arith))
    ]
