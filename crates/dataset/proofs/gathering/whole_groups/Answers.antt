use Rattle.std.proofs.Common.{◌≡◌, ◌+◌, ◌*◌, ◌++◌, Bool, List, map, take, arith, sym, ap, ◌∙◌}
use Rattle.wah_words.specs.Places.{places}
use Rattle.world.specs.Cells.{is_present}
use Rattle.dataset.proofs.CellLemmas.{groups_more}
use Rattle.dataset.proofs.gathering.whole_groups.Goals as goal

pub loop-group-preserved : goal.loop-group-preserved
loop-group-preserved c =
    let cells = c.args.part.now.cells in
    let n = 31 * c.loop-group.group in
    let inv = c.loop-group.invariant in
    let next : n + 31 ≡ 31 * (c.loop-group.group + 1) = omega arith in
    record {
      values = c.push_literal.ensures.values ∙ ap (λ (bits : List Bool). bits ++ places 31 c.group_of.result) inv.values
          ∙ ap (λ (bits : List Bool). map is_present (take n cells) ++ bits) c.group_of.ensures.places
          ∙ sym (groups_more cells n 31 (omega arith)) ∙ ap (λ k. map is_present (take k cells)) next;
      room = omega (arith, c.push_literal.ensures.spare, inv.room);
    }
