use Rattle.std.proofs.Common.{◌≡◌, ◌<◌, ◌∙◌, sym, length, get_or, false, pos, arith, rules}
use Rattle.std.specs.Int.{w128}
use Rattle.std.proofs.lemmas.Int.{to_z-of_z}
use mir.Val.{SFits}
use Rattle.binning.proofs.MaskLemmas.{present_more}
use Rattle.binning.proofs.masks.present_values.Goals as goal

pub loop-row-preserved : goal.loop-row-preserved
loop-row-preserved g c =
    let mask = c.as_slice-is_there.result.now in
    let vs = c.args.values.now in
    let i = c.loop-row.row in
    let within : i < length vs = c.loop-row-test.true in
    let same : mask ≡ c.args.mask.now = search rules in
    let there : i < length mask = rw same (omega arith) in
    let fits : SFits w128 (get_or vs i (pos 0)) = search rules in
    record {
      values = c.in_ok-push_present.ensures.items ∙ (simp to_z-of_z (rw c.loop-row.invariant.values (sym (present_more mask vs i false (pos 0) there within))));
      few = omega (arith, c.in_ok-push_present.ensures.len, c.loop-row.invariant.few);
    }
