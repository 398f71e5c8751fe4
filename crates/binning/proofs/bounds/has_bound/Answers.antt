use Rattle.std.proofs.Common.{◌-◌, ◌∙◌, sym, length, get_or, pos, arith, rules}
use Rattle.std.specs.Int.{w128}
use mir.Val.{SFits}
use Rattle.binning.proofs.KeyLemmas.{last_tells, of_z_eq}
use Rattle.binning.proofs.bounds.has_bound.Goals as goal

pub returns-then-count-gt0 : goal.returns-then-count-gt0
returns-then-count-gt0 c =
    let last = get_or c.args.bounds.now (length c.args.bounds.now - 1) (pos 0) in
    let fits : SFits w128 last = search rules in
    of_z_eq last c.args.bound fits c.ranges.bound ∙ sym (last_tells c.args.bound c.args.bounds.now (pos 0) c.requires.rises c.requires.least (omega arith))
