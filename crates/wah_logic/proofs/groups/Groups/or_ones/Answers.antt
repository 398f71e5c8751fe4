use Rattle.std.proofs.Common.{◌≡◌, ◌-◌, ◌*◌, true, replicate, refl, ap, ◌∙◌, arith}
use Rattle.wah_logic.specs.Groups.{or_at}
use Rattle.wah_logic.proofs.GroupLemmas.{ones_none, ones_next}
use Rattle.wah_logic.proofs.groups.Groups.or_ones.Goals as goal

pub loop-at-init : goal.loop-at-init
loop-at-init c = record {
  values = ones_none c.args.group c.args.self.now (omega (arith, c.requires.within));
  same = refl;
  low = omega arith;
  high = omega arith;
}

pub or_group-requires-clause-within : goal.or_group-requires-clause-within
or_group-requires-clause-within c = omega (arith, c.loop-at-test.true, c.loop-at.invariant.same, c.requires.within)

pub loop-at-preserved : goal.loop-at-preserved
loop-at-preserved c =
    let i = c.loop-at.invariant in
    let next = ones_next c.args.group c.loop-at.at c.args.self.now c.loop-at.self c.or_group.new.self i.low (omega (arith, c.loop-at-test.true, c.requires.within)) i.values c.or_group.ensures in
    record {
      values = next.0;
      same = next.1;
      low = omega (arith, i.low);
      high = omega (arith, c.loop-at-test.true);
    }

pub returns : goal.returns
returns c =
    let i = c.loop-at.invariant in
    let count : c.loop-at.at - c.args.group ≡ c.args.groups = omega (arith, i.low, i.high, c.loop-at-test.false) in
    i.values ∙ ap (λ n. or_at (31 * c.args.group) (replicate (31 * n) true) c.args.self.now) count
