use Rattle.std.proofs.Common.{◌≡◌, ◌-◌, ◌+◌, ◌*◌, ◌≤◌, true, length, replicate}
use Rattle.wah_logic.specs.Groups.{or_at}
use Rattle.wah_logic.proofs.groups.Groups.or_ones.Given as goal

abbrev pub invariant-loop-at : goal.invariant-loop-at
invariant-loop-at l = record {
  values : l.self ≡ or_at (31 * l.group) (replicate (31 * (l.at - l.group)) true) l.fn.self;
  same : length l.self ≡ length l.fn.self;
  low : l.group ≤ l.at;
  high : l.at ≤ l.group + l.groups;
}
