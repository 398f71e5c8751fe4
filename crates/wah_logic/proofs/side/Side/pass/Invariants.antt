use Rattle.std.proofs.Common.{◌≡◌, ◌+◌, ◌*◌, ◌≤◌, length, drop}
use Rattle.wah_logic.specs.Rest.{looks}
use Rattle.wah_logic.proofs.side.Side.pass.Given as goal

abbrev pub invariant-loop-ahead : goal.invariant-loop-ahead
invariant-loop-ahead g l = record {
  values : drop (31 * l.ahead) l.self.values ≡ drop (31 * l.groups) l.fn.self.values;
  enough : 31 * l.ahead ≤ length l.self.values;
  looks : looks l.self ≤ looks l.fn.self;
  steps : l.steps + l.self.words ≡ l.fn.steps + l.fn.self.words;
}

abbrev pub decreases-loop-ahead : goal.decreases-loop-ahead
decreases-loop-ahead g l = l.ahead
