use Rattle.std.proofs.Common.{◌≡◌, drop}
use Rattle.patterns.specs.Like.{behind}
use Rattle.patterns.proofs.matching.text_behind.Given as goal

abbrev pub invariant-loop-p : goal.invariant-loop-p
invariant-loop-p l = behind l.piece l.text ≡ behind (drop l.p-index l.piece) l.rest
