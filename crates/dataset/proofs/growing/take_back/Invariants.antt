use Rattle.std.proofs.Common.{◌≡◌, ◌-◌, length, take}
use Rattle.dataset.proofs.growing.take_back.Given as goal

abbrev pub invariant-loop : goal.invariant-loop
invariant-loop l = l.dataset ≡ record l.initial.dataset { parts = take (length l.initial.dataset.parts - l.counter) l.initial.dataset.parts }
