use Rattle.std.proofs.Common.{◌≡◌, ◌+◌, drop, option_map}
use Rattle.text_column.specs.Texts.{first_below}
use Rattle.text_column.proofs.texts.place_below.Given as goal

abbrev pub invariant-loop-place : goal.invariant-loop-place
invariant-loop-place l = first_below 0 l.numbers ≡ option_map (λ k. l.place + k) (first_below l.last (drop l.place l.numbers))
