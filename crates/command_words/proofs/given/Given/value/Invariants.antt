-- The option isn't read before this place.
use Rattle.std.proofs.Common.{◌≡◌, drop, find}
use Rattle.command_words.specs.Places.{is_read_at}
use Rattle.command_words.proofs.given.Given.value.Given as goal

abbrev pub invariant-loop-place : goal.invariant-loop-place
invariant-loop-place l =
    find (λ place. is_read_at l.self l.letter place) l.self.places ≡ find (λ place. is_read_at l.self l.letter place) (drop l.place-index l.self.places)
