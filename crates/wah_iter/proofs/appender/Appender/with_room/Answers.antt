use Rattle.std.proofs.Common.{[], ◌++◌, ap}
use Rattle.wah_words.specs.Places.{places}
use Rattle.wah_iter.proofs.appender.Appender.with_room.Goals as goal

pub returns-clause-empty : goal.returns-clause-empty
unfolding places
returns-clause-empty c = ap (λ v. v ++ []) c.in_ok-with_room.ensures.empty
