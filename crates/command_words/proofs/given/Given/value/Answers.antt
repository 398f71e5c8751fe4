use Rattle.std.proofs.Common.{◌+◌, ◌<◌, ◌^◌, get_or, arith}
use Rattle.command_words.proofs.given.Given.value.Goals as goal

pub overflow_add-place : goal.overflow_add-place
overflow_add-place c =
    let next : get_or c.self.inside.places.items c.loop-place.place-index 0 + 1 < 2 ^ 64 =
    c.self.invariant c.loop-place.place-index 0 (omega arith) in
    rw c.deref-place-items.ensures.value (omega arith)
