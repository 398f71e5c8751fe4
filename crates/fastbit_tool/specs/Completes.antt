-- That a command ended as it is defined.
use Rattle.std.specs.Prelude.{◌≡◌, ◌⊎◌}
use Rattle.statuses.specs.declared.Status.{Status}
use Rattle.statuses.specs.declared.Status.TheVariants.{OutOfMemory}
use Rattle.statuses.specs.Outcome.{Outcome}

-- as the reply says, but for want of memory
abbrev pub Completes : Outcome → Status → Type 0
Completes reply status = (status ≡ reply.status) ⊎ (status ≡ OutOfMemory)
