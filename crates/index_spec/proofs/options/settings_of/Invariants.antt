use Rattle.std.proofs.Common.{◌≡◌, length}
use Rattle.index_spec.specs.Options.{settings_of, settings_before}
use Rattle.index_spec.proofs.options.settings_of.Given as goal

abbrev pub invariant-loop-after : goal.invariant-loop-after
invariant-loop-after l = settings_of l.tokens ≡ settings_before l.settings (settings_of l.rest)

abbrev pub decreases-loop-after : goal.decreases-loop-after
decreases-loop-after l = length l.rest
