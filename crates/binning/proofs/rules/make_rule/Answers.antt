use Rattle.binning.specs.Bins.{present, cells}
use Rattle.binning.proofs.KeyLemmas.{kept_of}
use Rattle.binning.proofs.rules.make_rule.Goals as goal

pub invariant_of-result : goal.invariant_of-result
invariant_of-result g c = rw c.in_ok-keys.ensures.keys (kept_of c.args.binning.now (present (cells c.args.mask.now c.args.values.now)) c.requires.given)

pub returns-clause-kept : goal.returns-clause-kept
returns-clause-kept g c = rw c.in_ok-keys.ensures.keys (kept_of c.args.binning.now (present (cells c.args.mask.now c.args.values.now)) c.requires.given)
