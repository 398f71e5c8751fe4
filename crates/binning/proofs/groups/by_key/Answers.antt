use Rattle.std.proofs.Common.{◌≡◌, IsPermutation, rules}
use Rattle.std.proofs.lemmas.Fn.{always_returns_same}
use Rattle.binning.specs.Groups.{pairs_from}
use Rattle.binning.specs.declared.groups.KeyPlace.{KeyPlace}
use Rattle.binning.proofs.OrderLemmas.{by_key_from}
use Rattle.binning.proofs.groups.by_key.Goals as goal

pub returns : goal.returns
returns c =
    let moved : IsPermutation (pairs_from 0 c.args.groups.now) c.sort_unstable_by_key.new.self.items = rw (← c.in_ok-order.ensures) c.sort_unstable_by_key.ensures.permutation in
    by_key_from c.args.groups.now _ moved (c.sort_unstable_by_key.ensures.sorted (λ (p : KeyPlace). p.key) (always_returns_same _ (λ a r. r ≡ (a.0.now).key) _ (λ a r q k. search rules)))
