use Rattle.std.proofs.Common.{◌≡◌, true, false, rules}
use Rattle.std.specs.Int.{w128}
use Rattle.std.proofs.lemmas.Int.{to_z-of_z}
use mir.Val.{SFits}
use Rattle.binning.specs.Gathered.{is_in}
use Rattle.binning.proofs.KeyLemmas.{is_in-append, is_in_again, rises_push, all_le_push}
use Rattle.binning.proofs.bounds.push_bound.Goals as goal

pub returns-then-has_bound-clause-has : goal.returns-then-has_bound-clause-has
returns-then-has_bound-clause-has c =
    let there : is_in c.args.bound c.args.bounds.now.items ≡ true = search rules in
    λ v. is_in_again v c.args.bound c.args.bounds.now.items there

pub returns-clause-rises : goal.returns-clause-rises
returns-clause-rises c =
    let fits : SFits w128 c.args.bound = c.ranges.bound in
    let absent : is_in c.args.bound c.args.bounds.now.items ≡ false = search rules in
    rw c.in_ok-push.ensures.items (simp to_z-of_z (rises_push c.args.bound c.args.bounds.now.items c.requires.rises c.requires.least absent))

pub returns-clause-least : goal.returns-clause-least
returns-clause-least c =
    let fits : SFits w128 c.args.bound = c.ranges.bound in
    rw c.in_ok-push.ensures.items (simp to_z-of_z (all_le_push c.args.bound c.args.bounds.now.items c.requires.least))

pub returns-clause-has : goal.returns-clause-has
returns-clause-has c =
    let fits : SFits w128 c.args.bound = c.ranges.bound in
    λ v. rw c.in_ok-push.ensures.items (simp to_z-of_z (is_in-append v c.args.bounds.now.items c.args.bound))
