use Rattle.std.proofs.Common.{◌≡◌, ◌<◌, ◌++◌, [], ◌∷◌, length, sym, arith}
use Rattle.std.specs.Prelude.{Some}
use Rattle.where_grammar.specs.Parsing.{after, bare}
use Rattle.where_grammar.proofs.Lists.{length-bare}
use Rattle.query_grammar.specs.Reading.{is_comma}
use Rattle.query_grammar.proofs.Steps.{walk_smaller, walk_step}
use Rattle.query_grammar.proofs.fronts.listed.Goals as goal

pub loop-behind-smaller : goal.loop-behind-smaller
loop-behind-smaller g c =
    let rest = bare c.loop-behind.rest.now in
    let behind = bare c.in-Some-after_sign.behind.now in
    let item = c.in-Some-2.item in
    let behind_item = bare c.in-Some-2.after.now in
    let comma : after is_comma rest ≡ Some behind = sym c.in-Some-after_sign.ensures in
    let found : g.T.ListItem.part behind ≡ Some (item, behind_item) = sym (rw c.in-Some-2.is at c.in_ok-item-2.ensures) in
    let less = walk_smaller g.T.ListItem.part g.met.T.ListItem.shrinks rest behind behind_item item comma found in
    let a = length-bare c.loop-behind.rest.now in
    let b = length-bare c.in-Some-2.after.now in
    let goal_is : length c.in-Some-2.after.now < length c.loop-behind.rest.now = omega arith in
    goal_is

pub loop-behind-preserved : goal.loop-behind-preserved
loop-behind-preserved g c =
    let rest = bare c.loop-behind.rest.now in
    let behind = bare c.in-Some-after_sign.behind.now in
    let item = c.in-Some-2.item in
    let behind_item = bare c.in-Some-2.after.now in
    let comma : after is_comma rest ≡ Some behind = sym c.in-Some-after_sign.ensures in
    let found : g.T.ListItem.part behind ≡ Some (item, behind_item) = sym (rw c.in-Some-2.is at c.in_ok-item-2.ensures) in
    let pushed : c.push-in-Some-2.new.self ≡ c.loop-behind.list ++ item ∷ [] = c.in_ok-push-in-Some-2.ensures.ok in
    walk_step g.T.ListItem.part g.met.T.ListItem.shrinks c.loop-behind.list c.push-in-Some-2.new.self (bare c.args.tokens.now) rest behind behind_item item comma found pushed c.loop-behind.invariant
