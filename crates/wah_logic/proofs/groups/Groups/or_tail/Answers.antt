use Rattle.std.proofs.Common.{◌≡◌, ◌*◌, ◌/◌, ◌%◌, ◌^◌, ◌<◌, List, Bool, length, ap, subst, ◌∙◌, arith}
use Rattle.wah_words.specs.Places.{places}
use Rattle.wah_logic.specs.Groups.{or_at}
use Rattle.wah_logic.proofs.GroupLemmas.{length-group_values, rest_or}
use Rattle.wah_logic.proofs.groups.Groups.or_tail.Goals as goal

pub invariant_of-self : goal.invariant_of-self
invariant_of-self c =
    let rest = c.self.inside.rest in
    let long = length-group_values c.self.inside.whole.items rest c.self.inside.tail in
    let left : length c.args.self.now % 31 ≡ rest = omega (arith, long, ap length c.self.view_is, c.self.invariant.few) in
    let bits : c.args.bits < 2 ^ rest = subst (λ n. c.args.bits < 2 ^ n) left c.requires in
    record {
      groups = c.self.invariant.groups;
      few = c.self.invariant.few;
      fits = c.on_word-self-inside.ensures.fits rest c.self.invariant.fits bits;
      within = c.self.invariant.within;
    }

pub returns : goal.returns
returns c =
    let rest = c.self.inside.rest in
    let long = length-group_values c.self.inside.whole.items rest c.self.inside.tail in
    let left : length c.args.self.now % 31 ≡ rest = omega (arith, long, ap length c.self.view_is, c.self.invariant.few) in
    let bits : c.args.bits < 2 ^ rest = subst (λ n. c.args.bits < 2 ^ n) left c.requires in
    rest_or c.self.inside.whole.items rest c.self.inside.tail c.args.bits c.on_word-self-inside.result c.self.invariant.few (c.on_word-self-inside.ensures.places rest c.self.invariant.fits bits)
    ∙ ap (λ (v : List Bool). or_at (31 * (length v / 31)) (places (length v % 31) c.args.bits) v) c.self.view_is
