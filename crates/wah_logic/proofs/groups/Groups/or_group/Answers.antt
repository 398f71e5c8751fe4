use Rattle.std.proofs.Common.{◌≡◌, ◌*◌, ◌^◌, ◌<◌, length, get_or, sym, ap, subst, ◌∙◌, arith}
use Rattle.std.proofs.lemmas.List.{length-set}
use Rattle.std.proofs.lemmas.List.Elements.{All-set}
use Rattle.wah_words.specs.Places.{places}
use Rattle.wah_logic.specs.Logic.{each_place, or}
use Rattle.wah_logic.specs.Groups.{or_at}
use Rattle.wah_logic.proofs.GroupLemmas.{length-group_values, group_or}
use Rattle.wah_logic.proofs.groups.Groups.or_group.Goals as goal

pub index-requires : goal.index-requires
index-requires c =
    let long = length-group_values c.self.inside.whole.items c.self.inside.rest c.self.inside.tail in
    omega (arith, long, ap length c.self.view_is, c.requires.within, c.self.invariant.few)

pub index_mut-requires : goal.index_mut-requires
index_mut-requires c =
    let long = length-group_values c.self.inside.whole.items c.self.inside.rest c.self.inside.tail in
    omega (arith, long, ap length c.self.view_is, c.requires.within, c.self.invariant.few)

pub invariant_of-self : goal.invariant_of-self
invariant_of-self c =
    let gs = c.self.inside.whole.items in
    let long = length-group_values gs c.self.inside.rest c.self.inside.tail in
    let there : c.args.group < length gs = omega (arith, long, ap length c.self.view_is, c.requires.within, c.self.invariant.few) in
    let was : c.index.result.now < 2 ^ 31 = subst (λ n. n < 2 ^ 31) (sym c.index.ensures) (c.self.invariant.groups c.args.group c.index.result.now there) in
    record {
      groups = All-set (λ g. g < 2 ^ 31) gs c.args.group c.on_word.result (c.on_word.ensures.fits 31 was c.requires.fits) c.self.invariant.groups;
      few = c.self.invariant.few;
      fits = c.self.invariant.fits;
      within = omega (arith, length-set gs c.args.group c.on_word.result, c.self.invariant.within);
    }

pub returns : goal.returns
returns c =
    let gs = c.self.inside.whole.items in
    let x = c.index.result.now in
    let long = length-group_values gs c.self.inside.rest c.self.inside.tail in
    let there : c.args.group < length gs = omega (arith, long, ap length c.self.view_is, c.requires.within, c.self.invariant.few) in
    let was : x < 2 ^ 31 = subst (λ n. n < 2 ^ 31) (sym c.index.ensures) (c.self.invariant.groups c.args.group x there) in
    let both : places 31 c.on_word.result ≡ each_place or (places 31 (get_or gs c.args.group x)) (places 31 c.args.word) = c.on_word.ensures.places 31 was c.requires.fits ∙ ap (λ n. each_place or (places 31 n) (places 31 c.args.word)) c.index.ensures in
    group_or gs c.args.group c.args.word c.on_word.result c.self.inside.rest c.self.inside.tail x there both ∙ ap (or_at (31 * c.args.group) (places 31 c.args.word)) c.self.view_is
