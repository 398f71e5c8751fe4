use Rattle.std.proofs.Common.{◌≡◌, ◌/◌, ◌%◌, ◌^◌, ◌<◌, All, length, sym, ap, subst, ◌∙◌, arith}
use Rattle.std.proofs.lemmas.List.{length-replicate}
use Rattle.std.proofs.lemmas.List.Elements.{All-replicate}
use Rattle.std.proofs.lemmas.Nat.{pow_pos}
use Rattle.wah_logic.proofs.GroupLemmas.{zeros_values}
use Rattle.wah_logic.proofs.groups.Groups.zeros.Goals as goal

pub invariant_of-result : goal.invariant_of-result
invariant_of-result c =
    let long : length c.in_ok-whole.whole.items ≡ c.args.len / 31 = ap length c.in_ok-whole.ensures ∙ length-replicate (c.args.len / 31) 0 in
    record {
      groups = subst (λ gs. All (λ g. g < 2 ^ 31) gs) (sym c.in_ok-whole.ensures) (All-replicate (λ g. g < 2 ^ 31) (c.args.len / 31) 0 (omega arith));
      few = omega arith;
      fits = pow_pos (c.args.len % 31);
      within = omega (arith, long, c.requires);
    }

pub returns : goal.returns
returns c = zeros_values c.in_ok-whole.whole.items c.args.len c.in_ok-whole.ensures
