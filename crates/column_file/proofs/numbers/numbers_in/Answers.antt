use Rattle.std.proofs.Common.{◌≡◌, ◌*◌, IsSome, All, length, is_some, sym, ap, subst, ◌∙◌}
use Rattle.fb_types.specs.Types.{width_of}
use Rattle.column_file.specs.Values.{ValueFits, values_bytes, width_in}
use Rattle.column_file.proofs.ValuesLemmas.{all_read, numbers_again, numbers_fit, width_known}
use Rattle.column_file.proofs.numbers.numbers_in.Goals as goal

pub returns-clause-numbers : goal.returns-clause-numbers
returns-clause-numbers g c =
    all_read g.T.Number.ty g.row.W _ c.loop-i.i c.loop-i.out c.args.bytes.now c.as_chunks.result.0.now g.met.T.Number.width c.requires
    c.as_chunks.ensures.front c.as_chunks.ensures.front_len c.loop-i.auto.out c.loop-i-test.false c.loop-i.invariant

pub returns-clause-fit : goal.returns-clause-fit
returns-clause-fit g c =
    let ty = g.T.Number.ty in
    let some : IsSome (width_of ty) = ap is_some g.met.T.Number.width in
    subst (All (λ v. ValueFits v ty)) (sym (returns-clause-numbers g c))
    (numbers_fit ty (length c.args.out.now) c.args.bytes.now some (λ i. (c.type_inv.bytes i).fits))

pub returns-clause-spelled : goal.returns-clause-spelled
returns-clause-spelled g c =
    let ty = g.T.Number.ty in
    let some : IsSome (width_of ty) = ap is_some g.met.T.Number.width in
    let size : length c.args.bytes.now ≡ length c.args.out.now * width_in ty = c.requires ∙ ap (λ w. length c.args.out.now * w) (sym (width_known ty g.row.W g.met.T.Number.width)) in
    ap (values_bytes ty) (returns-clause-numbers g c)
    ∙ numbers_again ty (length c.args.out.now) c.args.bytes.now some size (λ i. (c.type_inv.bytes i).fits)
