use Rattle.std.proofs.Common.{◌≡◌, Some, None, true, sym, ap, ◌∙◌}
use Rattle.std.proofs.lemmas.Bool.Decides.{Decides-eqb}
use Rattle.std.proofs.lemmas.Slice.Eq.{slice_eq-Decides}
use Rattle.fb_types.proofs.NameFacts.{column_name-kept}
use Rattle.fb_types.specs.Names.{column_name}
use Rattle.part_meta.proofs.part_reading.kept_name.Goals as goal

pub returns-in_default : goal.returns-in_default
returns-in_default c = λ name named is.
    let spelled : None ≡ Some name = sym c.in_default.is ∙ c.in_ok-name.ensures ∙ ap column_name is ∙ column_name-kept name named in
    absurd (cc)

pub returns-else-eq : goal.returns-else-eq
returns-else-eq c = λ name named is.
    let spelled : Some c.in-Some.name ≡ Some name = sym c.in-Some.is ∙ c.in_ok-name.ensures ∙ ap column_name is ∙ column_name-kept name named in
    let found : c.in-Some.name ≡ name = cc in
    let same : c.bytes.result.now ≡ c.args.bytes.now = c.bytes.ensures.value ∙ found ∙ sym is in
    let equal : c.eq.result ≡ true = (slice_eq-Decides Decides-eqb c.bytes.result.now c.args.bytes.now c.eq.result c.eq.ensures).1 same in
    absurd (cc (equal, c.if-eq.false))
