use Rattle.std.proofs.Common.{◌<◌, rules, length}
use Rattle.std.proofs.lemmas.Int.{to_z-of_z}
use mir.Val.{SFits}
use mir.Syntax.{w128}
use Rattle.fb_types.specs.Field.{whole_of}
use Rattle.fb_types.specs.Types.{ends_of}
use Rattle.fb_types.proofs.FieldFacts.{answer_found, text_answer-some}
use Rattle.fb_types.proofs.fields.parse_whole.Goals as goal

pub returns-in-Some : goal.returns-in-Some
returns-in-Some c =
    let fits : SFits w128 c.in-Some.number = search rules in
    let some : 0 < length c.trimmed-text.result.now = search rules in
    let found = answer_found (whole_of c.trimmed-text.result.now) c.in-Some.number c.args.ty c.in-Some.ensures in
    rw (← c.trimmed-text.ensures, text_answer-some c.trimmed-text.result.now (ends_of c.args.ty) some, c.within.ensures, to_z-of_z w128 c.in-Some.number fits) found
