use Rattle.std.proofs.Common.{◌≡◌, ◌≢◌, ◌∷◌, ◌++◌, [], List, ℕ, Option, Some, None, MatchOption, true, codes, sym, ap, subst, ◌∙◌}
use Rattle.std.specs.List.{All}
use Rattle.std.proofs.lemmas.List.{append_cancel_left}
use Rattle.fb_types.specs.Names.{IsColumnName}
use Rattle.fb_types.specs.declared.schemas.Column.{Column}
use Rattle.part_meta.specs.Lines.{line}
use Rattle.part_meta.specs.PartText.{column_begin_line, name_line}
use Rattle.part_meta.specs.PartFront.{body_lines}
use Rattle.part_meta.proofs.PartLemmas.{is_name, with_more}
use Rattle.part_meta.proofs.part_reading.with_name.Goals as goal

abbrev Found : List ℕ → Option (List ℕ) → Type 0
Found text r = MatchOption r ((name : List ℕ) → IsColumnName name → text ≢ codes "name = " ++ name) (λ name. IsColumnName name × (text ≡ codes "name = " ++ name))

abbrev AllOther : List Column → List ℕ → Type 0
AllOther columns name = All (λ column. column.name ≢ name) columns

pub returns-in_default : goal.returns-in_default
returns-in_default c = λ b.
    let n = is_name c.args.body c.args.text.now c.requires.valid b in
    let none : Found c.args.text.now None = subst (Found c.args.text.now) c.in_default.is c.in_ok-name.ensures in
    none n.column.name n.takes.named n.has

pub returns-then-is_new : goal.returns-then-is_new
unfolding name_line
returns-then-is_new c =
    let found : Found c.args.text.now (Some c.in-Some.name) = subst (Found c.args.text.now) c.in-Some.is c.in_ok-name.ensures in
    let P : List ℕ → Type 0 = λ name. AllOther c.args.body.columns.items name in
    let Q : List Column → Type 0 = λ columns. AllOther columns c.bytes.result.now in
    let new : AllOther c.args.body.columns.items c.in-Some.name = subst P c.bytes.ensures.value (subst Q c.as_slice.ensures.value (c.is_new.ensures.0 c.if-is_new.true)) in
    let text : name_line c.in-Some.name ≡ line c.args.text.now = ap line (sym found.1) in (
      (c.requires.valid, record { room = c.requires.room; named = found.0; new = new }),
      ap (λ l. body_lines c.args.body ++ column_begin_line ∷ l ∷ []) text ∙ with_more (body_lines c.args.body) (column_begin_line ∷ []) (line c.args.text.now),
    )

pub returns-else-is_new : goal.returns-else-is_new
returns-else-is_new c = λ b.
    let n = is_name c.args.body c.args.text.now c.requires.valid b in
    let found : Found c.args.text.now (Some c.in-Some.name) = subst (Found c.args.text.now) c.in-Some.is c.in_ok-name.ensures in
    let same : n.column.name ≡ c.in-Some.name = append_cancel_left (codes "name = ") n.column.name c.in-Some.name (sym n.has ∙ found.1) in
    let P : List ℕ → Type 0 = λ name. AllOther c.args.body.columns.items name in
    let Q : List Column → Type 0 = λ columns. AllOther columns c.bytes.result.now in
    let other : AllOther c.as_slice.result.now c.bytes.result.now = subst Q (sym c.as_slice.ensures.value) (subst P (same ∙ sym c.bytes.ensures.value) n.takes.new) in
    let new : c.is_new.result ≡ true = c.is_new.ensures.1 other in
    absurd (cc (new, c.if-is_new.false))
