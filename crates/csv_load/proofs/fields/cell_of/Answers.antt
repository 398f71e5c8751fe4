-- Which of the two definitions of a cell holds is told by the test of the type's ends.
use Rattle.std.proofs.Common.{◌≡◌, false, sym, true, rules, refl}
use Rattle.std.specs.Prelude.{is_some}
use Rattle.std.proofs.lemmas.Int.{to_z-of_z}
use mir.Val.{SFits}
use mir.Syntax.{w128}
use Rattle.fb_types.specs.Types.{ends_of}
use Rattle.csv_load.proofs.FieldFacts.{field_answer-within, field_cell-whole, field_cell-word}
use Rattle.csv_load.proofs.fields.cell_of.Goals as goal
use Rattle.csv_load.proofs.fields.cell_of.Goals.{in-OutOfRange, in-NotWhole}

pub returns-then-is_none-clause-cell : goal.returns-then-is_none-clause-cell
returns-then-is_none-clause-cell c =
    let e : is_some (ends_of c.args.ty) ≡ false = search rules in
    rw (field_cell-word c.args.ty c.args.bytes.now e) c.word_of.ensures.cell

pub returns-then-is_none-clause-fault : goal.returns-then-is_none-clause-fault
returns-then-is_none-clause-fault c =
    let e : is_some (ends_of c.args.ty) ≡ false = search rules in
    rw (field_cell-word c.args.ty c.args.bytes.now e) c.word_of.ensures.fault

pub returns-in-Null-clause-cell : goal.returns-in-Null-clause-cell
returns-in-Null-clause-cell c =
    let e : is_some (ends_of c.args.ty) ≡ true = search rules in
    rw (field_cell-whole c.args.ty c.args.bytes.now e, ← c.in-Null.ensures) refl

pub returns-in-Value-clause-cell : goal.returns-in-Value-clause-cell
returns-in-Value-clause-cell c =
    let e : is_some (ends_of c.args.ty) ≡ true = search rules in
    let fits : SFits w128 c.in-Value.number = search rules in
    rw (field_cell-whole c.args.ty c.args.bytes.now e, ← c.in-Value.ensures, to_z-of_z w128 c.in-Value.number fits) refl

pub returns-in-Value-clause-fits : goal.returns-in-Value-clause-fits
returns-in-Value-clause-fits c =
    let fits : SFits w128 c.in-Value.number = search rules in
    rw (to_z-of_z w128 c.in-Value.number fits) (field_answer-within c.args.bytes.now c.args.ty c.in-Value.number (sym c.in-Value.ensures))

pub returns-clause-fault : goal.returns-clause-fault
returns-clause-fault c =
    let e : is_some (ends_of c.args.ty) ≡ true = search rules in
    rw (field_cell-whole c.args.ty c.args.bytes.now e, ← c.parse_whole.ensures)
    (elim c.match-parse_whole.branch [
      | in-OutOfRange w ↦ rw (w.in-OutOfRange.is, w.kind-is) refl
      | in-NotWhole w ↦ rw (w.in-NotWhole.is, w.kind-is) refl
    ])
