use Rattle.std.proofs.Common.{◌≡◌, List, ℕ, Ok, map, length, ap, sym, subst, arith, refl}
use Rattle.std.specs.Prelude.{Result}
use Rattle.std.proofs.lemmas.List.{length-map}
use Rattle.std.proofs.lemmas.List.Splits.{length-slice_split}
use Rattle.fb_types.specs.declared.schemas.Column.{Column}
use Rattle.fb_types.specs.SchemaText.{IsFaultIn, SchemaFault, columns_of, is_comma, items_of, read_schema}
use Rattle.fb_types.proofs.SchemaLaws.{reads-columns, reads_blank, reads_many, valid}
use Rattle.fb_types.proofs.schema_text.read.Goals as goal

pub returns-then-is_blank_text-clause-bad : goal.returns-then-is_blank_text-clause-bad
returns-then-is_blank_text-clause-bad c = reads_blank c.args.text.now (sym c.if-is_blank_text.ensures)

pub returns-then-commas-ge255-clause-bad : goal.returns-then-commas-ge255-clause-bad
returns-then-commas-ge255-clause-bad c = reads_many c.args.text.now (sym c.if-is_blank_text.ensures) (omega (arith, c.commas.ensures, c.if-commas-ge255.true))

pub columns-requires : goal.columns-requires
columns-requires c =
    let cut : map (λ item. item.now) c.in_ok-items.items.items ≡ items_of c.args.text.now = c.in_ok-items.ensures in
    omega (arith, ap length c.deref.ensures.value, length-map {B = List ℕ} c.in_ok-items.items.items (λ item. item.now), ap length cut, length-slice_split is_comma c.args.text.now, c.commas.ensures, c.if-commas-ge255.false)

pub from_columns-requires : goal.from_columns-requires
from_columns-requires c =
    let cut : map (λ item. item.now) c.deref.result.now ≡ items_of c.args.text.now = rw c.deref.ensures.value c.in_ok-items.ensures in
    valid c.args.text.now c.in-Ok.columns.items
    (reads-columns c.args.text.now (map (λ item. item.now) c.deref.result.now) (Ok c.in-Ok.columns.items) (sym c.if-is_blank_text.ensures) (omega (arith, c.commas.ensures, c.if-commas-ge255.false)) cut c.in-Ok.ensures.ok)

pub returns-in-Ok-clause-ok : goal.returns-in-Ok-clause-ok
returns-in-Ok-clause-ok c =
    let cut : map (λ item. item.now) c.deref.result.now ≡ items_of c.args.text.now = rw c.deref.ensures.value c.in_ok-items.ensures in
    rw c.from_columns.ensures
    (reads-columns c.args.text.now (map (λ item. item.now) c.deref.result.now) (Ok c.in-Ok.columns.items) (sym c.if-is_blank_text.ensures) (omega (arith, c.commas.ensures, c.if-commas-ge255.false)) cut c.in-Ok.ensures.ok)

pub returns-clause-bad : goal.returns-clause-bad
returns-clause-bad c =
    let cut : map (λ item. item.now) c.deref.result.now ≡ items_of c.args.text.now = rw c.deref.ensures.value c.in_ok-items.ensures in
    let items = map (λ item. item.now) c.deref.result.now in
    let same : read_schema c.args.text.now ≡ columns_of items =
    reads-columns c.args.text.now items (columns_of items) (sym c.if-is_blank_text.ensures) (omega (arith, c.commas.ensures, c.if-commas-ge255.false)) cut refl in
    let P : Result (List Column) SchemaFault → Type 0 = λ told. IsFaultIn c.in-Err.fault told in
    subst P (sym same) c.in-Err.ensures.bad
