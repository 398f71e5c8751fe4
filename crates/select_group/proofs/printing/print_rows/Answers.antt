use Rattle.std.proofs.Common.{◌≡◌, ◌<◌, ap, length, sym, ◌∙◌, arith}
use Rattle.csv.specs.Writing.{writer_setup}
use Rattle.csv.specs.declared.writer.QuoteStyle.TheVariants as style
use Rattle.select_group.proofs.PrintedLemmas.{text_grows}
use Rattle.select_group.proofs.printing.print_rows.Goals as goal

pub loop-row-preserved : goal.loop-row-preserved
loop-row-preserved c =
    let before = c.loop-row.invariant in
    let plain : (writer_setup c.loop-row.writer).style ≡ style.NonNumeric → ⊥ =
    λ e. let both : style.Necessary ≡ style.NonNumeric = ap (λ s. s.style) (sym before.setup) ∙ e in absurd cc in
    let wrote = c.in-Ok.ensures.bytes before.fields before.wrote plain in
    let less : c.loop-row.row-index < length c.args.rows.now = omega arith in
    let grows = text_grows c.args.rows.now c.loop-row.row-index c.row-item.result less in
    record {
      text = cc (wrote, grows, before.text, before.setup, c.in_ok-fill.ensures, c.row-item.is, c.as_slice.ensures);
      fields = c.in-Ok.ensures.ended;
      wrote = c.in-Ok.ensures.clean;
      setup = c.in-Ok.ensures.setup ∙ before.setup;
    }
