use Rattle.std.proofs.Common.{◌≡◌, Some, length, refl, ap, sym, ◌∙◌, arith}
use Rattle.index_build.proofs.IndexLemmas.{of_column_counted, of_column_few, of_column_index}
use Rattle.index_build.proofs.writing.write_bins.Goals as goal

pub write_index-requires : goal.write_index-requires
write_index-requires g c =
    of_column_index c.args.rows c.args.bins.now c.requires.bins c.args.spec.now c.deref.result.now c.deref-2.result.now c.requires.given c.requires.limit
    c.in_ok-bitmaps.ensures.counted (c.deref.ensures.value ∙ c.in_ok-edges.ensures) (c.deref-2.ensures.value ∙ c.in_ok-bitmaps.ensures.bitmaps)

pub overflow_cast-result : goal.overflow_cast-result
overflow_cast-result g c = omega (arith, of_column_few c.args.rows c.args.bins.now c.requires.bins, c.requires.limit)

pub returns-in-Ok-clause-answer : goal.returns-in-Ok-clause-answer
returns-in-Ok-clause-answer g c =
    let size : c.len.result ≡ length c.in_ok-bitmaps.bitmaps.items = omega (arith, c.len.ensures, c.deref-2.ensures.len, ap length c.deref-2.ensures.value) in
    let all = ap length c.in_ok-bitmaps.ensures.bitmaps in
    (refl, of_column_counted c.args.rows c.args.bins.now c.requires.bins c.args.spec.now.encoding c.in_ok-bitmaps.ensures.counted ∙ ap Some (sym (size ∙ all)))
