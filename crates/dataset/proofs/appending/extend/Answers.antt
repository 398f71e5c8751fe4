use Rattle.std.proofs.Common.{◌≡◌, ap, sym, ◌∙◌}
use Rattle.dataset.specs.Appended.{appended}
use Rattle.dataset.specs.Growing.{without_parts}
use Rattle.dataset.specs.declared.content.Dataset.{Dataset}
use Rattle.dataset.proofs.AppendLemmas.{ok_then, puts_all, puts_front, taken_away, written_are}
use Rattle.dataset.proofs.appending.extend.Goals as goal

pub returns-in-Ok-clause-files : goal.returns-in-Ok-clause-files
returns-in-Ok-clause-files g c =
    let has : c.add_parts.new.dataset ≡ appended c.args.dataset.now c.args.per_part c.args.columns.now.records
    = ok_then _ c.add_parts.result (sym c.is_err.ensures.value ∙ c.if-is_err.false) c.add_parts.ensures.ok in
    puts_all _ _ c.write_files.result _ _ _ c.in-Ok.is
    (written_are c.args.dataset.now c.add_parts.new.dataset c.args.columns.now.schema c.args.per_part c.args.columns.now.records c.requires.schema has)
    c.write_files.ensures.files

pub returns-in-Err-clause-files : goal.returns-in-Err-clause-files
returns-in-Err-clause-files g c =
    let has : c.add_parts.new.dataset ≡ appended c.args.dataset.now c.args.per_part c.args.columns.now.records
    = ok_then _ c.add_parts.result (sym c.is_err.ensures.value ∙ c.if-is_err.false) c.add_parts.ensures.ok in
    puts_front _ _ c.write_files.result c.in-Err.trouble _ _ c.in-Err.is
    (written_are c.args.dataset.now c.add_parts.new.dataset c.args.columns.now.schema c.args.per_part c.args.columns.now.records c.requires.schema has)
    c.write_files.ensures.files

pub returns-in-Err-clause-unchanged : goal.returns-in-Err-clause-unchanged
returns-in-Err-clause-unchanged g c =
    let has : c.add_parts.new.dataset ≡ appended c.args.dataset.now c.args.per_part c.args.columns.now.records
    = ok_then _ c.add_parts.result (sym c.is_err.ensures.value ∙ c.if-is_err.false) c.add_parts.ensures.ok in
    c.take_back.ensures ∙ ap (λ (d : Dataset). without_parts d c.args.dataset.now.next c.args.count) has
    ∙ taken_away c.args.dataset.now c.args.per_part c.args.columns.now.records c.args.count c.requires.count
