use Rattle.std.proofs.Common.{◌∙◌}
use Rattle.std.proofs.lemmas.Result.{IfErr-weaker}
use Rattle.column_file.specs.Values.{values_bytes}
use Rattle.index_build.proofs.BuildLemmas.{answers_read, leaves_read, leaves_stopped, numbers_whole, read_bins, short_stops, stops_written, told_bins, written_kept}
use Rattle.index_build.proofs.building.build_column.Goals as goal

pub write_bins-requires-clause-bins : goal.write_bins-requires-clause-bins
write_bins-requires-clause-bins g c =
    rw c.deref.ensures.value (read_bins _ c.args.column.now c.args.spec.now c.in-Ok.bins.items c.requires.given.0 c.requires.mask c.in-Ok.ensures.bins)

-- ---- it is read and written

pub returns-clause-leaves : goal.returns-clause-leaves
returns-clause-leaves g c = λ numbers has.
    leaves_read c.write_bins.result c.args.spec.now c.args.column.now.mask numbers c.deref.result.now c.args.column.now.rows c.args.name.now
    (g.S.Store.files c.args.store.now) (g.S.Store.files c.column_bins.new.store) (g.S.Store.files c.write_bins.new.store) c.column_bins.ensures.files
    (c.deref.ensures.value ∙ told_bins _ c.args.column.now c.args.spec.now c.in-Ok.bins.items numbers c.in-Ok.ensures.bins has) c.requires.mask
    c.write_bins.ensures.leaves

pub returns-clause-answer : goal.returns-clause-answer
returns-clause-answer g c = λ numbers has.
    answers_read c.write_bins.result c.args.spec.now c.args.column.now.mask numbers c.deref.result.now
    (c.deref.ensures.value ∙ told_bins _ c.args.column.now c.args.spec.now c.in-Ok.bins.items numbers c.in-Ok.ensures.bins has) c.write_bins.ensures.answer

pub returns-clause-kept : goal.returns-clause-kept
returns-clause-kept g c =
    written_kept c.write_bins.result c.args.spec.now.encoding _ c.args.name.now _ (g.S.Store.files c.args.store.now) (g.S.Store.files c.column_bins.new.store)
    (g.S.Store.files c.write_bins.new.store) c.column_bins.ensures.files c.write_bins.ensures.leaves

pub returns-clause-stop : goal.returns-clause-stop
returns-clause-stop g c =
    stops_written c.write_bins.result (g.S.Store.files c.args.store.now) c.args.column.now c.args.spec.now c.deref.result.now
    (λ numbers has. c.deref.ensures.value ∙ told_bins _ c.args.column.now c.args.spec.now c.in-Ok.bins.items numbers c.in-Ok.ensures.bins has)
    c.write_bins.ensures.answer

-- ---- fewer bytes came than it has

pub returns-in-Err-Short-clause-leaves : goal.returns-in-Err-Short-clause-leaves
returns-in-Err-Short-clause-leaves g c = λ numbers has.
    leaves_stopped c.short.result c.args.spec.now.encoding _ c.args.name.now _ (g.S.Store.files c.args.store.now) (g.S.Store.files c.column_bins.new.store)
    c.short.ensures.never c.column_bins.ensures.files

pub returns-in-Err-Short-clause-answer : goal.returns-in-Err-Short-clause-answer
returns-in-Err-Short-clause-answer g c = λ numbers has.
    absurd (rw c.in-Err-Short.field-0-is at (c.in-Err-Short.ensures.whole (values_bytes c.args.column.now.ty numbers) has.told
    (numbers_whole (g.S.Store.files c.args.store.now) c.args.column.now numbers has)))

pub returns-in-Err-Short-clause-stop : goal.returns-in-Err-Short-clause-stop
returns-in-Err-Short-clause-stop g c =
    IfErr-weaker c.short.result _ _
    (λ fault h. short_stops (g.S.Store.files c.args.store.now) c.args.column.now c.args.spec.now c.in-Err-Short.want c.in-Err-Short.have fault
    (λ bytes told size. rw c.in-Err-Short.field-0-is at (c.in-Err-Short.ensures.whole bytes told size)) h)
    c.short.ensures.stop
