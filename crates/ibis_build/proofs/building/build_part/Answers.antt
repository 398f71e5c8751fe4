use Rattle.std.proofs.Common.{◌≡◌, ℕ, List, Some, take, sym, subst, ◌∙◌, arith}
use Rattle.std.specs.List.{slice_get}
use Rattle.std.proofs.lemmas.List.{take_all}
use Rattle.std.proofs.lemmas.Option.{slice_get-get_or}
use Rattle.std.proofs.lemmas.Result.{err_from_is_err_and}
use Rattle.fb_outside.proofs.FileLemmas.{ChangesAmong-trans, ChangesAmong-weaken}
use Rattle.fb_outside.proofs.ReadLemmas.{AddsOnly-trans, AddsOnly-weaken}
use Rattle.ibis_build.specs.Builds.{part_tasks}
use Rattle.ibis_build.specs.Causes.{AreSound, HasPartIndexes}
use Rattle.ibis_build.specs.Leaves.{StandsWith}
use Rattle.ibis_build.proofs.BuildLemmas.{column-stops, next-column}
use Rattle.ibis_build.proofs.FileLemmas.{look-one, name-listed, name-one, stop-one, stop-was}
use Rattle.ibis_build.proofs.PutLemmas.{indexes-more, sound-more}
use Rattle.ibis_build.proofs.building.build_part.Goals as goal

pub loop-col-preserved : goal.loop-col-preserved
loop-col-preserved g c =
    let dataset = c.args.dataset.now in
    let part = c.args.part.now in
    let cols = c.args.cols.now in
    let spec = c.args.spec.now in
    let k = c.loop-col.col-index in
    let at = slice_get-get_or cols k 0 (omega (arith, c.loop-col-test.true)) in
    let listed = c.requires.listed in
    record {
      unfailed = (rw c.in_ok-build_column.was at c.build_column.ensures.cause).told (λ e. cc) ∙ c.loop-col.invariant.unfailed;
      kept = ChangesAmong-trans _ _ _ c.loop-col.invariant.kept
          (ChangesAmong-weaken _ _ (name-one dataset cols k _ at part) c.build_column.ensures.kept);
      reads = AddsOnly-trans _ _ _ _ c.loop-col.invariant.reads
          (AddsOnly-weaken _ _ _ _ (look-one dataset cols k _ at) c.build_column.ensures.reads);
      puts = indexes-more dataset c.requires.valid listed.0 part listed.1 spec cols k _ _ _ _ at c.loop-col.invariant.kept
          c.build_column.ensures.kept c.loop-col.invariant.puts c.in_ok-build_column.ensures.puts;
      sound = sound-more dataset c.requires.valid listed.0 part listed.1 cols k _ _ _ at c.loop-col.invariant.kept c.loop-col.invariant.sound
          c.in_ok-build_column.ensures.sound;
      stands = λ world content place p h there here same is.
          next-column dataset.dir spec world content place p dataset.schema part cols k _ _ _ there here same is at
          (c.loop-col.invariant.stands world content place p h there here same is) c.build_column.result _ c.in_ok-build_column.was
          c.build_column.ensures.stands;
    }

pub returns-clause-puts : goal.returns-clause-puts
returns-clause-puts g c =
    subst
    (λ (cs : List ℕ). HasPartIndexes (g.S.Store.files c.args.store.now) c.args.dataset.now c.args.part.now (record { spec = c.args.spec.now; cols = cs })
    (g.S.Store.files c.loop-col.store))
    (take_all c.loop-col.col-index c.args.cols.now (omega (arith, c.loop-col-test.false))) c.loop-col.invariant.puts

pub returns-clause-sound : goal.returns-clause-sound
returns-clause-sound g c =
    subst (λ (cs : List ℕ). AreSound (g.S.Store.files c.args.store.now) c.args.dataset.now c.args.part.now cs)
    (take_all c.loop-col.col-index c.args.cols.now (omega (arith, c.loop-col-test.false))) c.loop-col.invariant.sound

pub returns-clause-stands : goal.returns-clause-stands
returns-clause-stands g c = λ world content place p h there here same is.
    subst (λ (cs : List ℕ). StandsWith c.args.dataset.now.dir c.args.spec.now world (part_tasks c.args.spec.now content.schema cs p)
    (g.S.Store.files c.loop-col.store))
    (take_all c.loop-col.col-index c.args.cols.now (omega (arith, c.loop-col-test.false)))
    (c.loop-col.invariant.stands world content place p h there here same is)

pub returns-in_err-build_column-clause-kept : goal.returns-in_err-build_column-clause-kept
returns-in_err-build_column-clause-kept g c =
    ChangesAmong-trans _ _ _ c.loop-col.invariant.kept
    (ChangesAmong-weaken _ _
    (name-one c.args.dataset.now c.args.cols.now c.loop-col.col-index _
    (slice_get-get_or c.args.cols.now c.loop-col.col-index 0 (omega (arith, c.loop-col-test.true))) c.args.part.now)
    c.build_column.ensures.kept)

pub returns-in_err-build_column-clause-reads : goal.returns-in_err-build_column-clause-reads
returns-in_err-build_column-clause-reads g c =
    AddsOnly-trans _ _ _ _ c.loop-col.invariant.reads
    (AddsOnly-weaken _ _ _ _
    (look-one c.args.dataset.now c.args.cols.now c.loop-col.col-index _
    (slice_get-get_or c.args.cols.now c.loop-col.col-index 0 (omega (arith, c.loop-col-test.true))))
    c.build_column.ensures.reads)

pub returns-in_err-build_column-clause-stop : goal.returns-in_err-build_column-clause-stop
returns-in_err-build_column-clause-stop g c =
    let p = err_from_is_err_and c.from_residual.result c.from_residual.ensures.1 in
    rw (p.1, p.2)
    (stop-was c.args.dataset.now c.requires.valid c.args.cols.now (record { spec = c.args.spec.now; cols = c.args.cols.now }) _ _ _
    (ChangesAmong-weaken _ _ (λ q. name-listed c.args.dataset.now c.args.cols.now c.requires.listed.0 c.args.part.now q c.requires.listed.1)
    c.loop-col.invariant.kept)
    (stop-one c.args.dataset.now c.args.cols.now c.loop-col.col-index _
    (slice_get-get_or c.args.cols.now c.loop-col.col-index 0 (omega (arith, c.loop-col-test.true))) _ c.args.spec.now _
    c.in_err-build_column.ensures.stop))

pub returns-in_err-build_column-clause-stands : goal.returns-in_err-build_column-clause-stands
returns-in_err-build_column-clause-stands g c = λ world content place p h there here same is.
    let q = err_from_is_err_and c.from_residual.result c.from_residual.ensures.1 in
    rw (q.1, q.2)
    (column-stops c.args.dataset.now.dir c.args.spec.now world content place p c.args.dataset.now.schema c.args.part.now c.args.cols.now
    c.loop-col.col-index _ _ _ there here same is
    (slice_get-get_or c.args.cols.now c.loop-col.col-index 0 (omega (arith, c.loop-col-test.true)))
    (c.loop-col.invariant.stands world content place p h there here same is) c.build_column.result _ c.in_err-build_column.was
    c.build_column.ensures.stands)
