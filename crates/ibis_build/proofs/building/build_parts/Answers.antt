use Rattle.std.proofs.Common.{◌≡◌, ◌<◌, ◌+◌, ℕ, List, Some, take, length, map, ap, sym, subst, ◌∙◌, arith}
use Rattle.std.specs.List.{slice_get}
use Rattle.std.proofs.lemmas.List.{length-map, take_all}
use Rattle.std.proofs.lemmas.Option.{slice_get_read, slice_get_within}
use Rattle.std.proofs.lemmas.Result.{err_from_is_err_and}
use Rattle.fb_outside.proofs.FileLemmas.{ChangesAmong-trans, ChangesAmong-weaken}
use Rattle.fb_outside.proofs.ReadLemmas.{AddsOnly-trans}
use Rattle.world.specs.PartFiles.{part_data}
use Rattle.world.specs.World.{Partition}
use Rattle.dataset.specs.declared.content.Dataset.{Dataset}
use Rattle.ibis_build.specs.Builds.{tasks_in}
use Rattle.ibis_build.specs.Leaves.{StandsWith}
use Rattle.ibis_build.proofs.BuildLemmas.{next-part, part-at, part-in, part-stops}
use Rattle.ibis_build.proofs.FileLemmas.{name-listed, stop-was}
use Rattle.ibis_build.proofs.PutLemmas.{parts-more, sound-parts}
use Rattle.ibis_build.proofs.building.build_parts.Goals as goal

pub loop-part-preserved : goal.loop-part-preserved
loop-part-preserved g c =
    let dataset = c.args.dataset.now in
    let cols = c.args.cols.now in
    let spec = c.args.spec.now in
    let part = c.part-item.result in
    let k = c.loop-part.part-index in
    let listed = part-at dataset _ k part c.as_slice-part-items.ensures (omega (arith, c.loop-part-test.true)) c.part-item.is in
    record {
      unfailed = (rw c.in_ok-build_part.was at c.build_part.ensures.cause).told (λ e. cc) ∙ c.loop-part.invariant.unfailed;
      kept = ChangesAmong-trans _ _ _ c.loop-part.invariant.kept
          (ChangesAmong-weaken _ _ (λ q. name-listed dataset cols k part q listed) c.build_part.ensures.kept);
      reads = AddsOnly-trans _ _ _ _ c.loop-part.invariant.reads c.build_part.ensures.reads;
      puts = parts-more dataset c.requires.valid spec cols k part _ _ _ listed c.loop-part.invariant.kept c.build_part.ensures.kept
          c.loop-part.invariant.puts c.in_ok-build_part.ensures.puts;
      sound = sound-parts dataset c.requires.valid cols k part _ _ listed c.loop-part.invariant.kept c.loop-part.invariant.sound
          c.in_ok-build_part.ensures.sound;
      stands = λ world content h there is.
          let p = part-in dataset content k part is listed in
          next-part dataset.dir spec world content p.from dataset.schema part cols k _ _ there p.at p.same p.is
          (c.loop-part.invariant.stands world content h there is) c.build_part.result _ c.in_ok-build_part.was c.build_part.ensures.stands;
    }

pub returns-clause-puts : goal.returns-clause-puts
returns-clause-puts g c = λ place part listed.
    c.loop-part.invariant.puts place part
    (let less = slice_get_within c.args.dataset.now.parts place part listed in
    omega (arith, less, c.loop-part-test.false, ap length c.as_slice-part-items.ensures)) listed

pub returns-clause-sound : goal.returns-clause-sound
returns-clause-sound g c = λ place part listed.
    c.loop-part.invariant.sound place part
    (let less = slice_get_within c.args.dataset.now.parts place part listed in
    omega (arith, less, c.loop-part-test.false, ap length c.as_slice-part-items.ensures)) listed

pub returns-clause-stands : goal.returns-clause-stands
returns-clause-stands g c = λ world content h there is.
    subst (λ (ps : List Partition). StandsWith c.args.dataset.now.dir c.args.spec.now world (tasks_in c.args.spec.now content.schema c.args.cols.now ps)
    (g.S.Store.files c.loop-part.store))
    (take_all c.loop-part.part-index content.parts
    (let size = length-map content.parts (part_data content.schema) in
    let parts = ap (λ (d : Dataset). length d.parts) is in
    omega (arith, c.loop-part-test.false, ap length c.as_slice-part-items.ensures, size, parts)))
    (c.loop-part.invariant.stands world content h there is)

pub returns-in_err-build_part-clause-kept : goal.returns-in_err-build_part-clause-kept
returns-in_err-build_part-clause-kept g c =
    ChangesAmong-trans _ _ _ c.loop-part.invariant.kept
    (ChangesAmong-weaken _ _
    (λ q. name-listed c.args.dataset.now c.args.cols.now c.loop-part.part-index c.part-item.result q
    (part-at c.args.dataset.now _ c.loop-part.part-index c.part-item.result c.as_slice-part-items.ensures
    (omega (arith, c.loop-part-test.true)) c.part-item.is))
    c.build_part.ensures.kept)

pub returns-in_err-build_part-clause-reads : goal.returns-in_err-build_part-clause-reads
returns-in_err-build_part-clause-reads g c = AddsOnly-trans _ _ _ _ c.loop-part.invariant.reads c.build_part.ensures.reads

pub returns-in_err-build_part-clause-stop : goal.returns-in_err-build_part-clause-stop
returns-in_err-build_part-clause-stop g c =
    let p = err_from_is_err_and c.from_residual.result c.from_residual.ensures.1 in
    rw (p.1, p.2)
    (stop-was c.args.dataset.now c.requires.valid c.args.cols.now (record { spec = c.args.spec.now; cols = c.args.cols.now }) _ _ _
    c.loop-part.invariant.kept c.in_err-build_part.ensures.stop)

pub returns-in_err-build_part-clause-stands : goal.returns-in_err-build_part-clause-stands
returns-in_err-build_part-clause-stands g c = λ world content h there is.
    let p =
    part-in c.args.dataset.now content c.loop-part.part-index c.part-item.result is
    (part-at c.args.dataset.now _ c.loop-part.part-index c.part-item.result c.as_slice-part-items.ensures
    (omega (arith, c.loop-part-test.true)) c.part-item.is) in
    let q = err_from_is_err_and c.from_residual.result c.from_residual.ensures.1 in
    rw (q.1, q.2)
    (part-stops c.args.dataset.now.dir c.args.spec.now world content p.from c.args.dataset.now.schema c.part-item.result c.args.cols.now
    c.loop-part.part-index _ _ there p.at p.same p.is (c.loop-part.invariant.stands world content h there is) c.build_part.result _
    c.in_err-build_part.was c.build_part.ensures.stands)
