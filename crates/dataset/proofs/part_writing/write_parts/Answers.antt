use Rattle.std.proofs.Common.{◌≡◌, ◌<◌, ◌≤◌, ◌+◌, List, length, take, refl, ap, subst, sym, ◌∙◌, arith}
use Rattle.std.specs.List.{flat_map}
use Rattle.std.proofs.lemmas.List.{take_all}
use Rattle.fb_outside.specs.Puts.{File, PutsAll, PutsFront}
use Rattle.fb_outside.proofs.PutLemmas.{PutsAll-none, PutsAll-append, PutsInOrder-err, PutsFront-all, PutsFront-append}
use Rattle.world.specs.World.{Partition}
use Rattle.world.specs.Effects.{new_part, new_parts, part_count}
use Rattle.world.specs.PartFiles.{part_files}
use Rattle.dataset.proofs.FileLemmas.{front_of_all, length-new_parts, part_from_is, parts_more}
use Rattle.dataset.proofs.part_writing.write_parts.Goals as goal

pub loop-place-init : goal.loop-place-init
loop-place-init g c = record { files = PutsAll-none (g.S.Store.files c.args.store.now) (g.S.Store.files c.args.store.now) refl; reads = refl; cause = refl }

pub loop-place-preserved : goal.loop-place-preserved
loop-place-preserved g c =
    let dir = c.args.dir.now in
    let table = c.args.columns.now in
    let place = c.loop-place.place in
    let parts = new_parts c.args.next c.args.per_part table.records in
    let one = part_files dir table.schema in
    let counted : c.count_of_parts-count.result ≡ part_count c.args.per_part (length table.records) = c.count_of_parts-count.ensures.count ∙ ap (part_count c.args.per_part) c.rows.ensures in
    let there : place < part_count c.args.per_part (length table.records) = omega (arith, counted, c.loop-place-test.true) in
    let a = c.from-in-loop-place.ensures in
    let b = c.from.ensures in
    let is = part_from_is table c.args.next c.args.per_part place c.in_ok-meta.meta _ c.in_ok-meta.ensures (cc) in
    let more = parts_more one c.args.next c.args.per_part place table.records there in
    record {
      files = subst (λ (fs : List File). PutsAll fs (g.S.Store.files c.args.store.now) (g.S.Store.files c.write_part.new.store)) (sym more)
          (PutsAll-append (flat_map one (take place parts)) (one (new_part c.args.next c.args.per_part table.records place)) _ _ _ c.loop-place.invariant.files
          (subst (λ (p : Partition). PutsAll (one p) (g.S.Store.files c.loop-place.store) (g.S.Store.files c.write_part.new.store)) is c.in_ok-write_part.ensures.files));
      reads = c.in_ok-write_part.ensures.reads ∙ c.loop-place.invariant.reads;
      cause = c.in_ok-write_part.ensures.cause.told (λ e. absurd (cc)) ∙ c.loop-place.invariant.cause;
    }

pub returns-in_err-meta-clause-files : goal.returns-in_err-meta-clause-files
returns-in_err-meta-clause-files g c =
    let one = part_files c.args.dir.now c.args.columns.now.schema in
    let parts = new_parts c.args.next c.args.per_part c.args.columns.now.records in
    PutsInOrder-err (flat_map one parts) c.from_residual.result _ _ c.from_residual.ensures.0
    (front_of_all one c.loop-place.place parts _ _ (PutsFront-all (flat_map one (take c.loop-place.place parts)) _ _ c.loop-place.invariant.files))

pub returns-in_err-write_part-clause-files : goal.returns-in_err-write_part-clause-files
returns-in_err-write_part-clause-files g c =
    let dir = c.args.dir.now in
    let table = c.args.columns.now in
    let place = c.loop-place.place in
    let parts = new_parts c.args.next c.args.per_part table.records in
    let one = part_files dir table.schema in
    let counted : c.count_of_parts-count.result ≡ part_count c.args.per_part (length table.records) = c.count_of_parts-count.ensures.count ∙ ap (part_count c.args.per_part) c.rows.ensures in
    let there : place < part_count c.args.per_part (length table.records) = omega (arith, counted, c.loop-place-test.true) in
    let a = c.from-in-loop-place.ensures in
    let b = c.from.ensures in
    let is = part_from_is table c.args.next c.args.per_part place c.in_ok-meta.meta _ c.in_ok-meta.ensures (cc) in
    let more = parts_more one c.args.next c.args.per_part place table.records there in
    PutsInOrder-err (flat_map one parts) c.from_residual-in_err-write_part.result _ _ c.from_residual-in_err-write_part.ensures.0
    (front_of_all one (place + 1) parts _ _
    (subst (λ (fs : List File). PutsFront fs (g.S.Store.files c.args.store.now) (g.S.Store.files c.write_part.new.store)) (sym more)
    (PutsFront-append (flat_map one (take place parts)) (one (new_part c.args.next c.args.per_part table.records place)) _ _ _ c.loop-place.invariant.files
    (subst (λ (p : Partition). PutsFront (one p) (g.S.Store.files c.loop-place.store) (g.S.Store.files c.write_part.new.store)) is c.in_err-write_part.ensures.files))))

pub returns-clause-files : goal.returns-clause-files
returns-clause-files g c =
    let parts = new_parts c.args.next c.args.per_part c.args.columns.now.records in
    let counted : c.count_of_parts-count.result ≡ part_count c.args.per_part (length c.args.columns.now.records) = c.count_of_parts-count.ensures.count ∙ ap (part_count c.args.per_part) c.rows.ensures in
    let len = length-new_parts c.args.next c.args.per_part c.args.columns.now.records in
    let all : length parts ≤ c.loop-place.place = omega (arith, counted, len, c.loop-place-test.false) in
    subst (λ (ps : List Partition). PutsAll (flat_map (part_files c.args.dir.now c.args.columns.now.schema) ps) (g.S.Store.files c.args.store.now) (g.S.Store.files c.loop-place.store))
    (take_all c.loop-place.place parts all) c.loop-place.invariant.files
