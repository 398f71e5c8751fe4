use Rattle.std.proofs.Common.{◌≡◌, ◌+◌, IsOk, true, refl, sym, subst, ◌∙◌, arith}
use Rattle.std.proofs.lemmas.Result.{err_from_is_err_and}
use Rattle.fb_outside.proofs.ReadLemmas.{AddsOnly-same, AddsOnly-trans}
use Rattle.stages.specs.Answer.{bitmaps_in}
use Rattle.stages.proofs.ListLemmas.{err_not_ok}
use Rattle.stages.proofs.LookLemmas.{adds_done}
use Rattle.world.specs.World.{Partition}
use Rattle.part_meaning.specs.Meaning.{IsPartAt}
use Rattle.part_meaning.specs.Parts.{is_bitmap_in}
use Rattle.query_engine.specs.Reads.{IsPlanLook, is_allowed_over, means_in}
use Rattle.query_engine.proofs.ChoosingLemmas.{ChosenTo, all_hits, allowed_of, chosen_more, chosen_none, named}
use Rattle.query_engine.proofs.PartLemmas.{part_at}
use Rattle.query_engine.proofs.WalkLemmas.{refused_reads, refused_steps, whole_reads}
use Rattle.query_engine.proofs.choosing.choose.Goals as goal

pub loop-place-init : goal.loop-place-init
loop-place-init g c = record {
  unfailed = refl;
  kept = refl;
  looked = AddsOnly-same (IsPlanLook c.args.dataset.now c.args.plan.now) (g.S.Store.reads c.args.store.now) (g.S.Store.reads c.args.store.now) refl;
  chosen = chosen_none (g.S.Store.files c.args.store.now) c.args.dataset.now c.args.plan.now c.requires.valid c.requires.fits (g.S.Store.reads c.args.store.now) c.args.steps.now c.new-parts.result c.new-parts.ensures;
}

pub returns-in_err-found-clause-whole : goal.returns-in_err-found-clause-whole
returns-in_err-found-clause-whole g c =
    let exit = err_from_is_err_and c.from_residual.result c.from_residual.ensures.1 in
    let files = g.S.Store.files c.args.store.now in
    let dataset = c.args.dataset.now in
    let place = c.loop-place.place in
    let meta = c.listed_part-part.result.now in
    rw (exit.1, exit.2) (λ parts are. let p = part_at files dataset parts c.requires.valid are place meta c.listed_part-part.ensures in
    c.in_err-found.ensures.whole p.0 (subst (λ f. IsPartAt f dataset.dir meta p.0) (sym c.loop-place.invariant.kept) (are.each place meta p.0 c.listed_part-part.ensures p.1)))

pub returns-in_err-found-clause-looks : goal.returns-in_err-found-clause-looks
returns-in_err-found-clause-looks g c =
    AddsOnly-trans (IsPlanLook c.args.dataset.now c.args.plan.now) (g.S.Store.reads c.args.store.now) (g.S.Store.reads c.loop-place.store)
    (g.S.Store.reads c.choose_in.new.store) c.loop-place.invariant.looked c.choose_in.ensures.looks

pub returns-in_err-found-clause-reads : goal.returns-in_err-found-clause-reads
unfolding is_allowed_over
returns-in_err-found-clause-reads g c parts are =
    let files = g.S.Store.files c.args.store.now in
    let dataset = c.args.dataset.now in
    let plan = c.args.plan.now in
    let before = c.loop-place.invariant in
    let place = c.loop-place.place in
    let meta = c.listed_part-part.result.now in
    let p = part_at files dataset parts c.requires.valid are place meta c.listed_part-part.ensures in
    let is = subst (λ f. IsPartAt f dataset.dir meta p.0) (sym before.kept) (are.each place meta p.0 c.listed_part-part.ensures p.1) in
    refused_reads files dataset parts plan (allowed_of dataset plan) c.requires.valid are (named files dataset plan c.requires.valid c.requires.fits)
    (g.S.Store.reads c.args.store.now) (g.S.Store.reads c.loop-place.store) (g.S.Store.reads c.choose_in.new.store) c.args.steps.now c.loop-place.steps place p.0
    (IsOk c.choose_in.result) (IsOk c.from_residual.result) p.1 (before.chosen.walked parts are)
    (λ ok. err_not_ok c.from_residual.result c.from_residual.ensures.0 ok) (c.choose_in.ensures.reads p.0 is)

pub returns-in_err-found-clause-steps : goal.returns-in_err-found-clause-steps
returns-in_err-found-clause-steps g c parts are =
    let files = g.S.Store.files c.args.store.now in
    let dataset = c.args.dataset.now in
    let plan = c.args.plan.now in
    let before = c.loop-place.invariant in
    let place = c.loop-place.place in
    let meta = c.listed_part-part.result.now in
    let p = part_at files dataset parts c.requires.valid are place meta c.listed_part-part.ensures in
    let is = subst (λ f. IsPartAt f dataset.dir meta p.0) (sym before.kept) (are.each place meta p.0 c.listed_part-part.ensures p.1) in
    refused_steps files dataset parts plan (allowed_of dataset plan) c.requires.valid are (named files dataset plan c.requires.valid c.requires.fits)
    (g.S.Store.reads c.args.store.now) (g.S.Store.reads c.loop-place.store) c.args.steps.now c.loop-place.steps c.choose_in.new.steps place p.0 p.1
    (before.chosen.walked parts are) (c.choose_in.ensures.steps p.0 is)

pub returns-in_err-keep-clause-looks : goal.returns-in_err-keep-clause-looks
returns-in_err-keep-clause-looks g c =
    AddsOnly-trans (IsPlanLook c.args.dataset.now c.args.plan.now) (g.S.Store.reads c.args.store.now) (g.S.Store.reads c.loop-place.store)
    (g.S.Store.reads c.choose_in.new.store) c.loop-place.invariant.looked c.choose_in.ensures.looks

pub returns-in_err-keep-clause-reads : goal.returns-in_err-keep-clause-reads
unfolding is_allowed_over
returns-in_err-keep-clause-reads g c parts are =
    let files = g.S.Store.files c.args.store.now in
    let dataset = c.args.dataset.now in
    let plan = c.args.plan.now in
    let before = c.loop-place.invariant in
    let place = c.loop-place.place in
    let meta = c.listed_part-part.result.now in
    let p = part_at files dataset parts c.requires.valid are place meta c.listed_part-part.ensures in
    let is = subst (λ f. IsPartAt f dataset.dir meta p.0) (sym before.kept) (are.each place meta p.0 c.listed_part-part.ensures p.1) in
    refused_reads files dataset parts plan (allowed_of dataset plan) c.requires.valid are (named files dataset plan c.requires.valid c.requires.fits)
    (g.S.Store.reads c.args.store.now) (g.S.Store.reads c.loop-place.store) (g.S.Store.reads c.choose_in.new.store) c.args.steps.now c.loop-place.steps place p.0
    (IsOk c.choose_in.result) (IsOk c.from_residual-in_err-keep.result) p.1 (before.chosen.walked parts are)
    (λ ok. err_not_ok c.from_residual-in_err-keep.result c.from_residual-in_err-keep.ensures.0 ok) (c.choose_in.ensures.reads p.0 is)

pub returns-in_err-keep-clause-steps : goal.returns-in_err-keep-clause-steps
returns-in_err-keep-clause-steps g c parts are =
    let files = g.S.Store.files c.args.store.now in
    let dataset = c.args.dataset.now in
    let plan = c.args.plan.now in
    let before = c.loop-place.invariant in
    let place = c.loop-place.place in
    let meta = c.listed_part-part.result.now in
    let p = part_at files dataset parts c.requires.valid are place meta c.listed_part-part.ensures in
    let is = subst (λ f. IsPartAt f dataset.dir meta p.0) (sym before.kept) (are.each place meta p.0 c.listed_part-part.ensures p.1) in
    refused_steps files dataset parts plan (allowed_of dataset plan) c.requires.valid are (named files dataset plan c.requires.valid c.requires.fits)
    (g.S.Store.reads c.args.store.now) (g.S.Store.reads c.loop-place.store) c.args.steps.now c.loop-place.steps c.choose_in.new.steps place p.0 p.1
    (before.chosen.walked parts are) (c.choose_in.ensures.steps p.0 is)

pub loop-place-preserved : goal.loop-place-preserved
loop-place-preserved g c =
    let files = g.S.Store.files c.args.store.now in
    let dataset = c.args.dataset.now in
    let plan = c.args.plan.now in
    let before = c.loop-place.invariant in
    let place = c.loop-place.place in
    let meta = c.listed_part-part.result.now in
    let found = c.in_ok-found.found in
    let said = c.in_ok-found.ensures in
    let old = g.S.Store.reads c.args.store.now in
    let mid = g.S.Store.reads c.loop-place.store in
    let new = g.S.Store.reads c.choose_in.new.store in
    let still = λ (p : Partition) (is : IsPartAt files dataset.dir meta p). subst (λ f. IsPartAt f dataset.dir meta p) (sym before.kept) is in
    let ok : IsOk c.choose_in.result = rw c.in_ok-found.was refl in
    let more = chosen_more files dataset plan c.requires.valid c.requires.fits old mid new c.args.steps.now c.loop-place.steps c.choose_in.new.steps place
    c.loop-place.parts c.loop-place.hits c.loop-place.checked meta found.rows found.count found.checked c.listed_part-part.ensures before.chosen (record {
      long = said.length;
      limit = said.limit;
      counted = said.count;
      few = said.few;
      rows = λ p is. said.rows p (still p is);
      checks = λ p is. said.checked p (still p is);
      reads = λ p is. adds_done mid new (allowed_of dataset plan p) (is_bitmap_in dataset.dir dataset.schema p) (bitmaps_in (means_in dataset p) plan)
          (IsOk c.choose_in.result) (Unit {0}) (λ u. ok) (c.choose_in.ensures.reads p (still p is));
      steps = λ p is. c.choose_in.ensures.steps p (still p is);
    }) in
    record {
      unfailed = (rw c.in_ok-found.was at c.choose_in.ensures.cause).told (λ e. cc) ∙ before.unfailed;
      kept = c.choose_in.ensures.files ∙ before.kept;
      looked = AddsOnly-trans (IsPlanLook dataset plan) old mid new before.looked c.choose_in.ensures.looks;
      chosen = subst (λ vs. ChosenTo files dataset plan old c.args.steps.now (place + 1) vs (c.loop-place.hits + found.count) (c.loop-place.checked + found.checked) new c.choose_in.new.steps)
          (sym c.in_ok-keep.ensures) more;
    }

pub returns-clause-hits : goal.returns-clause-hits
returns-clause-hits g c parts are =
    all_hits (g.S.Store.files c.args.store.now) c.args.dataset.now c.args.plan.now (g.S.Store.reads c.args.store.now) (g.S.Store.reads c.loop-place.store)
    c.args.steps.now c.loop-place.steps c.loop-place.place c.loop-place.parts c.loop-place.hits c.loop-place.checked parts c.loop-place.invariant.chosen are
    (omega (arith, c.loop-place-test.false, c.len-place-end.ensures, are.number))

pub returns-clause-reads : goal.returns-clause-reads
unfolding is_allowed_over
returns-clause-reads g c parts are =
    let files = g.S.Store.files c.args.store.now in
    let dataset = c.args.dataset.now in
    let plan = c.args.plan.now in
    whole_reads files dataset parts plan (allowed_of dataset plan) c.requires.valid are (named files dataset plan c.requires.valid c.requires.fits)
    (g.S.Store.reads c.args.store.now) (g.S.Store.reads c.loop-place.store) c.args.steps.now c.loop-place.steps c.loop-place.place (true ≡ true)
    (omega (arith, c.loop-place-test.false, c.len-place-end.ensures, are.number)) (c.loop-place.invariant.chosen.walked parts are)
