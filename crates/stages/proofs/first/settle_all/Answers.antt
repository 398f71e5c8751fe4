use Rattle.std.proofs.Common.{◌+◌, [], ◌∷◌, ◌++◌, IsOk, refl, sym, subst, ◌∙◌, inl, inr}
use Rattle.std.proofs.lemmas.Result.{err_from_is_err_and}
use Rattle.fb_outside.proofs.ReadLemmas.{AddsOnly-same}
use Rattle.stages.specs.Meaning.{Meaning}
use Rattle.stages.proofs.FirstLemmas.{kept_settled, none_settled, one_settled, refused_reads, refused_steps}
use Rattle.stages.proofs.LookLemmas.{adds_done, looks_for_one}
use Rattle.stages.proofs.ListLemmas.{all_at, err_not_ok}
use Rattle.stages.proofs.first.settle_all.Goals as goal

pub settle-requires : goal.settle-requires
settle-requires g c = record { fits = all_at (g.C.Conditions.fits c.args.conditions.now) c.args.atoms.now c.loop-place.place c.at.result.now c.requires c.at.ensures }

pub loop-place-init : goal.loop-place-init
loop-place-init g c =
    let files = g.S.Store.files c.args.store.now in
    record {
      unfailed = refl;
      kept = refl;
      looks = AddsOnly-same _ _ _ refl;
      settled = none_settled (g.C.Conditions.means c.args.conditions.now files) (g.C.Conditions.is_open c.args.conditions.now files) (g.C.Conditions.rows c.args.conditions.now) c.args.atoms.now (g.S.Store.reads c.args.store.now) c.args.steps.now c.new-answers.result.items c.new-opened.result.items c.new-answers.ensures.items c.new-opened.ensures.items;
    }

pub loop-place-preserved : goal.loop-place-preserved
loop-place-preserved g c =
    let on = c.args.conditions.now in
    let atoms = c.args.atoms.now in
    let files = g.S.Store.files c.args.store.now in
    let means = g.C.Conditions.means on files in
    let is_open = g.C.Conditions.is_open on files in
    let rows = g.C.Conditions.rows on in
    let old = g.S.Store.reads c.args.store.now in
    let before = c.loop-place.invariant in
    let place = c.loop-place.place in
    let atom = c.at.result.now in
    let made = c.in_ok-settled.settled in
    let said = c.in_ok-settled.ensures in
    let mid = g.S.Store.reads c.loop-place.store in
    let new = g.S.Store.reads c.settle.new.store in
    let now = c.settle.new.steps in
    let still = λ (m : Meaning) (is : means m). subst (λ f. g.C.Conditions.means on f m) (sym before.kept) is in
    let ok : IsOk c.settle.result = rw c.in_ok-settled.was refl in
    let more = one_settled means is_open rows atoms old c.args.steps.now place c.loop-place.answers.items c.loop-place.opened.items mid new c.loop-place.steps now atom made.answers made.column before.settled c.at.ensures said.length
    (subst (λ f. g.C.Conditions.is_open on f atom made.column) before.kept said.opened)
    (λ m is. said.answers m (still m is))
    (λ m is. adds_done mid new (m.is_free atom) m.is_bitmap (m.fetched atom) (IsOk c.settle.result) (Unit {0}) (λ u. ok) (c.settle.ensures.reads m (still m is)))
    (λ m is. c.settle.ensures.steps m (still m is)) in
    record {
      unfailed = (rw c.in_ok-settled.was at c.settle.ensures.cause).told (λ e. e) ∙ before.unfailed;
      kept = c.settle.ensures.files ∙ before.kept;
      looks = looks_for_one (g.C.Conditions.is_look on) atoms place atom old mid new c.at.ensures before.looks c.settle.ensures.looks;
      settled = kept_settled means is_open rows atoms old c.args.steps.now (place + 1) c.keep.new.list.items (c.loop-place.answers.items ++ made.answers ∷ []) c.keep-in-loop-place.new.list.items (c.loop-place.opened.items ++ made.column ∷ []) new now c.in_ok-keep.ensures c.in_ok-keep-2.ensures more;
    }

pub returns-in_err-settled-clause-stop : goal.returns-in_err-settled-clause-stop
returns-in_err-settled-clause-stop g c =
    let on = c.args.conditions.now in
    let exit = err_from_is_err_and c.from_residual.result c.from_residual.ensures.1 in
    rw (exit.1, exit.2) (inr (record {
      place = c.loop-place.place;
      atom = c.at.result.now;
      there = c.at.ensures;
      is = subst (λ f. g.C.Conditions.stops on f c.at.result.now c.in_err-settled.field-0.0) c.loop-place.invariant.kept c.in_err-settled.ensures.stop;
    }))

pub returns-in_err-settled-clause-whole : goal.returns-in_err-settled-clause-whole
returns-in_err-settled-clause-whole g c =
    let on = c.args.conditions.now in
    let exit = err_from_is_err_and c.from_residual.result c.from_residual.ensures.1 in
    rw (exit.1, exit.2) (λ m is. c.in_err-settled.ensures.whole m (subst (λ f. g.C.Conditions.means on f m) (sym c.loop-place.invariant.kept) is))

pub returns-in_err-settled-clause-looks : goal.returns-in_err-settled-clause-looks
returns-in_err-settled-clause-looks g c =
    looks_for_one (g.C.Conditions.is_look c.args.conditions.now) c.args.atoms.now c.loop-place.place c.at.result.now (g.S.Store.reads c.args.store.now) (g.S.Store.reads c.loop-place.store) (g.S.Store.reads c.settle.new.store) c.at.ensures c.loop-place.invariant.looks c.settle.ensures.looks

pub returns-in_err-settled-clause-reads : goal.returns-in_err-settled-clause-reads
returns-in_err-settled-clause-reads g c m is =
    let on = c.args.conditions.now in
    let files = g.S.Store.files c.args.store.now in
    let before = c.loop-place.invariant in
    let still = subst (λ f. g.C.Conditions.means on f m) (sym before.kept) is in
    refused_reads (g.C.Conditions.means on files) (g.C.Conditions.is_open on files) (g.C.Conditions.rows on) c.args.atoms.now (g.S.Store.reads c.args.store.now) c.args.steps.now c.loop-place.place c.loop-place.answers.items c.loop-place.opened.items
    (g.S.Store.reads c.loop-place.store) (g.S.Store.reads c.settle.new.store) c.loop-place.steps c.at.result.now (IsOk c.settle.result) (IsOk c.from_residual.result) before.settled c.at.ensures m is
    (c.settle.ensures.reads m still) (err_not_ok c.from_residual.result c.from_residual.ensures.0)

pub returns-in_err-settled-clause-steps : goal.returns-in_err-settled-clause-steps
returns-in_err-settled-clause-steps g c m is =
    let on = c.args.conditions.now in
    let files = g.S.Store.files c.args.store.now in
    let before = c.loop-place.invariant in
    let still = subst (λ f. g.C.Conditions.means on f m) (sym before.kept) is in
    refused_steps (g.C.Conditions.means on files) (g.C.Conditions.is_open on files) (g.C.Conditions.rows on) c.args.atoms.now (g.S.Store.reads c.args.store.now) c.args.steps.now c.loop-place.place c.loop-place.answers.items c.loop-place.opened.items
    (g.S.Store.reads c.loop-place.store) c.loop-place.steps c.settle.new.steps c.at.result.now before.settled c.at.ensures m is (c.settle.ensures.steps m still)

pub returns-in_err-keep-clause-looks : goal.returns-in_err-keep-clause-looks
returns-in_err-keep-clause-looks g c =
    looks_for_one (g.C.Conditions.is_look c.args.conditions.now) c.args.atoms.now c.loop-place.place c.at.result.now (g.S.Store.reads c.args.store.now) (g.S.Store.reads c.loop-place.store) (g.S.Store.reads c.settle.new.store) c.at.ensures c.loop-place.invariant.looks c.settle.ensures.looks

pub returns-in_err-keep-clause-whole : goal.returns-in_err-keep-clause-whole
returns-in_err-keep-clause-whole g c =
    let exit = err_from_is_err_and c.from_residual-in_err-keep.result c.from_residual-in_err-keep.ensures.1 in
    rw exit.1 (λ m is. inr (g.met.C.Conditions.memory c.in_err-keep.field-0.0 exit.0 exit.2))

pub returns-in_err-keep-clause-reads : goal.returns-in_err-keep-clause-reads
returns-in_err-keep-clause-reads g c m is =
    let on = c.args.conditions.now in
    let files = g.S.Store.files c.args.store.now in
    let before = c.loop-place.invariant in
    let still = subst (λ f. g.C.Conditions.means on f m) (sym before.kept) is in
    refused_reads (g.C.Conditions.means on files) (g.C.Conditions.is_open on files) (g.C.Conditions.rows on) c.args.atoms.now (g.S.Store.reads c.args.store.now) c.args.steps.now c.loop-place.place c.loop-place.answers.items c.loop-place.opened.items
    (g.S.Store.reads c.loop-place.store) (g.S.Store.reads c.settle.new.store) c.loop-place.steps c.at.result.now (IsOk c.settle.result) (IsOk c.from_residual-in_err-keep.result) before.settled c.at.ensures m is
    (c.settle.ensures.reads m still) (err_not_ok c.from_residual-in_err-keep.result c.from_residual-in_err-keep.ensures.0)

pub returns-in_err-keep-clause-steps : goal.returns-in_err-keep-clause-steps
returns-in_err-keep-clause-steps g c m is =
    let on = c.args.conditions.now in
    let files = g.S.Store.files c.args.store.now in
    let before = c.loop-place.invariant in
    let still = subst (λ f. g.C.Conditions.means on f m) (sym before.kept) is in
    refused_steps (g.C.Conditions.means on files) (g.C.Conditions.is_open on files) (g.C.Conditions.rows on) c.args.atoms.now (g.S.Store.reads c.args.store.now) c.args.steps.now c.loop-place.place c.loop-place.answers.items c.loop-place.opened.items
    (g.S.Store.reads c.loop-place.store) c.loop-place.steps c.settle.new.steps c.at.result.now before.settled c.at.ensures m is (c.settle.ensures.steps m still)

pub returns-in_err-keep-2-clause-looks : goal.returns-in_err-keep-2-clause-looks
returns-in_err-keep-2-clause-looks g c =
    looks_for_one (g.C.Conditions.is_look c.args.conditions.now) c.args.atoms.now c.loop-place.place c.at.result.now (g.S.Store.reads c.args.store.now) (g.S.Store.reads c.loop-place.store) (g.S.Store.reads c.settle.new.store) c.at.ensures c.loop-place.invariant.looks c.settle.ensures.looks

pub returns-in_err-keep-2-clause-stop : goal.returns-in_err-keep-2-clause-stop
returns-in_err-keep-2-clause-stop g c =
    let exit = err_from_is_err_and c.from_residual-in_err-keep-2.result c.from_residual-in_err-keep-2.ensures.1 in
    rw exit.1 (inl (g.met.C.Conditions.memory c.in_err-keep-2.field-0.0 exit.0 exit.2))

pub returns-in_err-keep-2-clause-whole : goal.returns-in_err-keep-2-clause-whole
returns-in_err-keep-2-clause-whole g c =
    let exit = err_from_is_err_and c.from_residual-in_err-keep-2.result c.from_residual-in_err-keep-2.ensures.1 in
    rw exit.1 (λ m is. inr (g.met.C.Conditions.memory c.in_err-keep-2.field-0.0 exit.0 exit.2))

pub returns-in_err-keep-2-clause-reads : goal.returns-in_err-keep-2-clause-reads
returns-in_err-keep-2-clause-reads g c m is =
    let on = c.args.conditions.now in
    let files = g.S.Store.files c.args.store.now in
    let before = c.loop-place.invariant in
    let still = subst (λ f. g.C.Conditions.means on f m) (sym before.kept) is in
    refused_reads (g.C.Conditions.means on files) (g.C.Conditions.is_open on files) (g.C.Conditions.rows on) c.args.atoms.now (g.S.Store.reads c.args.store.now) c.args.steps.now c.loop-place.place c.loop-place.answers.items c.loop-place.opened.items
    (g.S.Store.reads c.loop-place.store) (g.S.Store.reads c.settle.new.store) c.loop-place.steps c.at.result.now (IsOk c.settle.result) (IsOk c.from_residual-in_err-keep-2.result) before.settled c.at.ensures m is
    (c.settle.ensures.reads m still) (err_not_ok c.from_residual-in_err-keep-2.result c.from_residual-in_err-keep-2.ensures.0)

pub returns-in_err-keep-2-clause-steps : goal.returns-in_err-keep-2-clause-steps
returns-in_err-keep-2-clause-steps g c m is =
    let on = c.args.conditions.now in
    let files = g.S.Store.files c.args.store.now in
    let before = c.loop-place.invariant in
    let still = subst (λ f. g.C.Conditions.means on f m) (sym before.kept) is in
    refused_steps (g.C.Conditions.means on files) (g.C.Conditions.is_open on files) (g.C.Conditions.rows on) c.args.atoms.now (g.S.Store.reads c.args.store.now) c.args.steps.now c.loop-place.place c.loop-place.answers.items c.loop-place.opened.items
    (g.S.Store.reads c.loop-place.store) c.loop-place.steps c.settle.new.steps c.at.result.now before.settled c.at.ensures m is (c.settle.ensures.steps m still)
