use Rattle.std.proofs.Common.{◌≡◌, ◌+◌, [], ◌∷◌, ◌++◌, IsOk, Some, length, refl, sym, ap, subst, ◌∙◌, arith, inl, inr}
use Rattle.std.specs.Prelude.{◌⊎◌, slice_get}
use Rattle.std.proofs.lemmas.Option.{slice_get-get_or}
use Rattle.std.proofs.lemmas.Result.{err_from_is_err_and}
use Rattle.fb_outside.proofs.ReadLemmas.{AddsOnly-same}
use Rattle.wah_iter.specs.Rows.{rows_of}
use Rattle.wah_logic.specs.Logic.{ones}
use Rattle.stages.specs.Answer.{is_allowed_on}
use Rattle.stages.specs.Meaning.{Meaning}
use Rattle.stages.specs.Second.{candidates_in}
use Rattle.stages.proofs.ListLemmas.{all_at, err_not_ok}
use Rattle.stages.proofs.LookLemmas.{adds_done, looks_for_one, no_cause}
use Rattle.stages.proofs.SecondLemmas.{few_checks, kept_decided, none_decided, one_decided, ones_few, refused_reads, settled_here, stopped}
use Rattle.stages.proofs.second.decide_all.Goals as goal

pub loop-place-init : goal.loop-place-init
loop-place-init g c =
    let on = c.args.conditions.now in
    record {
      unfailed = refl;
      kept = refl;
      looks = AddsOnly-same _ _ _ refl;
      decided = none_decided (g.C.Conditions.means on (g.S.Store.files c.args.store.now)) (g.C.Conditions.rows on) c.args.unknown.now c.args.atoms.now (g.S.Store.reads c.args.store.now) c.args.steps.now c.new-answers.result.items c.new-answers.ensures.items;
    }

pub decide-requires-clause-fits : goal.decide-requires-clause-fits
decide-requires-clause-fits g c = all_at (g.C.Conditions.fits c.args.conditions.now) c.args.atoms.now c.loop-place.place c.at.result.now c.requires.fits c.at.ensures

pub decide-requires-clause-opened : goal.decide-requires-clause-opened
decide-requires-clause-opened g c =
    let columns = c.args.stage.now.opened.items in
    let place = c.loop-place.place in
    let column = c.index.result.now in
    let there : slice_get columns place ≡ Some column = slice_get-get_or columns place column (omega (arith, c.loop-place-test.true, c.len-place-end.ensures, c.requires.number_opened)) ∙ ap Some (sym c.index.ensures) in
    subst (λ f. g.C.Conditions.is_open c.args.conditions.now f c.at.result.now column) (sym c.loop-place.invariant.kept) (c.requires.opened place c.at.result.now column c.at.ensures there)

pub decide-requires-clause-settled : goal.decide-requires-clause-settled
decide-requires-clause-settled g c m is =
    settled_here c.args.stage.now.answers.items m c.args.atoms.now c.loop-place.place c.at.result.now c.index-in-loop-place.result.now
    (c.requires.settled m (subst (λ f. g.C.Conditions.means c.args.conditions.now f m) c.loop-place.invariant.kept is)) c.at.ensures c.index-in-loop-place.ensures

pub returns-in_err-made-clause-stop : goal.returns-in_err-made-clause-stop
returns-in_err-made-clause-stop g c =
    let exit = err_from_is_err_and c.from_residual.result c.from_residual.ensures.1 in
    let on = c.args.conditions.now in
    let fault = c.in_err-made.field-0.0 in
    rw (exit.1, exit.2) (stopped (g.C.Conditions.is_memory fault) (λ atom. g.C.Conditions.stops on (g.S.Store.files c.args.store.now) atom fault) c.args.atoms.now c.loop-place.place c.at.result.now c.at.ensures
    (subst (λ f. g.C.Conditions.is_memory fault ⊎ g.C.Conditions.stops on f c.at.result.now fault) c.loop-place.invariant.kept c.in_err-made.ensures.stop))

pub returns-in_err-made-clause-whole : goal.returns-in_err-made-clause-whole
returns-in_err-made-clause-whole g c =
    let exit = err_from_is_err_and c.from_residual.result c.from_residual.ensures.1 in
    rw (exit.1, exit.2) (λ m is. c.in_err-made.ensures.whole m (subst (λ f. g.C.Conditions.means c.args.conditions.now f m) (sym c.loop-place.invariant.kept) is))

pub returns-in_err-made-clause-looks : goal.returns-in_err-made-clause-looks
returns-in_err-made-clause-looks g c =
    looks_for_one (g.C.Conditions.is_look c.args.conditions.now) c.args.atoms.now c.loop-place.place c.at.result.now (g.S.Store.reads c.args.store.now) (g.S.Store.reads c.loop-place.store) (g.S.Store.reads c.decide.new.store) c.at.ensures c.loop-place.invariant.looks c.decide.ensures.looks

pub returns-in_err-made-clause-reads : goal.returns-in_err-made-clause-reads
returns-in_err-made-clause-reads g c m is =
    let on = c.args.conditions.now in
    let atoms = c.args.atoms.now in
    let files = g.S.Store.files c.args.store.now in
    let means = g.C.Conditions.means on files in
    let rows = g.C.Conditions.rows on in
    let before = c.loop-place.invariant in
    let place = c.loop-place.place in
    let atom = c.at.result.now in
    let settled = c.index-in-loop-place.result.now in
    let still = subst (λ f. g.C.Conditions.means on f m) (sym before.kept) is in
    let same = settled_here c.args.stage.now.answers.items m atoms place atom settled (c.requires.settled m is) c.at.ensures c.index-in-loop-place.ensures in
    refused_reads means rows c.args.unknown.now atoms (g.S.Store.reads c.args.store.now) c.args.steps.now place c.loop-place.answers.items c.loop-place.checked
    (g.S.Store.reads c.loop-place.store) (g.S.Store.reads c.decide.new.store) c.loop-place.steps atom settled (IsOk c.from_residual.result) before.decided c.at.ensures m is same
    (adds_done (g.S.Store.reads c.loop-place.store) (g.S.Store.reads c.decide.new.store) (is_allowed_on m atom (rows_of (candidates_in settled c.args.unknown.now))) m.is_bitmap [] (IsOk c.decide.result) (IsOk c.from_residual.result) (λ ok. absurd (err_not_ok c.from_residual.result c.from_residual.ensures.0 ok)) (c.decide.ensures.reads m still))

pub returns-in_err-keep-clause-cause : goal.returns-in_err-keep-clause-cause
returns-in_err-keep-clause-cause g c =
    let exit = err_from_is_err_and c.from_residual-in_err-keep.result c.from_residual-in_err-keep.ensures.1 in
    let memory = g.met.C.Conditions.memory c.in_err-keep.field-0.0 exit.0 exit.2 in
    no_cause c.from_residual-in_err-keep.result g.C.Conditions.is_store exit.0 (g.S.Store.faults c.args.store.now) (g.S.Store.faults c.decide.new.store) exit.1 (g.met.C.Conditions.no_failure exit.0 memory)
    ((rw c.in_ok-made.was at c.decide.ensures.cause).told (λ e. e) ∙ c.loop-place.invariant.unfailed)

pub returns-in_err-keep-clause-stop : goal.returns-in_err-keep-clause-stop
returns-in_err-keep-clause-stop g c =
    let exit = err_from_is_err_and c.from_residual-in_err-keep.result c.from_residual-in_err-keep.ensures.1 in
    rw exit.1 (inl (g.met.C.Conditions.memory c.in_err-keep.field-0.0 exit.0 exit.2))

pub returns-in_err-keep-clause-whole : goal.returns-in_err-keep-clause-whole
returns-in_err-keep-clause-whole g c =
    let exit = err_from_is_err_and c.from_residual-in_err-keep.result c.from_residual-in_err-keep.ensures.1 in
    rw exit.1 (λ m is. inr (g.met.C.Conditions.memory c.in_err-keep.field-0.0 exit.0 exit.2))

pub returns-in_err-keep-clause-looks : goal.returns-in_err-keep-clause-looks
returns-in_err-keep-clause-looks g c =
    looks_for_one (g.C.Conditions.is_look c.args.conditions.now) c.args.atoms.now c.loop-place.place c.at.result.now (g.S.Store.reads c.args.store.now) (g.S.Store.reads c.loop-place.store) (g.S.Store.reads c.decide.new.store) c.at.ensures c.loop-place.invariant.looks c.decide.ensures.looks

pub returns-in_err-keep-clause-reads : goal.returns-in_err-keep-clause-reads
returns-in_err-keep-clause-reads g c m is =
    let on = c.args.conditions.now in
    let atoms = c.args.atoms.now in
    let files = g.S.Store.files c.args.store.now in
    let means = g.C.Conditions.means on files in
    let rows = g.C.Conditions.rows on in
    let before = c.loop-place.invariant in
    let place = c.loop-place.place in
    let atom = c.at.result.now in
    let settled = c.index-in-loop-place.result.now in
    let still = subst (λ f. g.C.Conditions.means on f m) (sym before.kept) is in
    let same = settled_here c.args.stage.now.answers.items m atoms place atom settled (c.requires.settled m is) c.at.ensures c.index-in-loop-place.ensures in
    refused_reads means rows c.args.unknown.now atoms (g.S.Store.reads c.args.store.now) c.args.steps.now place c.loop-place.answers.items c.loop-place.checked
    (g.S.Store.reads c.loop-place.store) (g.S.Store.reads c.decide.new.store) c.loop-place.steps atom settled (IsOk c.from_residual-in_err-keep.result) before.decided c.at.ensures m is same
    (adds_done (g.S.Store.reads c.loop-place.store) (g.S.Store.reads c.decide.new.store) (is_allowed_on m atom (rows_of (candidates_in settled c.args.unknown.now))) m.is_bitmap [] (IsOk c.decide.result) (IsOk c.from_residual-in_err-keep.result) (λ ok. absurd (err_not_ok c.from_residual-in_err-keep.result c.from_residual-in_err-keep.ensures.0 ok)) (c.decide.ensures.reads m still))

pub overflow_add-checked : goal.overflow_add-checked
overflow_add-checked g c =
    let rows = g.C.Conditions.rows c.args.conditions.now in
    let settled = c.index-in-loop-place.result.now in
    let long : length settled ≡ rows = ap length c.index-in-loop-place.ensures ∙ c.requires.length c.loop-place.place settled (omega (arith, c.loop-place-test.true, c.len-place-end.ensures, c.requires.number)) in
    let some = ones_few settled c.args.unknown.now rows long c.requires.long in
    let few = few_checks c.loop-place.place (length c.args.atoms.now) c.loop-place.checked c.in_ok-made.made.checked (ones (candidates_in settled c.args.unknown.now)) rows
    c.loop-place.invariant.decided.few c.in_ok-made.ensures.checked some c.requires.limit c.requires.few (omega (arith, c.loop-place-test.true, c.len-place-end.ensures)) in
    omega (arith, few)

pub loop-place-preserved : goal.loop-place-preserved
loop-place-preserved g c =
    let on = c.args.conditions.now in
    let atoms = c.args.atoms.now in
    let files = g.S.Store.files c.args.store.now in
    let means = g.C.Conditions.means on files in
    let rows = g.C.Conditions.rows on in
    let before = c.loop-place.invariant in
    let place = c.loop-place.place in
    let atom = c.at.result.now in
    let settled = c.index-in-loop-place.result.now in
    let unknown = c.args.unknown.now in
    let old = g.S.Store.reads c.args.store.now in
    let made = c.in_ok-made.made in
    let said = c.in_ok-made.ensures in
    let mid = g.S.Store.reads c.loop-place.store in
    let new = g.S.Store.reads c.decide.new.store in
    let now = c.decide.new.steps in
    let still = λ (m : Meaning) (is : means m). subst (λ f. g.C.Conditions.means on f m) (sym before.kept) is in
    let ok : IsOk c.decide.result = rw c.in_ok-made.was refl in
    let long : length settled ≡ rows = ap length c.index-in-loop-place.ensures ∙ c.requires.length place settled (omega (arith, c.loop-place-test.true, c.len-place-end.ensures, c.requires.number)) in
    let more = one_decided means rows unknown atoms old c.args.steps.now place c.loop-place.answers.items c.loop-place.checked mid new c.loop-place.steps now atom settled made.answers made.checked
    before.decided c.at.ensures said.length c.requires.limit long c.requires.long said.checked c.decide.ensures.steps
    (λ m is. settled_here c.args.stage.now.answers.items m atoms place atom settled (c.requires.settled m is) c.at.ensures c.index-in-loop-place.ensures)
    (λ m is. said.answers m (still m is))
    (λ m is. adds_done mid new (is_allowed_on m atom (rows_of (candidates_in settled unknown))) m.is_bitmap [] (IsOk c.decide.result) (Unit {0}) (λ u. ok) (c.decide.ensures.reads m (still m is))) in
    record {
      unfailed = (rw c.in_ok-made.was at c.decide.ensures.cause).told (λ e. e) ∙ before.unfailed;
      kept = c.decide.ensures.files ∙ before.kept;
      looks = looks_for_one (g.C.Conditions.is_look on) atoms place atom old mid new c.at.ensures before.looks c.decide.ensures.looks;
      decided = kept_decided means rows unknown atoms old c.args.steps.now (place + 1) c.keep.new.list.items (c.loop-place.answers.items ++ made.answers ∷ []) (c.loop-place.checked + made.checked) new now c.in_ok-keep.ensures more;
    }
