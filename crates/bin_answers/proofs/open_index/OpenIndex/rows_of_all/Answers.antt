use Rattle.std.proofs.Common.{◌+◌, ◌<◌, ℕ, List, [], ◌∷◌, ◌++◌, append-nil, length, take, drop, get_or, refl, ap, sym, subst, ◌∙◌, arith}
use Rattle.std.proofs.lemmas.List.{length-append, take_all}
use Rattle.std.proofs.lemmas.Result.{err_from_is_err_and}
use Rattle.fb_outside.proofs.ReadLemmas.{AddsOnly-same, AddsOnly-trans}
use Rattle.wah_logic.specs.Logic.{groups_and_rest}
use Rattle.binning.specs.declared.against_bins.Three.TheVariants.{Unknown, Yes}
use Rattle.bin_answers.specs.BinRuns.{is_same, run}
use Rattle.bin_answers.specs.Bins.{rows_of_runs}
use Rattle.bin_answers.specs.Fetched.{AreFaultless, needed_by}
use Rattle.bin_answers.specs.declared.bin_runs.BinRun.{BinRun}
use Rattle.bin_answers.proofs.FetchLemmas.{cause_from, fetches_less, fetches_more, fetches_none, sound_more, sound_none, still_bins, stop_memory, stop_more}
use Rattle.bin_answers.proofs.IndexLemmas.{count_more, long_more, more_steps, needed_cut, needed_more, runs_more, steps_cut, within_steps}
use Rattle.bin_answers.proofs.open_index.OpenIndex.rows_of_all.Goals as goal

pub loop-run-init : goal.loop-run-init
loop-run-init g c = record {
  unfailed = refl;
  kept = refl;
  sound = sound_none _ c.args.self.now.head;
  reads = fetches_none _ _ _ c.args.self.now.head refl;
  looks = AddsOnly-same _ _ _ refl;
  definite_long = rw c.new.ensures.items (λ k d l. absurd (omega arith));
  unknown_long = rw c.new-2.ensures.items (λ k d l. absurd (omega arith));
  count = let none = ap length c.new.ensures.items in let also = ap length c.new-2.ensures.items in omega (arith, none, also);
  steps = omega arith;
  definite = λ bins h. c.new.ensures.items;
  unknown = λ bins h. c.new-2.ensures.items;
}

pub loop-run-preserved : goal.loop-run-preserved
loop-run-preserved g c =
    let i = c.loop-run.run-index in
    let runs = c.args.runs.now in
    let head = c.args.self.now.head in
    let rows = length c.args.self.now.mask in
    let none : BinRun = run Yes 0 0 in
    let r = get_or runs i none in
    let l : i < length runs = omega (arith, c.loop-run-test.true) in
    let more = needed_more head runs i none l in
    record {
      unfailed = (rw c.in_ok-rows.was at c.rows_of.ensures.cause).told (λ e. absurd cc) ∙ c.loop-run.invariant.unfailed;
      kept = c.rows_of.ensures.files ∙ c.loop-run.invariant.kept;
      sound = sound_more _ _ head (needed_by head (take i runs)) (needed_by head (r ∷ [])) (needed_by head (take (i + 1) runs)) c.loop-run.invariant.kept more c.loop-run.invariant.sound c.in_ok-rows.ensures.exact;
      reads = fetches_more _ _ _ _ _ _ _ head (needed_by head (take i runs)) (needed_by head (r ∷ [])) [] (needed_by head (take (i + 1) runs)) c.loop-run.invariant.kept
          (more ∙ ap (λ (ns : List ℕ). needed_by head (take i runs) ++ ns) (sym (append-nil (needed_by head (r ∷ []))))) (λ u. refl) (λ u. refl) c.loop-run.invariant.reads c.in_ok-rows.ensures.reads;
      looks = AddsOnly-trans _ _ _ _ c.loop-run.invariant.looks c.rows_of.ensures.looks;
      definite_long = long_more rows (is_same Yes r.answer) c.loop-run.found.definite.items _ c.in_ok-rows.rows c.in_ok-add.ensures.definite c.loop-run.invariant.definite_long c.in_ok-rows.ensures.length;
      unknown_long = long_more rows (is_same Unknown r.answer) c.loop-run.found.unknown.items _ c.in_ok-rows.rows c.in_ok-add.ensures.unknown c.loop-run.invariant.unknown_long c.in_ok-rows.ensures.length;
      count = count_more r.answer c.in_ok-rows.rows c.loop-run.found.definite.items c.loop-run.found.unknown.items _ _ i c.in_ok-add.ensures.definite c.in_ok-add.ensures.unknown c.loop-run.invariant.count;
      steps = more_steps (groups_and_rest rows) (length (needed_by head (take i runs))) (length (needed_by head (r ∷ []))) (length (needed_by head (take (i + 1) runs))) i _ _ _
          (ap length more ∙ length-append (needed_by head (take i runs)) (needed_by head (r ∷ []))) c.loop-run.invariant.steps c.rows_of.ensures.steps;
      definite = λ bins h.
          runs_more rows bins Yes runs i none c.loop-run.found.definite.items _ c.in_ok-rows.rows l c.in_ok-add.ensures.definite (c.loop-run.invariant.definite bins h)
          (c.in_ok-rows.ensures.rows bins (still_bins _ _ head c.args.self.now.mask bins c.loop-run.invariant.kept h));
      unknown = λ bins h.
          runs_more rows bins Unknown runs i none c.loop-run.found.unknown.items _ c.in_ok-rows.rows l c.in_ok-add.ensures.unknown (c.loop-run.invariant.unknown bins h)
          (c.in_ok-rows.ensures.rows bins (still_bins _ _ head c.args.self.now.mask bins c.loop-run.invariant.kept h));
    }

pub returns-clause-exact : goal.returns-clause-exact
returns-clause-exact g c =
    subst (λ (rs : List BinRun). AreFaultless (g.S.Store.files c.args.store.now) c.args.self.now.head (needed_by c.args.self.now.head rs))
    (take_all c.loop-run.run-index c.args.runs.now (omega (arith, c.loop-run-test.false))) c.loop-run.invariant.sound

pub returns-clause-reads : goal.returns-clause-reads
returns-clause-reads g c =
    let head = c.args.self.now.head in
    fetches_less _ _ _ _ _ head (needed_by head (take c.loop-run.run-index c.args.runs.now)) (needed_by head c.args.runs.now)
    (ap (needed_by head) (sym (take_all c.loop-run.run-index c.args.runs.now (omega (arith, c.loop-run-test.false))))) (λ d. tt) c.loop-run.invariant.reads

pub returns-clause-steps : goal.returns-clause-steps
returns-clause-steps g c =
    let head = c.args.self.now.head in
    let i = c.loop-run.run-index in
    let all = take_all i c.args.runs.now (omega (arith, c.loop-run-test.false)) in
    within_steps (groups_and_rest (length c.args.self.now.mask)) (length (needed_by head (take i c.args.runs.now))) (length (needed_by head c.args.runs.now)) i (length c.args.runs.now) _ _
    (let same = ap (λ (rs : List BinRun). length (needed_by head rs)) all in omega (arith, same)) (omega arith) c.loop-run.invariant.steps

pub returns-clause-definite : goal.returns-clause-definite
returns-clause-definite g c = λ bins h.
    c.loop-run.invariant.definite bins h
    ∙ ap (rows_of_runs (length c.args.self.now.mask) bins Yes) (take_all c.loop-run.run-index c.args.runs.now (omega (arith, c.loop-run-test.false)))

pub returns-clause-unknown : goal.returns-clause-unknown
returns-clause-unknown g c = λ bins h.
    c.loop-run.invariant.unknown bins h
    ∙ ap (rows_of_runs (length c.args.self.now.mask) bins Unknown) (take_all c.loop-run.run-index c.args.runs.now (omega (arith, c.loop-run-test.false)))

pub returns-in_err-rows-clause-cause : goal.returns-in_err-rows-clause-cause
returns-in_err-rows-clause-cause g c =
    let p = err_from_is_err_and c.from_residual.result c.from_residual.ensures.1 in
    rw (p.1, p.2) (cause_from _ _ _ _ _ _ _ c.loop-run.invariant.unfailed c.in_err-rows.ensures.cause)

pub returns-in_err-rows-clause-exact : goal.returns-in_err-rows-clause-exact
returns-in_err-rows-clause-exact g c =
    let p = err_from_is_err_and c.from_residual.result c.from_residual.ensures.1 in
    let i = c.loop-run.run-index in
    let runs = c.args.runs.now in
    let head = c.args.self.now.head in
    let none : BinRun = run Yes 0 0 in
    let l : i < length runs = omega (arith, c.loop-run-test.true) in
    rw (p.1, p.2)
    (stop_more _ _ head (needed_by head (take i runs)) (needed_by head (get_or runs i none ∷ [])) (needed_by head (drop (i + 1) runs)) (needed_by head runs) _ c.loop-run.invariant.kept
    (needed_cut head runs i none l) c.loop-run.invariant.sound c.in_err-rows.ensures.exact)

pub returns-in_err-rows-clause-looks : goal.returns-in_err-rows-clause-looks
returns-in_err-rows-clause-looks g c = AddsOnly-trans _ _ _ _ c.loop-run.invariant.looks c.rows_of.ensures.looks

pub returns-in_err-rows-clause-reads : goal.returns-in_err-rows-clause-reads
returns-in_err-rows-clause-reads g c =
    let p = err_from_is_err_and c.from_residual.result c.from_residual.ensures.1 in
    let i = c.loop-run.run-index in
    let runs = c.args.runs.now in
    let head = c.args.self.now.head in
    let none : BinRun = run Yes 0 0 in
    let l : i < length runs = omega (arith, c.loop-run-test.true) in
    rw p.1
    (fetches_more _ _ _ _ _ _ _ head (needed_by head (take i runs)) (needed_by head (get_or runs i none ∷ [])) (needed_by head (drop (i + 1) runs)) (needed_by head runs) c.loop-run.invariant.kept
    (needed_cut head runs i none l) (λ e. absurd cc) (λ e. absurd cc) c.loop-run.invariant.reads c.in_err-rows.ensures.reads)

pub returns-in_err-rows-clause-steps : goal.returns-in_err-rows-clause-steps
returns-in_err-rows-clause-steps g c =
    let i = c.loop-run.run-index in
    let runs = c.args.runs.now in
    let head = c.args.self.now.head in
    let none : BinRun = run Yes 0 0 in
    let l : i < length runs = omega (arith, c.loop-run-test.true) in
    steps_cut head runs i none (groups_and_rest (length c.args.self.now.mask)) _ _ _ l c.loop-run.invariant.steps c.rows_of.ensures.steps

pub returns-in_err-add-clause-exact : goal.returns-in_err-add-clause-exact
returns-in_err-add-clause-exact g c =
    let p = err_from_is_err_and c.from_residual-in_err-add.result c.from_residual-in_err-add.ensures.1 in
    rw p.1 (stop_memory _ c.args.self.now.head (needed_by c.args.self.now.head c.args.runs.now) p.0 p.2)

pub returns-in_err-add-clause-looks : goal.returns-in_err-add-clause-looks
returns-in_err-add-clause-looks g c = AddsOnly-trans _ _ _ _ c.loop-run.invariant.looks c.rows_of.ensures.looks

pub returns-in_err-add-clause-reads : goal.returns-in_err-add-clause-reads
returns-in_err-add-clause-reads g c =
    let p = err_from_is_err_and c.from_residual-in_err-add.result c.from_residual-in_err-add.ensures.1 in
    let i = c.loop-run.run-index in
    let runs = c.args.runs.now in
    let head = c.args.self.now.head in
    let none : BinRun = run Yes 0 0 in
    let l : i < length runs = omega (arith, c.loop-run-test.true) in
    rw p.1
    (fetches_more _ _ _ _ _ _ _ head (needed_by head (take i runs)) (needed_by head (get_or runs i none ∷ [])) (needed_by head (drop (i + 1) runs)) (needed_by head runs) c.loop-run.invariant.kept
    (needed_cut head runs i none l) (λ e. absurd cc) (λ e. absurd cc) c.loop-run.invariant.reads c.in_ok-rows.ensures.reads)

pub returns-in_err-add-clause-steps : goal.returns-in_err-add-clause-steps
returns-in_err-add-clause-steps g c =
    let i = c.loop-run.run-index in
    let runs = c.args.runs.now in
    let head = c.args.self.now.head in
    let none : BinRun = run Yes 0 0 in
    let l : i < length runs = omega (arith, c.loop-run-test.true) in
    steps_cut head runs i none (groups_and_rest (length c.args.self.now.mask)) _ _ _ l c.loop-run.invariant.steps c.rows_of.ensures.steps
