use Rattle.std.proofs.Common.{ℕ, ◌+◌, ◌-◌, ◌++◌, false, length, replicate, refl, sym, ap, subst, ◌∙◌, arith, length-append}
use Rattle.std.proofs.lemmas.List.{length-replicate}
use Rattle.candidates.specs.Reads.{AddsAll, reads_of}
use Rattle.candidates.specs.Blocks.{blocks_of_run}
use Rattle.candidates.proofs.WalkLemmas.{run_ahead, run_reads, walk_begins, walk_ends, walk_goes_on}
use Rattle.candidates.proofs.walk.find.Goals as goal

pub loop-first-init : goal.loop-first-init
loop-first-init g c =
    record {
      unfailed = refl;
      kept = refl;
      room = refl;
      rows = c.in_ok-found.ensures.rows ∙ c.len.ensures.length;
      walked = walk_begins _ _ _ _ _ _ _ _ c.in_ok-found.ensures.bits c.row_runs-runs.ensures.runs;
      steps = ap (λ n. c.args.steps.now + n) c.row_runs-runs.ensures.words;
    }

pub skip_to-requires-clause-order : goal.skip_to-requires-clause-order
skip_to-requires-clause-order g c =
    (run_ahead _ _ _ _ _ _ _ _ _ c.advance.new.self.runs c.in-Some.first c.in-Some.past c.loop-first.invariant.walked c.in-Some.ensures.comes).0

pub skip_to-requires-clause-within : goal.skip_to-requires-clause-within
skip_to-requires-clause-within g c =
    let ahead = run_ahead _ _ _ _ _ _ _ _ _ c.advance.new.self.runs c.in-Some.first c.in-Some.past c.loop-first.invariant.walked c.in-Some.ensures.comes in
    omega (arith, ahead.1, ahead.2, c.loop-first.invariant.rows)

pub test_run-requires-clause-some : goal.test_run-requires-clause-some
test_run-requires-clause-some g c =
    (run_ahead _ _ _ _ _ _ _ _ _ c.advance.new.self.runs c.in-Some.first c.in-Some.past c.loop-first.invariant.walked c.in-Some.ensures.comes).1

pub test_run-requires-clause-within : goal.test_run-requires-clause-within
test_run-requires-clause-within g c =
    let ahead = run_ahead _ _ _ _ _ _ _ _ _ c.advance.new.self.runs c.in-Some.first c.in-Some.past c.loop-first.invariant.walked c.in-Some.ensures.comes in
    omega (arith, ahead.2, c.requires)

pub test_run-requires-clause-place : goal.test_run-requires-clause-place
test_run-requires-clause-place g c =
    let bits = c.loop-first.found.bits in
    let first = c.in-Some.first in
    let ahead = run_ahead _ _ _ _ _ _ _ _ _ c.advance.new.self.runs first c.in-Some.past c.loop-first.invariant.walked c.in-Some.ensures.comes in
    ap length c.skip_to.ensures.bits ∙ length-append bits (replicate (first - length bits) false)
    ∙ ap (λ n. length bits + n) (length-replicate (first - length bits) false) ∙ omega (arith, ahead.0)

pub test_run-requires-clause-room : goal.test_run-requires-clause-room
test_run-requires-clause-room g c =
    let ahead = run_ahead _ _ _ _ _ _ _ _ _ c.advance.new.self.runs c.in-Some.first c.in-Some.past c.loop-first.invariant.walked c.in-Some.ensures.comes in
    omega (arith, ahead.2, c.loop-first.invariant.rows, c.skip_to.ensures.rows)

pub loop-first-preserved : goal.loop-first-preserved
loop-first-preserved g c =
    let inv = c.loop-first.invariant in
    let files = g.S.Store.files c.args.store.now in
    let values = c.args.values.now in
    let look = g.R.Rows.look values in
    let takes = g.R.Rows.takes_read values in
    let run : ℕ × ℕ = (c.in-Some.first, c.in-Some.past) in
    record {
      unfailed = (rw c.in_ok-test_run.was at c.test_run.ensures.cause).told (λ e. e) ∙ inv.unfailed;
      kept = c.test_run.ensures.files ∙ inv.kept;
      room = c.test_run.ensures.block ∙ inv.room;
      rows = c.test_run.ensures.rows ∙ c.skip_to.ensures.rows ∙ inv.rows;
      walked = walk_goes_on (g.R.Rows.tests values files) look takes c.args.candidates.now files (g.S.Store.reads c.args.store.now) (g.S.Store.reads c.loop-first.store) (g.S.Store.reads c.test_run.new.store)
          c.loop-first.found.bits c.skip_to.new.self.bits c.test_run.new.found.bits c.loop-first.runs.runs c.advance.new.self.runs c.in-Some.first c.in-Some.past
          inv.walked c.in-Some.ensures.comes c.skip_to.ensures.bits c.in_ok-test_run.ensures.seen
          (λ all has. c.in_ok-test_run.ensures.found all (subst (λ files. g.R.Rows.tests values files all) (sym inv.kept) has))
          c.test_run.ensures.reads
          (subst (λ files. AddsAll files (g.S.Store.reads c.loop-first.store) (g.S.Store.reads c.test_run.new.store) (reads_of look takes (blocks_of_run run))) inv.kept c.in_ok-test_run.ensures.each);
      steps = c.advance.ensures.steps ∙ inv.steps;
    }

pub returns-in_err-test_run-clause-reads : goal.returns-in_err-test_run-clause-reads
returns-in_err-test_run-clause-reads g c =
    run_reads _ _ _ _ _ _ (g.S.Store.reads c.loop-first.store) _ _ _ c.advance.new.self.runs c.in-Some.first c.in-Some.past c.loop-first.invariant.walked c.in-Some.ensures.comes c.test_run.ensures.reads

pub returns-clause-length : goal.returns-clause-length
returns-clause-length g c =
    (walk_ends _ _ _ _ _ _ _ _ c.finish.result _ c.loop-first.invariant.walked c.in_default.ensures.comes.0
    (c.finish.ensures ∙ ap (λ n. c.loop-first.found.bits ++ replicate (n - length c.loop-first.found.bits) false) c.loop-first.invariant.rows)).long

pub returns-clause-found : goal.returns-clause-found
returns-clause-found g c =
    (walk_ends _ _ _ _ _ _ _ _ c.finish.result _ c.loop-first.invariant.walked c.in_default.ensures.comes.0
    (c.finish.ensures ∙ ap (λ n. c.loop-first.found.bits ++ replicate (n - length c.loop-first.found.bits) false) c.loop-first.invariant.rows)).found

pub returns-clause-each : goal.returns-clause-each
returns-clause-each g c =
    (walk_ends _ _ _ _ _ _ _ _ c.finish.result _ c.loop-first.invariant.walked c.in_default.ensures.comes.0
    (c.finish.ensures ∙ ap (λ n. c.loop-first.found.bits ++ replicate (n - length c.loop-first.found.bits) false) c.loop-first.invariant.rows)).each
