use Rattle.std.proofs.Common.{◌≡◌, ◌+◌, length}
use Rattle.fb_outside.specs.Files.{SameFiles}
use Rattle.wah_words.specs.Spelling.{words_of}
use Rattle.candidates.proofs.WalkLemmas.{Walked}
use Rattle.candidates.proofs.walk.find.Given as goal

abbrev pub invariant-loop-first : goal.invariant-loop-first
invariant-loop-first g l =
    let files = g.S.Store.files l.fn.store in
    record {
      unfailed : g.S.Store.faults l.store ≡ g.S.Store.faults l.fn.store;
      kept : SameFiles files (g.S.Store.files l.store);
      room : length l.block ≡ 4096;
      rows : l.found.rows ≡ length l.candidates;
      walked : Walked (g.R.Rows.tests l.values files) (g.R.Rows.look l.values) (g.R.Rows.takes_read l.values) l.candidates files (g.S.Store.reads l.fn.store) (g.S.Store.reads l.store) l.found.bits l.runs.runs;
      steps : l.steps + l.runs.words ≡ l.fn.steps + words_of l.candidates;
    }

abbrev pub decreases-loop-first : goal.decreases-loop-first
decreases-loop-first g l = length l.runs.runs
