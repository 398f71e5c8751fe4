use Rattle.std.proofs.Common.{◌≡◌, ◌-◌, ◌%◌, ◌<◌, ◌≤◌, ◌++◌, Bool, List, length, take, drop}
use Rattle.fb_outside.specs.Files.{SameFiles}
use Rattle.fb_outside.specs.Reads.{AddsOnly}
use Rattle.candidates.specs.Blocks.{blocks_of_run}
use Rattle.candidates.specs.Reads.{AddsAll, IsPartLook, reads_of}
use Rattle.candidates.proofs.walk.test_run.Given as goal

abbrev pub invariant-loop-at : goal.invariant-loop-at
invariant-loop-at g l =
    let files = g.S.Store.files l.fn.store in
    let look = g.R.Rows.look l.values in
    record {
      unfailed : g.S.Store.faults l.store ≡ g.S.Store.faults l.fn.store;
      kept : SameFiles files (g.S.Store.files l.store);
      room : length l.block ≡ 4096;
      rows : l.found.rows ≡ l.fn.found.rows;
      begins : l.first ≤ l.at;
      ends : l.at ≤ l.past;
      place : length l.found.bits ≡ l.at;
      found : (all : List Bool) → g.R.Rows.tests l.values files all → l.found.bits ≡ l.fn.found.bits ++ take (l.at - l.first) (drop l.first all);
      reads : AddsOnly (IsPartLook look l.first l.past) (g.S.Store.reads l.fn.store) (g.S.Store.reads l.store);
      whole : l.at < l.past → (l.at - l.first) % 4096 ≡ 0;
      each : AddsAll files (g.S.Store.reads l.fn.store) (g.S.Store.reads l.store) (reads_of look (g.R.Rows.takes_read l.values) (blocks_of_run (l.first, l.at)));
    }

abbrev pub decreases-loop-at : goal.decreases-loop-at
decreases-loop-at g l = l.past - l.at
