use Rattle.std.proofs.Common.{◌≡◌, ◌+◌, ◌-◌, ◌≤◌, length}
use Rattle.statuses.specs.declared.Status.{Status}
use Rattle.fastbit_tool.specs.Session.{LinesRun, Outside, lines_from, lines_of, outside}
use Rattle.fastbit_tool.proofs.sessions.run_lines.Given as goal

-- what the lines from this one on make of what stands now is what all lines make of what stood at first
abbrev pub invariant-loop-at : goal.invariant-loop-at
invariant-loop-at g l = record {
  within : l.at ≤ length l.text + 1;
  left : g.I.Source.left l.input ≡ g.I.Source.left l.fn.input;
  unread : g.I.Source.faults l.input ≡ g.I.Source.faults l.fn.input;
  stored : g.S.Store.faults l.store ≡ g.S.Store.faults l.fn.store;
  printed : g.K.Sink.faults l.out ≡ g.K.Sink.faults l.fn.out;
  rest : (new : Outside) (status : Status)
      → LinesRun (lines_from l.text l.at) (g.I.Source.left l.fn.input)
      (outside (g.S.Store.files l.store) (g.S.Store.reads l.store) (g.K.Sink.written l.out) l.steps) new status
      → LinesRun (lines_of l.text) (g.I.Source.left l.fn.input)
      (outside (g.S.Store.files l.fn.store) (g.S.Store.reads l.fn.store) (g.K.Sink.written l.fn.out) l.fn.steps) new status;
}

abbrev pub decreases-loop-at : goal.decreases-loop-at
decreases-loop-at g l = length l.text + 1 - l.at
