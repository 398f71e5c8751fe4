use Rattle.std.proofs.Common.{rules, sym, ◌∙◌, arith}
use Rattle.fastbit_tool.proofs.RunLinesLemmas.{run_next}
use Rattle.fastbit_tool.proofs.sessions.run_lines.Goals as goal

pub loop-at-preserved-else-is_fault : goal.loop-at-preserved-else-is_fault
loop-at-preserved-else-is_fault g c =
    record {
      within = search rules;
      left = search rules;
      unread = search rules;
      stored = search rules;
      printed = search rules;
      rest = λ new status k.
          c.loop-at.invariant.rest new status
          (run_next c.args.text.now c.loop-at.at _ _ new status c.line_at-line.result.now _ _ _ c.run_line-status.result
          c.line_at-line.ensures.first (omega arith) c.loop-at.invariant.left c.run_line-status.ensures.runs (sym c.is_fault.ensures ∙ c.if-is_fault.false) k);
    }

pub loop-at-preserved-else-is_fault-2 : goal.loop-at-preserved-else-is_fault-2
loop-at-preserved-else-is_fault-2 g c =
    record {
      within = search rules;
      left = search rules;
      unread = search rules;
      stored = search rules;
      printed = search rules;
      rest = λ new status k.
          c.loop-at.invariant.rest new status
          (run_next c.args.text.now c.loop-at.at _ _ new status c.line_at-line.result.now _ _ _ c.run_line-status.result
          c.line_at-line.ensures.first (omega arith) c.loop-at.invariant.left c.run_line-status.ensures.runs (sym c.is_fault.ensures ∙ c.if-is_fault.false) k);
    }

pub loop-at-preserved-else-is_fault-3 : goal.loop-at-preserved-else-is_fault-3
loop-at-preserved-else-is_fault-3 g c =
    record {
      within = search rules;
      left = search rules;
      unread = search rules;
      stored = search rules;
      printed = search rules;
      rest = λ new status k.
          c.loop-at.invariant.rest new status
          (run_next c.args.text.now c.loop-at.at _ _ new status c.line_at-line.result.now _ _ _ c.run_line-status.result
          c.line_at-line.ensures.first (omega arith) c.loop-at.invariant.left c.run_line-status.ensures.runs (sym c.is_fault.ensures ∙ c.if-is_fault.false) k);
    }

pub loop-at-preserved-else-is_fault-4 : goal.loop-at-preserved-else-is_fault-4
loop-at-preserved-else-is_fault-4 g c =
    record {
      within = search rules;
      left = search rules;
      unread = search rules;
      stored = search rules;
      printed = search rules;
      rest = λ new status k.
          c.loop-at.invariant.rest new status
          (run_next c.args.text.now c.loop-at.at _ _ new status c.line_at-line.result.now _ _ _ c.run_line-status.result
          c.line_at-line.ensures.first (omega arith) c.loop-at.invariant.left c.run_line-status.ensures.runs (sym c.is_fault.ensures ∙ c.if-is_fault.false) k);
    }

pub loop-at-preserved-else-is_fault-5 : goal.loop-at-preserved-else-is_fault-5
loop-at-preserved-else-is_fault-5 g c =
    record {
      within = search rules;
      left = search rules;
      unread = search rules;
      stored = search rules;
      printed = search rules;
      rest = λ new status k.
          c.loop-at.invariant.rest new status
          (run_next c.args.text.now c.loop-at.at _ _ new status c.line_at-line.result.now _ _ _ c.run_line-status.result
          c.line_at-line.ensures.first (omega arith) c.loop-at.invariant.left c.run_line-status.ensures.runs (sym c.is_fault.ensures ∙ c.if-is_fault.false) k);
    }

pub loop-at-preserved : goal.loop-at-preserved
loop-at-preserved g c =
    record {
      within = search rules;
      left = search rules;
      unread = search rules;
      stored = search rules;
      printed = search rules;
      rest = λ new status k.
          c.loop-at.invariant.rest new status
          (run_next c.args.text.now c.loop-at.at _ _ new status c.line_at-line.result.now _ _ _ c.run_line-status.result
          c.line_at-line.ensures.first (omega arith) c.loop-at.invariant.left c.run_line-status.ensures.runs (sym c.is_fault.ensures ∙ c.if-is_fault.false) k);
    }
