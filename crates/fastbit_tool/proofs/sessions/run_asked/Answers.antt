use Rattle.std.proofs.Common.{◌≡◌, true, false, [], sym, subst, ◌∙◌}
use Rattle.statuses.specs.declared.Status.{Status}
use Rattle.statuses.specs.Outcome.{Outcome}
use Rattle.commands.specs.Command.{command_of}
use Rattle.commands.specs.Order.{Yields}
use Rattle.commands.specs.Reply.{Replies}
use Rattle.commands.specs.Effects.{LeavesAfter}
use Rattle.fastbit_tool.proofs.InputLemmas.{allowed_takes, input_free}
use Rattle.fastbit_tool.proofs.sessions.run_asked.Goals as goal

pub returns-clause-runs : goal.returns-clause-runs
returns-clause-runs g c =
    record {
      replies = λ w h.
          subst (λ (o : Outcome). Replies o c.run_command.result (g.K.Sink.written c.args.out.now) (g.K.Sink.written c.run_command.new.out))
          (input_free c.args.asked c.requires.allowed c.run_command.ensures.reply.input [] w)
          (c.run_command.ensures.reply.holds w h);
      leaves = λ w h.
          subst (λ (o : Outcome). LeavesAfter o.effects w c.run_command.result (g.S.Store.files c.run_command.new.store))
          (input_free c.args.asked c.requires.allowed c.run_command.ensures.effects.input [] w)
          (c.run_command.ensures.effects.holds w h);
      causes = c.run_command.ensures.causes;
      prints = c.run_command.ensures.prints;
      kept = c.run_command.ensures.kept;
      refused = c.run_command.ensures.refused;
      reads = c.run_command.ensures.reads;
      allowed = c.run_command.ensures.allowed;
      steps = c.run_command.ensures.steps;
      order = c.run_command.ensures.order;
      unread = λ e.
          let takes = subst (λ (s : Status). Yields (command_of c.args.asked) (g.I.Source.left c.args.input.now) s) e c.run_command.ensures.order in
          let bad : true ≡ false = sym takes ∙ allowed_takes c.args.asked c.requires.allowed in
          absurd (cc);
    }

pub returns-clause-untouched : goal.returns-clause-untouched
returns-clause-untouched g c = c.run_command.ensures.untouched (allowed_takes c.args.asked c.requires.allowed)
