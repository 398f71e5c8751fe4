use Rattle.std.proofs.Common.{refl, ap}
use Rattle.commands.specs.Command.{Unknown, command_of}
use Rattle.commands.proofs.RunLemmas.{call_cause, call_end, call_leaves, call_read, call_replies, call_says, call_yields, unknown_leaves, usage_runs}
use Rattle.commands.proofs.run_command.Goals as goal

pub returns-in-None-clause-reply : goal.returns-in-None-clause-reply
returns-in-None-clause-reply g c =
    call_replies c.args.asked.now Unknown (ap command_of c.in-None.is) (g.I.Source.left c.args.input.now) (g.S.Store.files c.args.store.now) _ _ c.refuse.result (usage_runs (g.I.Source.left c.args.input.now) (g.S.Store.files c.args.store.now) _ _ c.refuse.result c.refuse.ensures.prints)

pub returns-in-None-clause-causes : goal.returns-in-None-clause-causes
returns-in-None-clause-causes g c =
    call_cause c.args.asked.now Unknown (ap command_of c.in-None.is) (g.I.Source.left c.args.input.now) (g.S.Store.files c.args.store.now) _ _ c.refuse.result (usage_runs (g.I.Source.left c.args.input.now) (g.S.Store.files c.args.store.now) _ _ c.refuse.result c.refuse.ensures.prints)

pub returns-in-None-clause-prints : goal.returns-in-None-clause-prints
returns-in-None-clause-prints g c =
    call_says c.args.asked.now Unknown (ap command_of c.in-None.is) (g.I.Source.left c.args.input.now) (g.S.Store.files c.args.store.now) _ _ c.refuse.result (usage_runs (g.I.Source.left c.args.input.now) (g.S.Store.files c.args.store.now) _ _ c.refuse.result c.refuse.ensures.prints)

pub returns-in-None-clause-order : goal.returns-in-None-clause-order
returns-in-None-clause-order g c =
    call_yields c.args.asked.now Unknown (ap command_of c.in-None.is) (g.I.Source.left c.args.input.now) (g.S.Store.files c.args.store.now) _ _ c.refuse.result (usage_runs (g.I.Source.left c.args.input.now) (g.S.Store.files c.args.store.now) _ _ c.refuse.result c.refuse.ensures.prints)

pub returns-in-None-clause-effects : goal.returns-in-None-clause-effects
returns-in-None-clause-effects g c =
    call_leaves c.args.asked.now Unknown (ap command_of c.in-None.is) (g.I.Source.left c.args.input.now) (g.S.Store.files c.args.store.now) _ _ c.refuse.result (usage_runs (g.I.Source.left c.args.input.now) (g.S.Store.files c.args.store.now) _ _ c.refuse.result c.refuse.ensures.prints) _ (unknown_leaves _ _)

pub returns-in-None-clause-read_cause : goal.returns-in-None-clause-read_cause
returns-in-None-clause-read_cause g c =
    call_read c.args.asked.now Unknown (ap command_of c.in-None.is) (g.I.Source.left c.args.input.now) (g.S.Store.files c.args.store.now) _ _ c.refuse.result (usage_runs (g.I.Source.left c.args.input.now) (g.S.Store.files c.args.store.now) _ _ c.refuse.result c.refuse.ensures.prints) _ refl

pub returns-in-None-clause-end : goal.returns-in-None-clause-end
returns-in-None-clause-end g c =
    λ takes. call_end c.args.asked.now Unknown (ap command_of c.in-None.is) (g.I.Source.left c.args.input.now) (g.S.Store.files c.args.store.now) _ _ c.refuse.result (usage_runs (g.I.Source.left c.args.input.now) (g.S.Store.files c.args.store.now) _ _ c.refuse.result c.refuse.ensures.prints) refl takes

pub returns-in-Some-clause-effects : goal.returns-in-Some-clause-effects
returns-in-Some-clause-effects g c = rw c.in-Some.is c.run_job.ensures.effects
