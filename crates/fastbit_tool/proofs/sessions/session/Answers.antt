use Rattle.fastbit_tool.proofs.SessionLemmas.{session_cause, session_keeps, session_leaves, session_refused, session_replies}
use Rattle.fastbit_tool.proofs.sessions.session.Goals as goal

pub returns-clause-reply : goal.returns-clause-reply
returns-clause-reply g c =
    session_replies (g.I.Source.left c.args.input.now) _ _ _ c.run_session.result c.run_session.ensures.ran

pub returns-clause-effects : goal.returns-clause-effects
returns-clause-effects g c =
    session_leaves (g.I.Source.left c.args.input.now) _ _ _ c.run_session.result c.run_session.ensures.ran

pub returns-clause-kept : goal.returns-clause-kept
returns-clause-kept g c =
    session_keeps (g.I.Source.left c.args.input.now) _ _ _ c.run_session.result c.run_session.ensures.ran

pub returns-clause-refused : goal.returns-clause-refused
returns-clause-refused g c =
    session_refused (g.I.Source.left c.args.input.now) _ _ _ c.run_session.result c.run_session.ensures.ran

pub returns-clause-causes : goal.returns-clause-causes
returns-clause-causes g c =
    session_cause (g.I.Source.left c.args.input.now) _ _ _ c.run_session.result c.run_session.ensures.ran
