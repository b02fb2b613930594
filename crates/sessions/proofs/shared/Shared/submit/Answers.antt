use Rattle.sessions.proofs.Unconfined.{made_free}
use Rattle.sessions.proofs.shared.Shared.submit.Goals as goal

pub returns-clause-given : goal.returns-clause-given
returns-clause-given g c =
    made_free g.L.Founding.base c.args.session c.submit-session.result.0 c.args.call.now c.submit-session.result.1
    c.submit-session.ensures.made
