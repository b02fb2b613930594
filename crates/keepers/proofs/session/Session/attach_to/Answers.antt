use Rattle.keepers.proofs.Since.{attaches}
use Rattle.keepers.specs.Destroying.{WasIn}
use Rattle.keepers.specs.Tokens.{SessionValue, session_of}
use Rattle.std.proofs.Common.{subst, sym}
use Rattle.keepers.proofs.session.Session.attach_to.Goals as goal

pub invariant_of-session : goal.invariant_of-session
invariant_of-session g c =
    let own_state = c.session.inside.own_state in
    let past = c.session.inside.past in
    let now : SessionValue =
    session_of own_state.number own_state.space own_state.acknowledged own_state.tickets.numbers
    own_state.places.numbers past in (
      attaches g.L.Founding.base c.args.space now own_state.share.amount c.session.invariant.0
          (subst (WasIn g.L.Founding.base c.args.space) (sym c.session.view_is) c.requires),
      c.session.invariant.1,
    )
