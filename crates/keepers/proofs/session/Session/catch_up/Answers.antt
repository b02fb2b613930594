use Rattle.keepers.specs.Tokens.{SessionValue, IsAfter, session_of}
use Rattle.keepers.proofs.Meetings.{caught_or_same, learned}
use Rattle.keepers.proofs.session.Session.catch_up.Goals as goal

pub invariant_of-self : goal.invariant_of-self
invariant_of-self g c =
    let own_state = c.self.inside.own_state in
    let past = c.self.inside.past in
    let old : SessionValue =
    session_of own_state.number own_state.space own_state.acknowledged own_state.tickets.numbers
    own_state.places.numbers past in
    let beyond : IsAfter past c.latest.inside.past = rw c.if-not-is_after.false at c.is_after.ensures.is in
    let up = c.catch_up.ensures in (
      learned g.L.Founding.base old c.latest.inside.past c.catch_up.new.self own_state.share.amount
          c.self.invariant.0 c.latest.invariant
          (caught_or_same past c.latest.inside.past c.catch_up.new.self c.catch_up.result beyond up.ok up.begins
          up.moved up.err),
      c.self.invariant.1,
    )
