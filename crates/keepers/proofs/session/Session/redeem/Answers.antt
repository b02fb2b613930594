use Rattle.std.proofs.Common.{ℕ, ◌≤◌, length, sym, subst, arith}
use Rattle.keepers.specs.Tokens.{IsSession, SessionValue, session_of}
use Rattle.keepers.proofs.Cores.{acknowledged_session}
use Rattle.keepers.proofs.session.Session.redeem.Goals as goal

pub invariant_of-session : goal.invariant_of-session
invariant_of-session g c =
    let own_state = c.session.inside.own_state in
    let past = c.session.inside.past in
    let old : SessionValue =
    session_of own_state.number own_state.space own_state.acknowledged own_state.tickets.numbers
    own_state.places.numbers past in
    let within : c.seen-seen.result ≤ length past.entries = omega (arith, c.if-seen-len.false, c.len.ensures) in (
      subst (λ (n : ℕ). IsSession g.L.Founding.base
          (session_of own_state.number own_state.space n own_state.tickets.numbers own_state.places.numbers past)
          own_state.share.amount) (sym c.add.ensures)
          (acknowledged_session g.L.Founding.base old c.seen-seen.result own_state.share.amount within
          c.session.invariant.0),
      c.session.invariant.1,
    )
