use Rattle.std.proofs.Common.{Some, ap, subst, sym}
use Rattle.ipc_model.specs.history.History.{detached}
use Rattle.keepers.specs.Destroying.{IsGoneSince}
use Rattle.keepers.specs.Tokens.{Did, SessionValue, session_of}
use Rattle.keepers.proofs.Histories.{detaches, detaching, did_detach}
use Rattle.keepers.proofs.session.Session.detach.Goals as goal

pub invariant_of-session : goal.invariant_of-session
invariant_of-session g c =
    let own_state = c.session.inside.own_state in
    let past = c.session.inside.past in
    let old : SessionValue =
    session_of own_state.number own_state.space own_state.acknowledged own_state.tickets.numbers
    own_state.places.numbers past in (
      detaches g.L.Founding.base old own_state.share.amount
          (subst (λ (s : SessionValue). IsGoneSince 0 s.task.space (Some s.past.entries)) (sym c.session.view_is)
          c.requires) c.session.invariant.0,
      c.session.invariant.1,
    )

pub returns-clause-detached : goal.returns-clause-detached
returns-clause-detached g c =
    let own_state = c.session.inside.own_state in
    let past = c.session.inside.past in
    let old : SessionValue =
    session_of own_state.number own_state.space own_state.acknowledged own_state.tickets.numbers
    own_state.places.numbers past in
    subst (λ (s : SessionValue). Did g.L.Founding.base s detached (detaching old)) c.session.view_is
    (did_detach g.L.Founding.base old c.session.invariant.0.seen
    (subst (λ (s : SessionValue). IsGoneSince 0 s.task.space (Some s.past.entries)) (sym c.session.view_is) c.requires))

pub returns-clause-past : goal.returns-clause-past
returns-clause-past g c = ap (λ (s : SessionValue). s.past) c.session.view_is
