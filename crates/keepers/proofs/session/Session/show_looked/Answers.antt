use Rattle.std.proofs.Common.{subst}
use Rattle.std.proofs.Math.Seq.{take-length}
use Rattle.ipc_model.specs.history.History.{looked}
use Rattle.keepers.specs.Tokens.{Did, SessionValue, session_of}
use Rattle.keepers.proofs.Histories.{did_look}
use Rattle.keepers.proofs.session.Session.show_looked.Goals as goal

pub returns : goal.returns
returns g c =
    let own_state = c.self.inside.own_state in
    let past = c.self.inside.past in
    let now : SessionValue =
    session_of own_state.number own_state.space own_state.acknowledged own_state.tickets.numbers
    own_state.places.numbers past in
    subst (λ (s : SessionValue). Did g.L.Founding.base s looked s) c.self.view_is
    (did_look g.L.Founding.base now past c.self.invariant.0.seen (take-length past.entries))
