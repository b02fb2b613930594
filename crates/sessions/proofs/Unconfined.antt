-- Calls of sessions that aren't confined.
use Rattle.std.proofs.Common.{◌≡◌, None, subst}
use Rattle.std.specs.Prelude.{Result, Ok, Err, IfOk}
use Rattle.ipc_model.specs.declared.call.Call.{Call}
use Rattle.ipc_model.specs.history.History.{called}
use Rattle.ipc_model.specs.state.State.{State}
use Rattle.keepers.specs.Destroying.{MadeSince}
use Rattle.keepers.specs.Tokens.{SessionValue, Did}
use Rattle.system.specs.Halves.{TicketValue}

pub made_free : {E : Type 0} (base : State) (old new : SessionValue) (c : Call) (r : Result TicketValue E)
    → IfOk r (λ ticket. MadeSince base None old c ticket new)
    → IfOk r (λ ticket. Did base old (called c ticket.answer) new × (ticket.seen ≡ new.task.seen))
made_free base old new c (Ok ticket) since = (
  subst (λ (s : SessionValue). Did base s (called c ticket.answer) new) since.settles since.made.did,
  since.made.ticket_seen,
)
made_free base old new c (Err fault) since = tt
