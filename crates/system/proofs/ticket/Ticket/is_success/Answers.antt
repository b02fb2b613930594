use Rattle.std.proofs.Common.{ap, ◌∙◌}
use Rattle.ipc_model.specs.calls.Step.{succeeded}
use Rattle.system.specs.Halves.{TicketValue}
use Rattle.system.proofs.ticket.Ticket.is_success.Goals as goal

pub returns : goal.returns
returns c = c.is_success.ensures ∙ ap (λ (t : TicketValue). succeeded t.answer) c.self.view_is
