use Rattle.std.proofs.Common.{◌≡◌, ◌≤◌, Some, subst}
use Rattle.std.specs.FinMap as finmap
use Rattle.system.specs.Halves.{TicketValue}
use Rattle.system.proofs.system.System.is_due.Goals as goal

pub returns : goal.returns
returns g c =
    subst (λ s. (ticket : TicketValue) × (finmap.get s.tickets.kept c.args.number ≡ Some (Some ticket))
    × (ticket.seen ≤ s.core.handed)) c.self.view_is
    (c.in-Some.ticket.now, c.in-Some.ensures.there, c.if-not-is_due.ensures)
