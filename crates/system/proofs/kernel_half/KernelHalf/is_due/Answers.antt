use Rattle.std.proofs.Common.{ap}
use Rattle.system.specs.Halves.{KernelValue, TicketValue}
use Rattle.system.proofs.Making.{due_or_not}
use Rattle.system.proofs.kernel_half.KernelHalf.is_due.Goals as goal

pub returns : goal.returns
returns c =
    due_or_not c.ticket.inside.seen c.self.inside.handed c.args.ticket.now.seen c.args.self.now.handed
    (ap (λ (t : TicketValue). t.seen) c.ticket.view_is) (ap (λ (k : KernelValue). k.handed) c.self.view_is)
