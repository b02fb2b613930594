use Rattle.std.proofs.Common.{◌≡◌, ◌≤◌, ℕ, None, sym, subst}
use Rattle.std.specs.FinMap as finmap
use Rattle.system.specs.Core.{SystemValue, TicketsValue}
use Rattle.system.proofs.OrderLaws.{answered_in_order}
use Rattle.system.proofs.Tickets.{fresh_less}
use Rattle.system.proofs.system.System.reply.Goals as goal

pub invariant_of-self-2 : goal.invariant_of-self-2
invariant_of-self-2 g c =
    let inside = c.self.inside in
    let old : SystemValue _ =
    record {
      core = inside.core;
      store = inside.store;
      out = inside.out;
      receipt = inside.receipt;
      finished = inside.finished;
      finished_first = inside.finished_first;
      tickets = inside.tickets;
    } in
    answered_in_order old c.take.new.self c.self.invariant
    (subst (λ (t : TicketsValue). (number : ℕ) → t.given ≤ number → finmap.get t.kept number ≡ None)
    (sym c.take.ensures.left) (fresh_less inside.tickets.kept inside.tickets.given c.args.number
    c.self.invariant.fresh))
