use Rattle.std.proofs.Common.{◌≡◌, Option, Some, ap, subst, ◌∙◌}
use Rattle.std.specs.Option.{IfNone, IfSome}
use Rattle.std.specs.FinMap as finmap
use Rattle.system.specs.Core.{TicketsValue}
use Rattle.system.specs.Halves.{TicketValue}
use Rattle.system.proofs.Tickets.{none_taken, taken_there}
use Rattle.system.proofs.ticket.Tickets.take.Goals as goal

pub returns-clause-there : goal.returns-clause-there
returns-clause-there c =
    let is =
    c.remove.ensures.before ∙ ap (finmap.get c.self.inside.kept) c.from.ensures ∙ ap
    (λ (t : TicketsValue). finmap.get t.kept c.args.number) c.self.view_is in
    subst (λ (o : Option (Option TicketValue)). IfSome c.flatten.result (λ ticket. o ≡ Some (Some ticket))) is
    (taken_there c.remove.result c.flatten.result c.flatten.ensures)

pub returns-clause-none : goal.returns-clause-none
returns-clause-none c =
    let is =
    c.remove.ensures.before ∙ ap (finmap.get c.self.inside.kept) c.from.ensures ∙ ap
    (λ (t : TicketsValue). finmap.get t.kept c.args.number) c.self.view_is in
    subst (λ (o : Option (Option TicketValue)). IfNone c.flatten.result
    ((ticket : TicketValue) → o ≡ Some (Some ticket) → ⊥)) is
    (none_taken c.remove.result c.flatten.result c.flatten.ensures)

pub returns-clause-left : goal.returns-clause-left
returns-clause-left c =
    (λ i. record {
      kept = (c.remove.ensures.removed ∙ ap (finmap.remove c.self.inside.kept) c.from.ensures) i;
      given = c.self.inside.given;
    })
    ∙ ap (λ (t : TicketsValue). record { kept = finmap.remove t.kept c.args.number; given = t.given }) c.self.view_is
