use Rattle.std.proofs.Common.{◌≡◌, ◌≤◌, ℕ, Err, None, Some, refl, sym, ap, subst, ◌∙◌, arith}
use Rattle.std.specs.Option.{IsSome}
use Rattle.std.specs.FinMap as finmap
use Rattle.system.specs.Changes.{Submits}
use Rattle.system.specs.Core.{SystemValue, TicketsValue}
use Rattle.system.specs.Halves.{IsFullFor, KernelValue}
use Rattle.system.specs.Order.{IsInOrder}
use Rattle.system.specs.declared.kernel_half.SubmitFault.TheVariants.{EpochFull}
use Rattle.system.proofs.OrderLaws.{given_in_order}
use Rattle.system.proofs.Tickets.{dropped_place, err_same, fresh_more, given_ticket, place_there}
use Rattle.system.proofs.system.System.submit.Goals as goal

pub give-requires-clause-place : goal.give-requires-clause-place
give-requires-clause-place g c =
    subst (λ (t : TicketsValue). IsSome (finmap.get t.kept t.given)) (sym c.in_ok-make_place.ensures.ok)
    (place_there c.self.inside.tickets.kept c.self.inside.tickets.given None)

pub invariant_of-self-in-Ok : goal.invariant_of-self-in-Ok
invariant_of-self-in-Ok g c =
    let inside = c.self.inside in
    let old : SystemValue _ =
    record {
      core = inside.core;
      store = inside.store;
      out = inside.out;
      receipt = inside.receipt;
      finished = inside.finished;
      finished_first = inside.finished_first;
      tickets = inside.tickets;
    } in
    let is =
    given_ticket inside.tickets c.make_place.new.self c.give.new.self c.in-Ok.ticket c.in_ok-make_place.ensures.ok
    c.give.ensures.kept in
    given_in_order old c.args.space c.args.call.now c.in-Ok.ticket c.submit.new.self c.give.new.self c.self.invariant
    c.in-Ok.ensures.given
    (subst (λ (t : TicketsValue). (number : ℕ) → t.given ≤ number → finmap.get t.kept number ≡ None) (sym is)
    (fresh_more inside.tickets.kept inside.tickets.given (Some c.in-Ok.ticket) c.self.invariant.fresh))

pub invariant_of-self-in-Err : goal.invariant_of-self-in-Err
invariant_of-self-in-Err g c =
    let inside = c.self.inside in
    let is : c.drop_place.new.self ≡ inside.tickets =
    dropped_place inside.tickets c.make_place.new.self c.drop_place.new.self c.in_ok-make_place.ensures.ok
    c.drop_place.ensures (c.self.invariant.fresh inside.tickets.given (omega arith)) in
    let old : SystemValue _ =
    record {
      core = inside.core;
      store = inside.store;
      out = inside.out;
      receipt = inside.receipt;
      finished = inside.finished;
      finished_first = inside.finished_first;
      tickets = inside.tickets;
    } in
    let new : SystemValue _ =
    record {
      core = c.submit.new.self;
      store = inside.store;
      out = inside.out;
      receipt = inside.receipt;
      finished = inside.finished;
      finished_first = inside.finished_first;
      tickets = c.drop_place.new.self;
    } in
    let whole : new ≡ old =
    λ i. record {
      core = c.in-Err.ensures.err i;
      store = inside.store;
      out = inside.out;
      receipt = inside.receipt;
      finished = inside.finished;
      finished_first = inside.finished_first;
      tickets = is i;
    } in
    subst IsInOrder (sym whole) c.self.invariant

pub returns-in-Ok-clause-given : goal.returns-in-Ok-clause-given
returns-in-Ok-clause-given g c =
    let inside = c.self.inside in
    let is =
    given_ticket inside.tickets c.make_place.new.self c.give.new.self c.in-Ok.ticket c.in_ok-make_place.ensures.ok
    c.give.ensures.kept in
    subst (λ s. Submits s c.args.space c.args.call.now
    (record {
      core = c.submit.new.self;
      store = inside.store;
      out = inside.out;
      receipt = inside.receipt;
      finished = inside.finished;
      finished_first = inside.finished_first;
      tickets = c.give.new.self;
    }))
    c.self.view_is (record {
      ticket = c.in-Ok.ticket;
      gives = c.in-Ok.ensures.given;
      rest =
          λ i. record {
            core = c.submit.new.self;
            store = inside.store;
            out = inside.out;
            receipt = inside.receipt;
            finished = inside.finished;
            finished_first = inside.finished_first;
            tickets = is i;
          };
    })

pub returns-in-Err-clause-full : goal.returns-in-Err-clause-full
returns-in-Err-clause-full g c =
    λ is. subst (λ (k : KernelValue). IsFullFor k c.args.space c.args.call.now) (ap (λ s. s.core) c.self.view_is)
    (c.in-Err.ensures.full (ap Err (err_same _ c.in-Err.fault EpochFull refl is)))

pub returns-in-Err-clause-err : goal.returns-in-Err-clause-err
returns-in-Err-clause-err g c =
    let inside = c.self.inside in
    let is : c.drop_place.new.self ≡ inside.tickets =
    dropped_place inside.tickets c.make_place.new.self c.drop_place.new.self c.in_ok-make_place.ensures.ok
    c.drop_place.ensures (c.self.invariant.fresh inside.tickets.given (omega arith)) in
    (λ i. record {
      core = c.in-Err.ensures.err i;
      store = inside.store;
      out = inside.out;
      receipt = inside.receipt;
      finished = inside.finished;
      finished_first = inside.finished_first;
      tickets = is i;
    }) ∙ c.self.view_is
