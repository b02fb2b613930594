use Rattle.std.proofs.Common.{◌≡◌, None, false, refl, sym, ap, subst, ◌∙◌}
use Rattle.store_half.specs.phases.Passed.{IsKept}
use Rattle.ipc_model.specs.state.Circular.{Acyclic}
use Rattle.ipc_model.specs.state.LawfulState.{LawfulState}
use Rattle.ipc_model.specs.world.World.{first_world}
use Rattle.system.specs.Core.{StandsFor, SystemValue, first_system}
use Rattle.system.specs.Order.{IsInOrder}
use Rattle.system.proofs.OrderLaws.{first_in_order}
use Rattle.system.proofs.Runs.{first_stands}
use Rattle.system.proofs.system.System.new.Goals as goal

pub invariant_of-result : goal.invariant_of-result
invariant_of-result g c =
    let opened = c.opened.inside in
    let made : SystemValue _ =
    record {
      core = c.new.result;
      store = c.new-2.result;
      out = None;
      receipt = None;
      finished = None;
      finished_first = false;
      tickets = c.new-3.result;
    } in
    let is : made ≡ first_system opened.kernel opened.disk opened.segment =
    λ i. record {
      core = c.new.ensures i;
      store = c.new-2.ensures i;
      out = None;
      receipt = None;
      finished = None;
      finished_first = false;
      tickets = c.new-3.ensures i;
    } in
    subst IsInOrder (sym is) (first_in_order opened.kernel opened.disk opened.segment)

pub returns-clause-stands : goal.returns-clause-stands
returns-clause-stands g c =
    let opened = c.args.opened in
    let is =
    (λ i. record {
      core = c.new.ensures i;
      store = c.new-2.ensures i;
      out = None;
      receipt = None;
      finished = None;
      finished_first = false;
      tickets = c.new-3.ensures i;
    }) ∙ ap
    (λ o. first_system o.kernel o.disk o.segment) c.opened.view_is in
    subst (StandsFor g.D.Disk.honest g.D.Disk.view opened.kernel
    (first_world opened.segment.epoch opened.segment.records)) (sym is)
    (first_stands g.D.Disk.honest g.D.Disk.view opened.kernel opened.kernel opened.disk opened.segment refl
    (subst (λ o. LawfulState o.kernel) c.opened.view_is c.show_image.ensures.lawful)
    (subst (λ o. Acyclic o.kernel.ipc) c.opened.view_is c.show_image.ensures.acyclic)
    (subst (λ o. g.D.Disk.honest → IsKept (g.D.Disk.view o.disk) o.segment o.kernel) c.opened.view_is
    c.opened.invariant))
