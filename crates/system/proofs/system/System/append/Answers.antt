use Rattle.std.proofs.Common.{◌≡◌, ◌⊎◌, true, sym, subst, ◌∙◌}
use Rattle.system.specs.Changes.{FailsToStore, FindsFull, Stores}
use Rattle.system.specs.Core.{SystemValue}
use Rattle.store_fault.specs.declared.fault.StoreFault.TheVariants.{Device, Failed, Full}
use Rattle.system.proofs.Stored.{fails, fails_in_order, stores}
use Rattle.system.proofs.system.System.append.Goals as goal

pub returns-in-Ok-clause-done : goal.returns-in-Ok-clause-done
returns-in-Ok-clause-done g c =
    let inside = c.self.inside in
    let old : SystemValue _ =
    record {
      core = inside.core;
      store = inside.store;
      out = inside.out;
      receipt = inside.receipt;
      finished = inside.finished;
      finished_first = inside.finished_first;
      tickets = inside.tickets;
    } in
    let new : SystemValue _ =
    record old {
      store = c.append.new.self;
      out = c.take.new.self;
      receipt = c.replace-in-Ok.new.self;
      finished_first = true;
    } in
    let done = c.in-Ok.ensures in
    subst (λ (s : SystemValue _). Stores g.D.Disk.honest g.D.Disk.view s new) c.self.view_is
    (stores g.D.Disk.honest g.D.Disk.view old c.in-Some.taken c.append.new.self
    (sym c.in-Some.ensures.value) (sym c.epoch.ensures ∙ c.if-epoch.false ∙ c.epoch-2.ensures)
    (sym c.has_failed.ensures ∙ c.if-has_failed.false) done.under_way done.any_moment
    c.take.new.self c.in-Ok.receipt c.replace-in-Ok.new.self c.take.ensures.after c.replace-in-Ok.ensures.after
    done.counted done.stored done.synced)

pub invariant_of-self-in-Err : goal.invariant_of-self-in-Err
invariant_of-self-in-Err g c =
    let inside = c.self.inside in
    let old : SystemValue _ =
    record {
      core = inside.core;
      store = inside.store;
      out = inside.out;
      receipt = inside.receipt;
      finished = inside.finished;
      finished_first = inside.finished_first;
      tickets = inside.tickets;
    } in
    let left = c.in-Err.ensures in
    fails_in_order g.D.Disk.honest g.D.Disk.view old c.in-Some.taken c.append.new.self
    (sym c.in-Some.ensures.value) (sym c.epoch.ensures ∙ c.if-epoch.false ∙ c.epoch-2.ensures)
    (sym c.has_failed.ensures ∙ c.if-has_failed.false) left.under_way left.any_moment
    c.replace-in-Err.new.self c.in-Err.taken c.in-Err.fault c.replace-in-Err.ensures.after left.back
    (λ is. let acknowledged = left.device is in (acknowledged.0, acknowledged.2)) left.faults c.self.invariant

pub returns-in-Err-clause-faults : goal.returns-in-Err-clause-faults
returns-in-Err-clause-faults g c =
    let inside = c.self.inside in
    let old : SystemValue _ =
    record {
      core = inside.core;
      store = inside.store;
      out = inside.out;
      receipt = inside.receipt;
      finished = inside.finished;
      finished_first = inside.finished_first;
      tickets = inside.tickets;
    } in
    let new : SystemValue _ = record old { store = c.append.new.self; out = c.replace-in-Err.new.self } in
    let left = c.in-Err.ensures in
    subst (λ (s : SystemValue _). ((c.in-Err.fault ≡ Failed) × (s.store.failed ≡ true) × (new ≡ s))
    ⊎ (((c.in-Err.fault ≡ Device) × FailsToStore g.D.Disk.honest g.D.Disk.view s new)
    ⊎ ((c.in-Err.fault ≡ Full) × FindsFull s new))) c.self.view_is
    (fails g.D.Disk.honest g.D.Disk.view old c.in-Some.taken c.append.new.self
    (sym c.in-Some.ensures.value) (sym c.epoch.ensures ∙ c.if-epoch.false ∙ c.epoch-2.ensures)
    (sym c.has_failed.ensures ∙ c.if-has_failed.false) left.under_way left.any_moment
    c.replace-in-Err.new.self c.in-Err.taken c.in-Err.fault c.replace-in-Err.ensures.after left.back
    (λ is. let acknowledged = left.device is in (acknowledged.0, acknowledged.2)) left.faults
    (λ is. left.failed.0 is) (λ is. (left.full.0 is).1))
