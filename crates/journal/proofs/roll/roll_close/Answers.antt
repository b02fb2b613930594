use Rattle.std.proofs.Common.{◌≡◌, ◌<◌, length, OnOk, subst}
use Rattle.disk.specs.declared.slot.Slot.{Slot}
use Rattle.disk.specs.Moments.{Follows, IsSynced, Passes}
use Rattle.disk.specs.Slots.{slot_of, with_slot}
use Rattle.ipc_model.specs.store.Store.{IsClosed}
use Rattle.slot_steps.specs.Steps.{IsClosing}
use Rattle.journal.proofs.roll.roll_close.Goals as goal

-- Each clause is that of the step, in the epoch's slot.

pub returns-clause-begun : goal.returns-clause-begun
returns-clause-begun g c = λ honest.
    let new = g.D.Disk.view c.close_slot.new.disk in
    subst (λ (s : Slot). OnOk c.close_slot.result (0 < length (slot_of new.seen s))) c.segment_slot.ensures
    (c.close_slot.ensures.begun honest)

pub returns-clause-closed : goal.returns-clause-closed
returns-clause-closed g c = λ honest.
    let new = g.D.Disk.view c.close_slot.new.disk in
    subst (λ (s : Slot). OnOk c.close_slot.result (IsClosed (slot_of new.seen s))) c.segment_slot.ensures
    (c.close_slot.ensures.closed honest)

pub returns-clause-others : goal.returns-clause-others
returns-clause-others g c = λ honest.
    let old = g.D.Disk.view c.args.disk.now in
    let new = g.D.Disk.view c.close_slot.new.disk in
    subst (λ (s : Slot). OnOk c.close_slot.result (new.seen ≡ with_slot old.seen s (slot_of new.seen s)))
    c.segment_slot.ensures (c.close_slot.ensures.others honest)

pub returns-clause-synced : goal.returns-clause-synced
returns-clause-synced g c = λ honest.
    let new = g.D.Disk.view c.close_slot.new.disk in
    subst (λ (s : Slot). OnOk c.close_slot.result (IsSynced new s)) c.segment_slot.ensures
    (c.close_slot.ensures.synced honest)

pub returns-clause-any_moment : goal.returns-clause-any_moment
returns-clause-any_moment g c = λ honest.
    let old = g.D.Disk.view c.args.disk.now in
    let new = g.D.Disk.view c.close_slot.new.disk in
    subst (λ (s : Slot). IsSynced old s → Passes old new (Follows old s (IsClosing 16))) c.segment_slot.ensures
    (c.close_slot.ensures.any_moment honest)
