use Rattle.std.proofs.Common.{◌≡◌, [], ◌∷◌, ◌++◌, take, OnOk, subst}
use Rattle.disk.specs.declared.slot.Slot.{Slot}
use Rattle.disk.specs.Moments.{Follows, IsSynced, Passes}
use Rattle.disk.specs.Slots.{slot_of, with_slot}
use Rattle.ipc_model.specs.store.Store.{closed_gate, epoch_encoding}
use Rattle.slot_steps.specs.Steps.{IsShut, IsStillClosed}
use Rattle.journal.proofs.roll.roll_head.Goals as goal

-- Each clause is that of the step, in the epoch's slot.

pub returns-clause-header : goal.returns-clause-header
returns-clause-header g c = λ honest.
    let old = g.D.Disk.view c.args.disk.now in
    let new = g.D.Disk.view c.write_header.new.disk in
    subst (λ (s : Slot). OnOk c.write_header.result
    (new.seen ≡ with_slot old.seen s
    (take 1 (slot_of old.seen s) ++ (epoch_encoding c.args.epoch ++ closed_gate ∷ [])))) c.segment_slot.ensures
    (c.write_header.ensures.header honest)

pub returns-clause-synced : goal.returns-clause-synced
returns-clause-synced g c = λ honest.
    let new = g.D.Disk.view c.write_header.new.disk in
    subst (λ (s : Slot). OnOk c.write_header.result (IsSynced new s)) c.segment_slot.ensures
    (c.write_header.ensures.synced honest)

pub returns-clause-any_moment : goal.returns-clause-any_moment
returns-clause-any_moment g c = λ honest.
    let old = g.D.Disk.view c.args.disk.now in
    let new = g.D.Disk.view c.write_header.new.disk in
    subst (λ (s : Slot). IsShut old s → Passes old new (Follows old s IsStillClosed)) c.segment_slot.ensures
    (c.write_header.ensures.any_moment honest)
