use Rattle.std.proofs.Common.{◌≡◌, ◌-◌, List, ℕ, ◌∷◌, ◌++◌, length, take, subst}
use Rattle.disk.specs.declared.slot.Slot.{Slot}
use Rattle.disk.specs.Moments.{Follows, IsSynced, Passes}
use Rattle.disk.specs.Slots.{slot_of, with_slot}
use Rattle.ipc_model.specs.store.Store.{IsMidAppend, open_gate, with_batch}
use Rattle.journal.specs.Batch.{content_of}
use Rattle.journal.specs.Storing.{IsMidStore}
use Rattle.journal.proofs.segment.Segment.append.Goals as goal

-- Each clause is that of the step, in the epoch's slot and with the batch's encoding.

pub returns-in_err-store-clause-any_moment : goal.returns-in_err-store-clause-any_moment
returns-in_err-store-clause-any_moment g c = λ honest.
    let old = g.D.Disk.view c.args.disk.now in
    let new = g.D.Disk.view c.store.new.disk in
    subst (λ (s : Slot). IsSynced old s
    → Passes old new (Follows old s (λ before after. IsMidAppend before (content_of c.args.batch.now) after)))
    c.segment_slot.ensures
    (subst (λ (t : List ℕ). IsSynced old c.segment_slot.result
    → Passes old new (Follows old c.segment_slot.result (IsMidStore t))) c.encoding.ensures
    (c.store.ensures.any_moment honest))

pub returns-clause-any_moment : goal.returns-clause-any_moment
returns-clause-any_moment g c = λ honest.
    let old = g.D.Disk.view c.args.disk.now in
    let new = g.D.Disk.view c.store.new.disk in
    subst (λ (s : Slot). IsSynced old s
    → Passes old new (Follows old s (λ before after. IsMidAppend before (content_of c.args.batch.now) after)))
    c.segment_slot.ensures
    (subst (λ (t : List ℕ). IsSynced old c.segment_slot.result
    → Passes old new (Follows old c.segment_slot.result (IsMidStore t))) c.encoding.ensures
    (c.store.ensures.any_moment honest))

pub returns-clause-stored : goal.returns-clause-stored
returns-clause-stored g c = λ honest.
    let old = (g.D.Disk.view c.args.disk.now).seen in
    let new = (g.D.Disk.view c.store.new.disk).seen in
    let before = slot_of old c.segment_slot.result in
    subst (λ (s : Slot). new ≡ with_slot old s (with_batch (slot_of old s) (content_of c.args.batch.now)))
    c.segment_slot.ensures
    (subst (λ (t : List ℕ). new ≡ with_slot old c.segment_slot.result
    (take (length before - 1) before ++ (open_gate ∷ t))) c.encoding.ensures (c.in_ok-store.ensures.stored honest))

pub returns-clause-synced : goal.returns-clause-synced
returns-clause-synced g c =
    λ honest. subst (λ (s : Slot). IsSynced (g.D.Disk.view c.store.new.disk) s) c.segment_slot.ensures
    (c.in_ok-store.ensures.synced honest)
