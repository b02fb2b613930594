use Rattle.std.proofs.Common.{◌≡◌, ℕ, inr, ◌+◌, Err, Option, ap, sym, subst, ◌∙◌}
use Rattle.std.proofs.lemmas.Result.{err_from_is_err_and}
use Rattle.codes.specs.StoreVersion.{version_number}
use Rattle.disk.specs.Moments.{one_more}
use Rattle.disk.specs.Slots.{Slots, slot_of}
use Rattle.ipc_model.specs.state.State.{State}
use Rattle.ipc_model.specs.store.Recovery.{Recovered, version_of}
use Rattle.recover.specs.Kept.{IsKept}
use Rattle.slot_steps.specs.Steps.{segment_slot}
use Rattle.store_layout.specs.Standing.{as_written}
use Rattle.checkpoint.specs.Images.{ImageValue, open_image}
use Rattle.disk.proofs.Moments.{reads_then}
use Rattle.ipc_model.specs.encodings.Images.{image_encoding}
use Rattle.ipc_model.specs.store.Store.{EncodesSegment}
use Rattle.recover.specs.Replayed.{ReplaysAll}
use Rattle.recover.specs.Upgrading.{upgraded_epoch}
use Rattle.recover.proofs.Faults.{counts_device, counts_memory, counts_ok, counts_passed, counts_then, device_no_damage, memory_no_damage, of_device, of_memory, opens_as, opens_device, opens_nothing}
use Rattle.recover.proofs.Joined.{next_end_same, next_image_same, next_read, next_says, rested_after_image}
use Rattle.recover.proofs.Upgraded.{continues, to_end, upgrade_fits}
use Rattle.recover.proofs.Ways.{next_damaged, next_found, next_parts, read_damaged, still_same}
use Rattle.recover.proofs.opening.go_on_next.Goals as goal

pub returns-in_err-base-clause-damaged : goal.returns-in_err-base-clause-damaged
returns-in_err-base-clause-damaged g c = λ honest reported.
    let p = err_from_is_err_and c.from_residual.result c.from_residual.ensures.1 in
    read_damaged (g.D.Disk.view c.args.disk.now).seen c.args.epoch _ (c.requires.used honest)
    (c.in_err-base.ensures.damaged honest (cc (p.1, p.2, reported)))

pub returns-in_err-base-clause-any_moment : goal.returns-in_err-base-clause-any_moment
returns-in_err-base-clause-any_moment g c = λ honest gates.
    still_same (g.D.Disk.view c.args.disk.now) (g.D.Disk.view c.read_epoch.new.disk) (c.requires.rest honest) gates
    (c.read_epoch.ensures.reads_only honest).time

pub returns-in_err-base-2-clause-any_moment : goal.returns-in_err-base-2-clause-any_moment
returns-in_err-base-2-clause-any_moment g c = λ honest gates.
    still_same (g.D.Disk.view c.args.disk.now) (g.D.Disk.view c.read_epoch.new.disk) (c.requires.rest honest) gates
    (c.read_epoch.ensures.reads_only honest).time

pub returns-in_err-kernel-clause-damaged : goal.returns-in_err-kernel-clause-damaged
returns-in_err-kernel-clause-damaged g c = λ honest reported.
    let p = err_from_is_err_and c.from_residual-in_err-kernel.result c.from_residual-in_err-kernel.ensures.1 in
    let e = c.args.epoch in
    let seen = (g.D.Disk.view c.args.disk.now).seen in
    let read = c.in_ok-base in
    next_damaged seen e read.base read.field-0-1 read.field-0-2 (c.requires.used honest) (read.ensures.read honest)
    (λ rs s encoded. (rw c.in_ok-base-2.ensures.base at c.in_err-kernel.ensures.damaged honest
    (cc (p.1, p.2, reported))) rs s
    (subst (λ (d : Slots). EncodesSegment (e + 1) (slot_of d (segment_slot (e + 1))) rs)
    (sym (read.ensures.reads_only honest).seen) encoded))

pub returns-in_err-kernel-clause-any_moment : goal.returns-in_err-kernel-clause-any_moment
returns-in_err-kernel-clause-any_moment g c = λ honest gates.
    let old = g.D.Disk.view c.args.disk.now in
    let first = g.D.Disk.view c.read_epoch.new.disk in
    still_same old (g.D.Disk.view c.replay_segment.new.disk) (c.requires.rest honest) gates
    (reads_then old first _ (c.read_epoch.ensures.reads_only honest)
    (c.replay_segment.ensures.reads_only honest)).time

pub returns-in_err-base-2-clause-damaged : goal.returns-in_err-base-2-clause-damaged
returns-in_err-base-2-clause-damaged g c = λ honest reported.
    let p = err_from_is_err_and c.from_residual-in_err-base-2.result c.from_residual-in_err-base-2.ensures.1 in
    absurd (memory_no_damage c.from_residual-in_err-base-2.result (p.1 ∙ ap Err p.2) reported)

pub returns-in_err-base-2-clause-faults : goal.returns-in_err-base-2-clause-faults
returns-in_err-base-2-clause-faults g c =
    let p = err_from_is_err_and c.from_residual-in_err-base-2.result c.from_residual-in_err-base-2.ensures.1 in
    of_memory c.from_residual-in_err-base-2.result (p.1 ∙ ap Err p.2)

pub returns-in_err-base-clause-opened : goal.returns-in_err-base-clause-opened
returns-in_err-base-clause-opened g c = λ honest.
    let p = err_from_is_err_and c.from_residual.result c.from_residual.ensures.1 in
    opens_nothing _ _ c.from_residual.result _ (p.1 ∙ ap Err p.2) (c.read_epoch.ensures.reads_only honest)

pub returns-in_err-base-clause-failures : goal.returns-in_err-base-clause-failures
returns-in_err-base-clause-failures g c =
    let p = err_from_is_err_and c.from_residual.result c.from_residual.ensures.1 in
    counts_passed _ _ _ c.from_residual.result (p.1 ∙ ap Err p.2) c.in_err-base.ensures.failures

pub returns-in_err-base-2-clause-opened : goal.returns-in_err-base-2-clause-opened
returns-in_err-base-2-clause-opened g c = λ honest.
    let p = err_from_is_err_and c.from_residual-in_err-base-2.result c.from_residual-in_err-base-2.ensures.1 in
    opens_nothing _ _ c.from_residual-in_err-base-2.result _ (p.1 ∙ ap Err p.2) (c.read_epoch.ensures.reads_only honest)

pub returns-in_err-base-2-clause-failures : goal.returns-in_err-base-2-clause-failures
returns-in_err-base-2-clause-failures g c =
    let p = err_from_is_err_and c.from_residual-in_err-base-2.result c.from_residual-in_err-base-2.ensures.1 in
    counts_memory _ _ c.from_residual-in_err-base-2.result (p.1 ∙ ap Err p.2) c.in_ok-base.ensures.failures.quiet

pub returns-in_err-kernel-clause-opened : goal.returns-in_err-kernel-clause-opened
returns-in_err-kernel-clause-opened g c = λ honest.
    let p = err_from_is_err_and c.from_residual-in_err-kernel.result c.from_residual-in_err-kernel.ensures.1 in
    opens_nothing _ _ c.from_residual-in_err-kernel.result _ (p.1 ∙ ap Err p.2)
    (reads_then _ _ _ (c.read_epoch.ensures.reads_only honest) (c.replay_segment.ensures.reads_only honest))

pub returns-in_err-kernel-clause-failures : goal.returns-in_err-kernel-clause-failures
returns-in_err-kernel-clause-failures g c =
    let p = err_from_is_err_and c.from_residual-in_err-kernel.result c.from_residual-in_err-kernel.ensures.1 in
    counts_then _ _ _ c.from_residual-in_err-kernel.result c.in_ok-base.ensures.failures.quiet
    (counts_passed _ _ _ c.from_residual-in_err-kernel.result (p.1 ∙ ap Err p.2) c.in_err-kernel.ensures.failures)

-- out of memory for the image of an upgrade

pub returns-in_err-kernel-2-clause-any_moment : goal.returns-in_err-kernel-2-clause-any_moment
returns-in_err-kernel-2-clause-any_moment g c = λ honest gates.
    let old = g.D.Disk.view c.args.disk.now in
    let first = g.D.Disk.view c.read_epoch.new.disk in
    still_same old (g.D.Disk.view c.replay_segment.new.disk) (c.requires.rest honest) gates
    (reads_then old first _ (c.read_epoch.ensures.reads_only honest)
    (c.replay_segment.ensures.reads_only honest)).time

pub returns-in_err-kernel-2-clause-damaged : goal.returns-in_err-kernel-2-clause-damaged
returns-in_err-kernel-2-clause-damaged g c = λ honest reported.
    let p = err_from_is_err_and c.from_residual-in_err-kernel-2.result c.from_residual-in_err-kernel-2.ensures.1 in
    absurd (memory_no_damage c.from_residual-in_err-kernel-2.result (p.1 ∙ ap Err p.2) reported)

pub returns-in_err-kernel-2-clause-faults : goal.returns-in_err-kernel-2-clause-faults
returns-in_err-kernel-2-clause-faults g c =
    let p = err_from_is_err_and c.from_residual-in_err-kernel-2.result c.from_residual-in_err-kernel-2.ensures.1 in
    of_memory c.from_residual-in_err-kernel-2.result (p.1 ∙ ap Err p.2)

pub returns-in_err-kernel-2-clause-opened : goal.returns-in_err-kernel-2-clause-opened
returns-in_err-kernel-2-clause-opened g c = λ honest.
    let p = err_from_is_err_and c.from_residual-in_err-kernel-2.result c.from_residual-in_err-kernel-2.ensures.1 in
    opens_nothing _ _ c.from_residual-in_err-kernel-2.result _ (p.1 ∙ ap Err p.2)
    (reads_then _ _ _ (c.read_epoch.ensures.reads_only honest) (c.replay_segment.ensures.reads_only honest))

pub returns-in_err-kernel-2-clause-failures : goal.returns-in_err-kernel-2-clause-failures
returns-in_err-kernel-2-clause-failures g c =
    let p = err_from_is_err_and c.from_residual-in_err-kernel-2.result c.from_residual-in_err-kernel-2.ensures.1 in
    counts_memory _ _ c.from_residual-in_err-kernel-2.result (p.1 ∙ ap Err p.2) (c.in_ok-kernel.ensures.failures.quiet ∙ c.in_ok-base.ensures.failures.quiet)

-- the image is written

pub returns-in_err-kernel-3-clause-any_moment : goal.returns-in_err-kernel-3-clause-any_moment
returns-in_err-kernel-3-clause-any_moment g c = λ honest gates.
    let e = c.args.epoch in
    let old = g.D.Disk.view c.args.disk.now in
    let first = g.D.Disk.view c.read_epoch.new.disk in
    let mid = g.D.Disk.view c.replay_segment.new.disk in
    let read = c.in_ok-base in
    let next = c.in_ok-kernel in
    let image = c.in_ok-base-2.image in
    let content = open_image (e + 1) (image_encoding read.base) in
    let replays =
    subst (λ (d : Slots). ReplaysAll (e + 1) (slot_of d (segment_slot (e + 1))) read.base next.kernel next.records
    next.end) (read.ensures.reads_only honest).seen (rw c.in_ok-base-2.ensures.base at next.ensures.state honest) in
    let parts =
    next_parts old.seen e content read.base next.kernel read.field-0-1 read.field-0-2 next.records next.end
    (c.requires.used honest) (read.ensures.read honest) replays c.in_ok-base-2.ensures.holds in
    let reads =
    reads_then old first mid (c.read_epoch.ensures.reads_only honest) (c.replay_segment.ensures.reads_only honest) in
    next_image_same old mid (g.D.Disk.view c.write_after.new.disk) e read.base next.kernel image next.records next.end
    c.in_ok-base-2.ensures.image (c.requires.rest honest) gates reads.time reads.seen parts
    (c.write_after.ensures.any_moment honest)

pub returns-in_err-kernel-3-clause-damaged : goal.returns-in_err-kernel-3-clause-damaged
returns-in_err-kernel-3-clause-damaged g c = λ honest reported.
    let p = err_from_is_err_and c.from_residual-in_err-kernel-3.result c.from_residual-in_err-kernel-3.ensures.1 in
    absurd (device_no_damage c.from_residual-in_err-kernel-3.result (p.1 ∙ ap Err p.2) reported)

pub returns-in_err-kernel-3-clause-faults : goal.returns-in_err-kernel-3-clause-faults
returns-in_err-kernel-3-clause-faults g c =
    let p = err_from_is_err_and c.from_residual-in_err-kernel-3.result c.from_residual-in_err-kernel-3.ensures.1 in
    of_device c.from_residual-in_err-kernel-3.result (p.1 ∙ ap Err p.2)

pub returns-in_err-kernel-3-clause-opened : goal.returns-in_err-kernel-3-clause-opened
returns-in_err-kernel-3-clause-opened g c = λ honest.
    let p = err_from_is_err_and c.from_residual-in_err-kernel-3.result c.from_residual-in_err-kernel-3.ensures.1 in
    opens_device _ _ c.from_residual-in_err-kernel-3.result (p.1 ∙ ap Err p.2)

pub returns-in_err-kernel-3-clause-failures : goal.returns-in_err-kernel-3-clause-failures
returns-in_err-kernel-3-clause-failures g c =
    let p = err_from_is_err_and c.from_residual-in_err-kernel-3.result c.from_residual-in_err-kernel-3.ensures.1 in
    counts_device _ _ c.from_residual-in_err-kernel-3.result (p.1 ∙ ap Err p.2)
    (c.in_err-kernel-3.ensures.failures.err ∙ ap one_more (c.in_ok-kernel.ensures.failures.quiet ∙ c.in_ok-base.ensures.failures.quiet))

-- the segment is ended

pub end_store-requires-clause-fits : goal.end_store-requires-clause-fits
end_store-requires-clause-fits g c =
    upgrade_fits c.in_ok-kernel.version (c.args.epoch + 1) c.in_ok-kernel.kernel c.in_ok-kernel-2.upgrade
    c.in_ok-kernel-3.upgrade (ap (λ r. r.1) c.in_ok-kernel-3.ensures.value) c.in_ok-kernel-2.ensures.upgrade

pub end_store-requires-clause-read : goal.end_store-requires-clause-read
end_store-requires-clause-read g c = λ honest.
    let e = c.args.epoch in
    let old = g.D.Disk.view c.args.disk.now in
    let first = g.D.Disk.view c.read_epoch.new.disk in
    let mid = g.D.Disk.view c.replay_segment.new.disk in
    let read = c.in_ok-base in
    let next = c.in_ok-kernel in
    let image = c.in_ok-base-2.image in
    let content = open_image (e + 1) (image_encoding read.base) in
    let replays =
    subst (λ (d : Slots). ReplaysAll (e + 1) (slot_of d (segment_slot (e + 1))) read.base next.kernel next.records
    next.end) (read.ensures.reads_only honest).seen (rw c.in_ok-base-2.ensures.base at next.ensures.state honest) in
    let parts =
    next_parts old.seen e content read.base next.kernel read.field-0-1 read.field-0-2 next.records next.end
    (c.requires.used honest) (read.ensures.read honest) replays c.in_ok-base-2.ensures.holds in
    let reads =
    reads_then old first mid (c.read_epoch.ensures.reads_only honest) (c.replay_segment.ensures.reads_only honest) in
    let written = g.D.Disk.view c.write_after.new.disk in
    let rest =
    rested_after_image old mid written e read.base image c.in_ok-base-2.ensures.image
    (c.requires.rest honest) reads.time reads.seen (c.write_after.ensures.any_moment honest)
    (c.in_ok-kernel-3.ensures.made honest) (c.in_ok-kernel-3.ensures.synced honest) in
    to_end written (e + 1) next.kernel c.in_ok-kernel-3.kernel next.records next.end next.version
    c.in_ok-kernel-2.upgrade c.in_ok-kernel-3.upgrade
    (ap (λ r. r.0) c.in_ok-kernel-3.ensures.value ∙ c.in_ok-kernel-2.ensures.base)
    (ap (λ r. r.1) c.in_ok-kernel-3.ensures.value) rest
    (next_read old mid written e read.base next.kernel image next.records next.end c.in_ok-base-2.ensures.image
    reads.seen parts (c.in_ok-kernel-3.ensures.made honest))
    (next_says old mid written e read.base image next.version c.in_ok-base-2.ensures.image reads.seen
    (c.in_ok-kernel-3.ensures.made honest)
    (subst (λ (s : Slots). version_of (slot_of s (segment_slot (e + 1))) ≡ version_number next.version)
    (read.ensures.reads_only honest).seen (next.ensures.says honest))) c.in_ok-kernel-2.ensures.upgrade

pub returns-in_err-kernel-4-clause-any_moment : goal.returns-in_err-kernel-4-clause-any_moment
returns-in_err-kernel-4-clause-any_moment g c = λ honest gates.
    let e = c.args.epoch in
    let old = g.D.Disk.view c.args.disk.now in
    let first = g.D.Disk.view c.read_epoch.new.disk in
    let mid = g.D.Disk.view c.replay_segment.new.disk in
    let read = c.in_ok-base in
    let next = c.in_ok-kernel in
    let image = c.in_ok-base-2.image in
    let content = open_image (e + 1) (image_encoding read.base) in
    let replays =
    subst (λ (d : Slots). ReplaysAll (e + 1) (slot_of d (segment_slot (e + 1))) read.base next.kernel next.records
    next.end) (read.ensures.reads_only honest).seen (rw c.in_ok-base-2.ensures.base at next.ensures.state honest) in
    let parts =
    next_parts old.seen e content read.base next.kernel read.field-0-1 read.field-0-2 next.records next.end
    (c.requires.used honest) (read.ensures.read honest) replays c.in_ok-base-2.ensures.holds in
    let reads =
    reads_then old first mid (c.read_epoch.ensures.reads_only honest) (c.replay_segment.ensures.reads_only honest) in
    next_end_same old mid (g.D.Disk.view c.write_after.new.disk)
    (g.D.Disk.view c.end_store.new.disk) e read.base next.kernel image next.records next.end
    c.in_ok-base-2.ensures.image (c.requires.rest honest) gates
    reads.time reads.seen parts (c.write_after.ensures.any_moment honest) (c.in_ok-kernel-3.ensures.made honest)
    (c.end_store.ensures.any_moment honest)

pub returns-in_err-kernel-4-clause-damaged : goal.returns-in_err-kernel-4-clause-damaged
returns-in_err-kernel-4-clause-damaged g c = λ honest reported.
    let p = err_from_is_err_and c.from_residual-in_err-kernel-4.result c.from_residual-in_err-kernel-4.ensures.1 in
    absurd (device_no_damage c.from_residual-in_err-kernel-4.result (p.1 ∙ ap Err p.2) reported)

pub returns-in_err-kernel-4-clause-faults : goal.returns-in_err-kernel-4-clause-faults
returns-in_err-kernel-4-clause-faults g c =
    let p = err_from_is_err_and c.from_residual-in_err-kernel-4.result c.from_residual-in_err-kernel-4.ensures.1 in
    of_device c.from_residual-in_err-kernel-4.result (p.1 ∙ ap Err p.2)

pub returns-in_err-kernel-4-clause-opened : goal.returns-in_err-kernel-4-clause-opened
returns-in_err-kernel-4-clause-opened g c = λ honest.
    let p = err_from_is_err_and c.from_residual-in_err-kernel-4.result c.from_residual-in_err-kernel-4.ensures.1 in
    opens_device _ _ c.from_residual-in_err-kernel-4.result (p.1 ∙ ap Err p.2)

pub returns-in_err-kernel-4-clause-failures : goal.returns-in_err-kernel-4-clause-failures
returns-in_err-kernel-4-clause-failures g c =
    let p = err_from_is_err_and c.from_residual-in_err-kernel-4.result c.from_residual-in_err-kernel-4.ensures.1 in
    counts_device _ _ c.from_residual-in_err-kernel-4.result (p.1 ∙ ap Err p.2)
    (c.in_err-kernel-4.ensures.failures.err ∙ ap one_more (c.in_ok-kernel-3.ensures.failures.ok ∙ (c.in_ok-kernel.ensures.failures.quiet ∙ c.in_ok-base.ensures.failures.quiet)))

pub returns-clause-any_moment : goal.returns-clause-any_moment
returns-clause-any_moment g c = λ honest gates.
    let e = c.args.epoch in
    let old = g.D.Disk.view c.args.disk.now in
    let first = g.D.Disk.view c.read_epoch.new.disk in
    let mid = g.D.Disk.view c.replay_segment.new.disk in
    let read = c.in_ok-base in
    let next = c.in_ok-kernel in
    let image = c.in_ok-base-2.image in
    let content = open_image (e + 1) (image_encoding read.base) in
    let replays =
    subst (λ (d : Slots). ReplaysAll (e + 1) (slot_of d (segment_slot (e + 1))) read.base next.kernel next.records
    next.end) (read.ensures.reads_only honest).seen (rw c.in_ok-base-2.ensures.base at next.ensures.state honest) in
    let parts =
    next_parts old.seen e content read.base next.kernel read.field-0-1 read.field-0-2 next.records next.end
    (c.requires.used honest) (read.ensures.read honest) replays c.in_ok-base-2.ensures.holds in
    let reads =
    reads_then old first mid (c.read_epoch.ensures.reads_only honest) (c.replay_segment.ensures.reads_only honest) in
    next_end_same old mid (g.D.Disk.view c.write_after.new.disk)
    (g.D.Disk.view c.end_store.new.disk) e read.base next.kernel image next.records next.end
    c.in_ok-base-2.ensures.image (c.requires.rest honest) gates
    reads.time reads.seen parts (c.write_after.ensures.any_moment honest) (c.in_ok-kernel-3.ensures.made honest)
    (c.end_store.ensures.any_moment honest)

pub returns-clause-opened : goal.returns-clause-opened
returns-clause-opened g c = λ honest.
    let e = c.args.epoch in
    let old = g.D.Disk.view c.args.disk.now in
    let first = g.D.Disk.view c.read_epoch.new.disk in
    let mid = g.D.Disk.view c.replay_segment.new.disk in
    let read = c.in_ok-base in
    let next = c.in_ok-kernel in
    let image = c.in_ok-base-2.image in
    let content = open_image (e + 1) (image_encoding read.base) in
    let replays =
    subst (λ (d : Slots). ReplaysAll (e + 1) (slot_of d (segment_slot (e + 1))) read.base next.kernel next.records
    next.end) (read.ensures.reads_only honest).seen (rw c.in_ok-base-2.ensures.base at next.ensures.state honest) in
    let parts =
    next_parts old.seen e content read.base next.kernel read.field-0-1 read.field-0-2 next.records next.end
    (c.requires.used honest) (read.ensures.read honest) replays c.in_ok-base-2.ensures.holds in
    let reads =
    reads_then old first mid (c.read_epoch.ensures.reads_only honest) (c.replay_segment.ensures.reads_only honest) in
    let new = g.D.Disk.view c.end_store.new.disk in
    let last = c.in_ok-kernel-4 in
    opens_as old new last.kernel last.segment
    (subst (λ (k : State). Recovered (as_written old.seen) k)
    (sym (last.ensures.same ∙ ap (λ r. r.0) c.in_ok-kernel-3.ensures.value ∙ c.in_ok-kernel-2.ensures.base))
    (next_found old.seen e content next.kernel next.records next.end parts))
    (inr (inr (
      e,
      c.requires.used honest,
      continues old.seen (e + 1) last.segment.epoch next.version next.kernel c.in_ok-kernel-2.upgrade
          (subst (λ (d : Slots). version_of (slot_of d (segment_slot (e + 1))) ≡ version_number next.version)
          (read.ensures.reads_only honest).seen (next.ensures.says honest)) c.in_ok-kernel-2.ensures.upgrade
          (last.ensures.epoch
          ∙ ap (λ (o : Option ImageValue). upgraded_epoch (e + 1) o) (ap (λ r. r.1) c.in_ok-kernel-3.ensures.value)),
    )))
    (subst (λ (k : State). IsKept new last.segment k) (sym last.ensures.same) (last.ensures.kept honest))

pub returns-clause-failures : goal.returns-clause-failures
returns-clause-failures g c =
    counts_ok _ _ _ (c.in_ok-kernel-4.ensures.failures.ok ∙ (c.in_ok-kernel-3.ensures.failures.ok
    ∙ (c.in_ok-kernel.ensures.failures.quiet ∙ c.in_ok-base.ensures.failures.quiet)))
