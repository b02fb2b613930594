use Rattle.std.proofs.Common.{ℕ, List, ◌++◌, length, take, ap, subst, ◌∙◌, arith}
use Rattle.disk.specs.Slots.{slot_of, with_slot}
use Rattle.disk.specs.Moments.{CountsFailure}
use Rattle.slot_steps.proofs.Following.{closed_then}
use Rattle.slot_steps.proofs.Lengths.{always, cut_length, own_of, segment_written}
use Rattle.journal.proofs.roll.write_header.Goals as goal

pub returns-clause-header : goal.returns-clause-header
returns-clause-header g c = λ honest.
    let old = (g.D.Disk.view c.args.disk.now).seen in
    let written =
    segment_written c.args.slot old (g.D.Disk.view c.cut_after.new.disk).seen
    (g.D.Disk.view c.write_after.new.disk).seen
    (g.D.Disk.view c.sync_after.new.disk).seen c.segment_start.result (c.requires honest)
    (c.in_ok-cut_after.ensures.cut honest) (c.in_ok-write_after.ensures.written honest)
    (c.sync_after.ensures.seen honest) in
    always c.sync_after.result (written ∙ ap
    (λ (start : List ℕ). with_slot old c.args.slot (take 1 (slot_of old c.args.slot) ++ start))
    c.segment_start.ensures)

pub returns-clause-any_moment : goal.returns-clause-any_moment
returns-clause-any_moment g c = λ honest shut.
    let slot = c.args.slot in
    let old = g.D.Disk.view c.args.disk.now in
    let cut = g.D.Disk.view c.cut_after.new.disk in
    let written = g.D.Disk.view c.write_after.new.disk in
    let shut_cut = c.in_ok-cut_after.ensures.shut honest shut in
    closed_then slot old written (g.D.Disk.view c.sync_after.new.disk)
    (closed_then slot old cut written (c.cut_after.ensures.any_moment honest shut)
    (c.write_after.ensures.any_moment honest shut_cut))
    (c.sync_after.ensures.any_moment honest (c.in_ok-write_after.ensures.shut honest shut_cut))

pub returns-clause-synced : goal.returns-clause-synced
returns-clause-synced g c = c.sync_after.ensures.synced

pub write_after-requires-clause-inside : goal.write_after-requires-clause-inside
write_after-requires-clause-inside g c = λ honest.
    let old = (g.D.Disk.view c.args.disk.now).seen in
    let gate = take 1 (slot_of old c.args.slot) in
    omega (
      arith,
      ap length (own_of c.args.slot old (g.D.Disk.view c.cut_after.new.disk).seen gate
          (c.in_ok-cut_after.ensures.cut honest)),
      cut_length (slot_of old c.args.slot) 1 (c.requires honest),
    )

pub returns-in_err-cut_after-clause-any_moment : goal.returns-in_err-cut_after-clause-any_moment
returns-in_err-cut_after-clause-any_moment g c = c.cut_after.ensures.any_moment

pub returns-in_err-write_after-clause-any_moment : goal.returns-in_err-write_after-clause-any_moment
returns-in_err-write_after-clause-any_moment g c = λ honest shut.
    closed_then c.args.slot (g.D.Disk.view c.args.disk.now) (g.D.Disk.view c.cut_after.new.disk)
    (g.D.Disk.view c.write_after.new.disk)
    (c.cut_after.ensures.any_moment honest shut)
    (c.write_after.ensures.any_moment honest (c.in_ok-cut_after.ensures.shut honest shut))

pub returns-clause-failures : goal.returns-clause-failures
returns-clause-failures g c =
    subst (λ (n : ℕ). CountsFailure n (g.D.Disk.failed_calls c.sync_after.new.disk) c.sync_after.result)
    (c.in_ok-write_after.ensures.failures.ok ∙ c.in_ok-cut_after.ensures.failures.ok) c.sync_after.ensures.failures
