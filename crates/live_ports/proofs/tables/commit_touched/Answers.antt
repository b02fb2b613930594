use Rattle.std.proofs.Common.{◌∙◌}
use Rattle.live_ports.specs.Tables.{before_of, current_of, committed_slot}
use Rattle.live_ports.specs.Touched.{is_drained}
use Rattle.live_ports.proofs.Slotted.{none_left, settles_committed}
use Rattle.live_ports.proofs.tables.commit_touched.Goals as goal

pub loop-serial-preserved : goal.loop-serial-preserved
loop-serial-preserved c =
    let done =
    is_drained before_of current_of current_of committed_slot c.loop-serial.slots c.commit_slot.new.slots
    c.loop-serial.rest.now c.in-Some.before.now c.in-Some.serial.now settles_committed c.commit_slot.ensures
    c.in-Some.ensures.cases.0 c.loop-serial.invariant.touched in
    record { seen = done.seen ∙ c.loop-serial.invariant.seen; touched = done.touched }

pub returns-clause-touched : goal.returns-clause-touched
returns-clause-touched c =
    none_left c.loop-serial.slots c.loop-serial.rest.now c.in_default.ensures.cases c.loop-serial.invariant.touched
