use Rattle.live_ports.specs.Tables.{committed_slot}
use Rattle.live_ports.proofs.Written.{written, not_there}
use Rattle.live_ports.proofs.slots.commit_at.Goals as goal

pub returns-in-Some : goal.returns-in-Some
returns-in-Some c =
    written committed_slot c.args.ports.now c.args.key c.in-Some.port.now c.commit.new.self c.in-Some.ensures.value
    c.commit.ensures

pub returns-in_default : goal.returns-in_default
returns-in_default c = not_there committed_slot c.args.ports.now c.args.key c.in_default.ensures.value
