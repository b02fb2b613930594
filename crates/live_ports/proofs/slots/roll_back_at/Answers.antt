use Rattle.live_ports.specs.Tables.{rolled_back_slot}
use Rattle.live_ports.proofs.Written.{written, not_there}
use Rattle.live_ports.proofs.slots.roll_back_at.Goals as goal

pub returns-in-Some : goal.returns-in-Some
returns-in-Some c =
    written rolled_back_slot c.args.ports.now c.args.key c.in-Some.port.now c.roll_back.new.self c.in-Some.ensures.value
    c.roll_back.ensures

pub returns-in_default : goal.returns-in_default
returns-in_default c = not_there rolled_back_slot c.args.ports.now c.args.key c.in_default.ensures.value
