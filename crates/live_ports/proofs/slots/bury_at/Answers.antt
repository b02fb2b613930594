use Rattle.live_ports.specs.Tables.{buried}
use Rattle.live_ports.proofs.Written.{written, not_there}
use Rattle.live_ports.proofs.slots.bury_at.Goals as goal

pub returns-in-Some : goal.returns-in-Some
returns-in-Some c =
    written buried c.args.ports.now c.args.key c.in-Some.port.now c.bury.new.self c.in-Some.ensures.value c.bury.ensures

pub returns-in_default : goal.returns-in_default
returns-in_default c = not_there buried c.args.ports.now c.args.key c.in_default.ensures.value
