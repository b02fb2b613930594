use Rattle.live_ports.specs.Changed.{without_first}
use Rattle.live_ports.specs.Tables.{present_changed}
use Rattle.live_ports.proofs.Written.{written, not_there}
use Rattle.live_ports.proofs.slots.take_at.Goals as goal

pub returns-in-Some : goal.returns-in-Some
returns-in-Some c =
    written (present_changed without_first) c.args.ports.now c.args.key c.in-Some.port.now c.take.new.self
    c.in-Some.ensures.value c.take.ensures

pub returns-in_default : goal.returns-in_default
returns-in_default c = not_there (present_changed without_first) c.args.ports.now c.args.key c.in_default.ensures.value
