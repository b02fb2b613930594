use Rattle.live_ports.specs.Changed.{with_numbers}
use Rattle.live_ports.specs.Tables.{present_changed}
use Rattle.live_ports.proofs.Written.{written, not_there}
use Rattle.live_ports.proofs.slots.set_numbers_at.Goals as goal

pub returns-in-Some : goal.returns-in-Some
returns-in-Some c =
    written (present_changed (with_numbers c.args.numbers)) c.args.ports.now c.args.key c.in-Some.port.now
    c.set_numbers.new.self c.in-Some.ensures.value c.set_numbers.ensures

pub returns-in_default : goal.returns-in_default
returns-in_default c =
    not_there (present_changed (with_numbers c.args.numbers)) c.args.ports.now c.args.key c.in_default.ensures.value
