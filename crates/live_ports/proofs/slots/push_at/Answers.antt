use Rattle.live_ports.specs.Changed.{with_message}
use Rattle.live_ports.specs.Tables.{present_changed}
use Rattle.live_ports.proofs.Written.{written, not_there}
use Rattle.live_ports.proofs.slots.push_at.Goals as goal

pub returns-clause-ok : goal.returns-clause-ok
returns-clause-ok c =
    written (present_changed (with_message c.args.message)) c.args.ports.now c.args.key c.in-Some.port.now
    c.push_forced.new.self c.in-Some.ensures.value c.in_ok-push_forced.ensures.ok

pub returns-in_default-clause-ok : goal.returns-in_default-clause-ok
returns-in_default-clause-ok c =
    not_there (present_changed (with_message c.args.message)) c.args.ports.now c.args.key c.in_default.ensures.value
