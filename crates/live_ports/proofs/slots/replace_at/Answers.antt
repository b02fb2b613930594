use Rattle.live_ports.specs.PortSlot.{PortSlot}
use Rattle.live_ports.proofs.Written.{written, not_there}
use Rattle.live_ports.proofs.slots.replace_at.Goals as goal

pub returns-in-Some : goal.returns-in-Some
returns-in-Some c =
    written (λ (old : PortSlot). c.args.new) c.args.ports.now c.args.key c.in-Some.port.now c.replace.new.dest
    c.in-Some.ensures.value c.replace.ensures.after

pub returns-in-None : goal.returns-in-None
returns-in-None c = not_there (λ (old : PortSlot). c.args.new) c.args.ports.now c.args.key c.in-None.ensures.value
