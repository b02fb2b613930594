use Rattle.std.proofs.Common.{◌-◌, ◌^◌, subst, arith}
use Rattle.live_ports.specs.NextPort.{IsNextPort, next_below, next_seen}
use Rattle.live_ports.specs.PortTable.{TrackedPorts}
use Rattle.live_ports.specs.Tables.{present_ports}
use Rattle.live_ports.proofs.ports.LivePorts.next_port.Goals as goal

pub returns-clause-next : goal.returns-clause-next
returns-clause-next c =
    subst (λ (t : TrackedPorts). IsNextPort t.current.ports c.args.from c.next_port.result) c.self.view_is
    (next_seen (present_ports c.self.inside.tables.slots) c.args.from
    (λ serial port is. omega (arith, (c.self.invariant.current.below serial port is).within)) c.next_port.result
    c.next_port.ensures)

pub returns-clause-fits : goal.returns-clause-fits
returns-clause-fits c =
    next_below (present_ports c.self.inside.tables.slots) c.args.from (2 ^ 64 - 1)
    (λ serial port is. omega (arith, (c.self.invariant.current.below serial port is).within)) c.next_port.result
    c.next_port.ensures
