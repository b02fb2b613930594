use Rattle.kernel.specs.Copying.{gathered_all, gathered_none, port_more}
use Rattle.snapshot.specs.Rows.{port_row}
use Rattle.kernel.proofs.copying.ports_of.Goals as goal

pub loop-serial-init : goal.loop-serial-init
loop-serial-init c =
    gathered_none port_row c.args.state.now.current.ports c.new-ports.result.items c.new-ports.ensures.items

pub loop-serial-preserved : goal.loop-serial-preserved
loop-serial-preserved c =
    let next = c.in-Some.ensures.next in
    port_more c.args.state.now.current c.loop-serial.ports.items c.push_port.new.ports.items c.loop-serial.at
    c.in-Some.serial next.0 next.1 next.2 c.in_ok-push_port.ensures c.loop-serial.invariant

pub returns : goal.returns
returns c =
    gathered_all port_row c.args.state.now.current.ports c.loop-serial.ports.items c.loop-serial.at
    c.in_default.ensures.next c.loop-serial.invariant
