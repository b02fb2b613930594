use Rattle.std.proofs.Common.{arith}
use Rattle.snapshot_loading.specs.Shaped.{IsShapedPort}
use Rattle.snapshot_loading.specs.AllLaws.{all_looked, one_looked}
use Rattle.snapshot_loading.proofs.shape.are_shaped_ports.Goals as goal

pub loop-port-preserved : goal.loop-port-preserved
loop-port-preserved c =
    one_looked (IsShapedPort c.args.next) c.args.ports.now c.loop-port.port-index c.port-item.result
    (omega (arith, c.loop-port-test.true)) c.loop-port.invariant c.port-item.is
    (c.in_ok-is_shaped_port.ensures.0 c.if-not-branch.false)

pub returns : goal.returns
returns c =
    all_looked (IsShapedPort c.args.next) c.args.ports.now c.loop-port.port-index
    (omega (arith, c.loop-port-test.false)) c.loop-port.invariant
