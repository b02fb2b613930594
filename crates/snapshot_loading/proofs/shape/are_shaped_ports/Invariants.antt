use Rattle.std.proofs.Common.{All, take}
use Rattle.snapshot_loading.specs.Shaped.{IsShapedPort}
use Rattle.snapshot_loading.proofs.shape.are_shaped_ports.Given as goal

abbrev pub invariant-loop-port : goal.invariant-loop-port
invariant-loop-port l = All (IsShapedPort l.next) (take l.port-index l.ports)
