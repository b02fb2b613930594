use Rattle.std.proofs.Common.{◌≡◌, drop}
use Rattle.inspect.specs.text.Walking.{ports_seen}
use Rattle.inspect.proofs.text.walk.see_ports.Given as goal

-- passing the rest from here gives the same as passing all from the start
abbrev pub invariant-loop-port : goal.invariant-loop-port
invariant-loop-port g l =
    ports_seen g.V.Visitor.seen (drop l.port-index l.ports) (g.V.Visitor.view l.visitor)
    ≡ ports_seen g.V.Visitor.seen l.fn.ports (g.V.Visitor.view l.fn.visitor)
