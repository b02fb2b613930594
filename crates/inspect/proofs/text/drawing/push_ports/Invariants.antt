use Rattle.std.proofs.Common.{◌≡◌, ◌++◌, drop}
use Rattle.inspect.specs.text.Strokes.{ports_drawn}
use Rattle.inspect.proofs.text.drawing.push_ports.Given as goal

-- the drawing so far, followed by the rest, is the whole drawing
abbrev pub invariant-loop-port : goal.invariant-loop-port
invariant-loop-port l =
    l.out.items ++ ports_drawn l.tallies.by_port (drop l.port-index l.ports) ≡ l.fn.out.items
    ++ ports_drawn l.fn.tallies.by_port l.fn.ports
