use Rattle.std.proofs.Common.{◌≡◌, ◌++◌, drop}
use Rattle.inspect.specs.text.Rows.{ports_rows}
use Rattle.inspect.proofs.text.listing.push_ports.Given as goal

-- the lines so far, followed by the rest, are all lines
abbrev pub invariant-loop-port : goal.invariant-loop-port
invariant-loop-port l =
    l.out.items ++ ports_rows l.tallies.by_port (drop l.port-index l.ports) ≡ l.fn.out.items
    ++ ports_rows l.fn.tallies.by_port l.fn.ports
