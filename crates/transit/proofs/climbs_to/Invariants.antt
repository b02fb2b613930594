use Rattle.std.proofs.Common.{◌≡◌, ℕ, ◌+◌}
use Rattle.std.specs.FinMap as map
use Rattle.ipc_model.specs.state.Circular.{meets}
use Rattle.transit.proofs.climbs_to.Given as goal

abbrev pub invariant-loop-hop : goal.invariant-loop-hop
invariant-loop-hop l =
    (left : ℕ) → l._hop + left ≡ map.len l.state.current.ports
    → meets l.state.current (map.len l.state.current.ports) l.port l.queue ≡ meets l.state.current left l.port l.at
