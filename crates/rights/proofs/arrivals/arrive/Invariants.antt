use Rattle.std.proofs.Common.{◌≡◌, length, is_some, true}
use Rattle.std.specs.FinMap as finmap
use Rattle.ipc_model.specs.calls.PortCalls.{names_in}
use Rattle.ipc_model.specs.state.Ipc.{with_names}
use Rattle.rights.proofs.OnTheWay.{OnTheWay}
use Rattle.rights.proofs.arrivals.arrive.Given as goal

abbrev pub decreases-loop-right : goal.decreases-loop-right
decreases-loop-right l = length l.rest

-- some rights have arrived, and the rest has not
abbrev pub invariant-loop-right : goal.invariant-loop-right
invariant-loop-right l =
    OnTheWay (names_in l.fn.state.current l.space)
    (names_in l.state.current l.space) l.rights l.rest l.wanted l.left l.given.items
    × (l.state.current ≡ with_names l.fn.state.current l.space (names_in l.state.current l.space))
    × (is_some (finmap.get l.state.current.spaces l.space) ≡ true)
    × (l.state.before ≡ l.fn.state.before)
