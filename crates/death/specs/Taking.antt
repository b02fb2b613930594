-- The destination of a released receive right.
use Rattle.std.specs.Prelude.{ℕ, ◌&&◌, not, Option, None, Some, if◌then◌else◌}
use Rattle.ipc_model.specs.state.Circular.{is_circular}
use Rattle.ipc_model.specs.state.Ipc.{Ipc, lives}

-- The target of a port-destroyed request, if it takes the port's receive right along: it is live, and the right would
-- not come back to the port's own queue.
abbrev pub taker : Ipc → ℕ → Option ℕ → Option ℕ
taker state serial None = None
taker state serial (Some target) =
    if lives state target && not (is_circular state serial target) then Some target else None
