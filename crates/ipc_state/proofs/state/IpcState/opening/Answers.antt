use Rattle.std.proofs.Common.{ap, ◌∙◌, arith}
use Rattle.std.specs.Ordering.{nat_cmp}
use Rattle.std.specs.FinMap.{get, len, get-empty, len-empty}
use Rattle.ipc_model.specs.state.Ipc.{Names}
use Rattle.ipc_state.specs.Running.{Running}
use Rattle.ipc_state.proofs.state.IpcState.opening.Goals as goal

pub add_space-requires-clause-unused : goal.add_space-requires-clause-unused
add_space-requires-clause-unused c =
    ap (λ (r : Running). get r.current.spaces 1) c.new-state.ensures ∙ get-empty nat_cmp 1

pub add_space-requires-clause-room : goal.add_space-requires-clause-room
add_space-requires-clause-room c =
    let none = ap (λ (r : Running). len r.current.spaces) c.new-state.ensures ∙ len-empty nat_cmp Names in
    omega (arith, none)
