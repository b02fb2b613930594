use Rattle.std.proofs.Common.{◌≡◌, ◌++◌, map, drop}
use Rattle.ipc_model.specs.calls.PortCalls.{names_in}
use Rattle.ipc_model.specs.state.Ipc.{members_of}
use Rattle.port_set.proofs.member.members.Given as goal

-- the names so far, followed by the remaining ones, are all names
abbrev pub invariant-loop-name : goal.invariant-loop-name
invariant-loop-name l =
    l.members.items ++ map (λ m. m.0) (drop l.name-index l.name-items)
    ≡ members_of l.state.current (names_in l.state.current l.space) l.set
