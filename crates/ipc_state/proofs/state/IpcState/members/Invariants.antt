use Rattle.std.proofs.Common.{◌≡◌, ◌++◌, ◌≤◌, ◌-◌, ◌^◌, flat_map}
use Rattle.std.specs.FinMap.{entries}
use Rattle.ipc_model.specs.calls.PortCalls.{names_in}
use Rattle.ipc_state.specs.SetNames.{member_under, members_from}
use Rattle.ipc_state.proofs.state.IpcState.members.Given as goal

abbrev pub decreases-loop-name : goal.decreases-loop-name
decreases-loop-name l = 2 ^ 33 - l.from

-- the members so far, followed by the remaining ones, are all members
abbrev pub invariant-loop-name : goal.invariant-loop-name
invariant-loop-name l = record {
  gathered : l.members.items ++ members_from l.self.current l.set (names_in l.self.current l.space) l.from
      ≡ flat_map (member_under l.self.current l.set) (entries (names_in l.self.current l.space));
  fits : l.from ≤ 2 ^ 32;
}
