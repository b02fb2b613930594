use Rattle.std.proofs.Common.{◌≡◌, ℕ, ◌-◌, ◌≤◌, ◌<◌, ◌^◌, None}
use Rattle.std.specs.FinMap.{get, remove}
use Rattle.ipc_model.specs.calls.PortCalls.{names_in}
use Rattle.ipc_state.proofs.state.IpcState.remove_space.Given as goal

abbrev pub decreases-loop-name : goal.decreases-loop-name
decreases-loop-name l = 2 ^ 33 - l.at

-- the names below are removed, and nothing besides the space's names has changed
abbrev pub invariant-loop-name : goal.invariant-loop-name
invariant-loop-name l = record {
  gone : (q : ℕ) → q < l.at → get (names_in l.self.current l.number) q ≡ None;
  alongside : record l.self.current { spaces = remove l.self.current.spaces l.number }
      ≡ record l.initial.self.current { spaces = remove l.initial.self.current.spaces l.number };
  before : l.self.before ≡ l.initial.self.before;
  fits : l.at ≤ 2 ^ 32;
}
