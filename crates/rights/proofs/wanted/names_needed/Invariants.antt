use Rattle.std.proofs.Common.{◌≡◌, ◌+◌, ◌≤◌, [], take, drop}
use Rattle.ipc_model.specs.rights.CopyOut.{names_needed}
use Rattle.ipc_model.specs.calls.PortCalls.{names_in}
use Rattle.rights.specs.Wanting.{named_after}
use Rattle.rights.proofs.wanted.names_needed.Given as goal

abbrev pub invariant-loop-index : goal.invariant-loop-index
invariant-loop-index l = record {
  few : l.wanted ≤ l.index;
  rest : l.wanted + names_needed (names_in l.state.current l.space) (named_after [] (take l.index l.rights))
      (drop l.index l.rights) ≡ names_needed (names_in l.state.current l.space) [] l.rights;
}
