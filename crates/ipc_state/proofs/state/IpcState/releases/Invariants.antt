use Rattle.std.proofs.Common.{◌≡◌, ◌++◌, flat_map, take}
use Rattle.ipc_model.specs.effects.Effects.{releases_of}
use Rattle.ports.specs.Passed.{messages_at}
use Rattle.ipc_state.proofs.state.IpcState.releases.Given as goal

-- the releases appended so far
abbrev pub invariant-loop-index : goal.invariant-loop-index
invariant-loop-index l =
    l.effects ≡ l.initial.effects ++ flat_map releases_of (take l.index (messages_at l.self.current.ports l.serial))
