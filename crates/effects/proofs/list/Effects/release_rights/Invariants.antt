use Rattle.std.proofs.Common.{◌≡◌, ◌++◌, flat_map, take}
use Rattle.ipc_model.specs.effects.Effects as machine
use Rattle.effects.proofs.list.Effects.release_rights.Given as goal

abbrev pub invariant-loop-right : goal.invariant-loop-right
invariant-loop-right l = l.self ≡ l.initial.self ++ flat_map machine.release_of (take l.right-index l.rights)
