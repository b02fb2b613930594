use Rattle.std.proofs.Common.{◌≡◌, map, take}
use Rattle.ports.specs.Passed.{lives_in, seen_right}
use Rattle.ipc_state.proofs.copying.rights_as_seen.Given as goal

-- the rights copied so far
abbrev pub invariant-loop-right : goal.invariant-loop-right
invariant-loop-right l = l.seen.items ≡ map (seen_right (lives_in l.ports.current.ports)) (take l.right-index l.rights)
