use Rattle.std.proofs.Common.{◌≡◌, ◌++◌, map, drop}
use Rattle.rights.specs.Passed.{lives_in, seen_right}
use Rattle.receiving.proofs.looking.push_body.Given as goal

-- the rights before this one are appended
abbrev pub invariant-loop-right : goal.invariant-loop-right
invariant-loop-right l =
    l.rights.items ++ map (seen_right (lives_in l.state.current.ports)) (drop l.right-index l.body) ≡ l.fn.rights.items
    ++ map (seen_right (lives_in l.state.current.ports)) l.body
