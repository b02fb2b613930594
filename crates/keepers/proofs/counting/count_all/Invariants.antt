use Rattle.std.proofs.Common.{◌≡◌, ◌+◌, ◌≤◌, length}
use Rattle.std.specs.Vec.Iter.{into_iter_items}
use Rattle.ipc_model.specs.history.History.{places_of}
use Rattle.keepers.specs.Belonging.{AllBelong, AllCanBelong, tasks_of}
use Rattle.keepers.proofs.counting.count_all.Given as goal

-- what was seen and added so far, with what is left, is the whole
abbrev pub invariant-loop-session : goal.invariant-loop-session
invariant-loop-session g l =
    let rest = into_iter_items l.session-iterator in let all = into_iter_items l.initial.session-iterator in
    (l.past ≡ l.initial.past)
    × (AllBelong g.L.Founding.base l.initial.past.entries l.stored l.last rest
    → AllBelong g.L.Founding.base l.initial.past.entries l.stored 0 all)
    × (l.initial.share.parts + length all ≤ l.share.parts + length rest)
    × (l.share.amount + length (places_of (tasks_of rest)) ≡ l.initial.share.amount + length (places_of (tasks_of all)))
    × (AllCanBelong l.initial.past l.stored 0 all → AllCanBelong l.initial.past l.stored l.last rest)
