use Rattle.std.proofs.Common.{◌≡◌, find, drop}
use Rattle.ipc_model.specs.calls.PortCalls.{names_in}
use Rattle.receiving.specs.Shows.{arguments_of}
use Rattle.receiving.specs.Sources.{gives}
use Rattle.receiving.proofs.source.first.Given as goal

-- searching the remaining members gives the same as searching all
abbrev pub invariant-loop-member : goal.invariant-loop-member
invariant-loop-member l =
    find (gives l.state.current (names_in l.state.current l.space) (arguments_of l.asked) l.preference) l.members
    ≡ find (gives l.state.current (names_in l.state.current l.space) (arguments_of l.asked) l.preference)
    (drop l.member-index l.members)
