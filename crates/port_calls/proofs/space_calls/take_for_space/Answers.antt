use Rattle.std.proofs.Common.{arith}
use Rattle.rights.specs.Keeping.{spaces_counted}
use Rattle.port_calls.proofs.space_calls.take_for_space.Goals as goal

pub returns-clause-room : goal.returns-clause-room
returns-clause-room c =
    let same =
    spaces_counted c.args.state.now.current c.args.space c.args.name _ _ _ c.take_right.new.state.current _
    c.in_ok-right.ensures.taken in
    omega (arith, same)
