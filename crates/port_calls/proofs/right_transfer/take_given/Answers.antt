use Rattle.std.proofs.Common.{subst}
use Rattle.std.specs.Prelude.{Option}
use Rattle.ipc_model.specs.declared.message.CarriedRight.{CarriedRight}
use Rattle.ipc_model.specs.rights.CopyIn.{copy_in}
use Rattle.rights.specs.Keeping.{copy_in_keeps}
use Rattle.rights.specs.Taking.{Takes}
use Rattle.port_calls.proofs.Handed.{taken_is}
use Rattle.port_calls.proofs.right_transfer.take_given.Goals as goal

pub returns-clause-there : goal.returns-clause-there
returns-clause-there c =
    let old = c.args.state.now.current in
    let new = c.take_right.new.state.current in
    let after = c.take_right.new.effects in
    let by = c.args.disposition in
    let took =
    subst (λ (o : Option CarriedRight). Takes
    (copy_in old c.args.space c.args.name by) old c.args.effects.now o new after) c.in-Some.is
    c.in_ok-right.ensures.taken in
    let is =
    taken_is (copy_in old c.args.space c.args.name by) old new c.args.effects.now after c.in-Some.right
    c.requires.none took in
    copy_in_keeps old c.args.space c.args.name by
    (record { right = c.in-Some.right; state = new; notices = after }) c.requires.there is
