use Rattle.std.proofs.Common.{rules}
use Rattle.kernel.specs.Choosing.{prefers_closed, gives_up_closed}
use Rattle.kernel.specs.Stepping.{of_some}
use Rattle.kernel.specs.Trials.{acted}
use Rattle.kernel.proofs.stepping.try_call.Goals as goal

pub returns-in-Some-clause-shown : goal.returns-in-Some-clause-shown
returns-in-Some-clause-shown c =
    let gives = of_some _ c.in_ok-reply.field-0 c.in-Some.reply c.in-Some.is c.in_ok-reply.ensures.gives in
    let tries = of_some _ c.in_ok-reply.field-0 c.in-Some.reply c.in-Some.is c.in_ok-reply.ensures.tries in
    let did =
    acted c.args.state.now.current c.args.space c.args.call.now c.in-Some.reply c.give_rights_up.new.state.current
    c.give_rights_up.new.effects tries in
    prefers_closed c.args.state.now.current c.args.space c.args.call.now c.args.shown.now c.in-Some.reply did.0 did.1
    (gives_up_closed c.args.call.now gives) did.2

pub returns-clause-tries : goal.returns-clause-tries
returns-clause-tries c = search rules

pub returns-clause-shown : goal.returns-clause-shown
returns-clause-shown c = search rules
