use Rattle.ipc_model.specs.calls.PortCalls.{names_in}
use Rattle.receiving.specs.ReceiveLaws.{of_ok, receives_found, receives_one_answer}
use Rattle.receiving.specs.Shows.{arguments_of}
use Rattle.receiving.proofs.receiving.receive.Goals as goal

pub returns-in_ok-reply-in-Ok-clause-acts : goal.returns-in_ok-reply-in-Ok-clause-acts
returns-in_ok-reply-in-Ok-clause-acts c =
    receives_found c.args.state.now.current c.args.space (names_in c.args.state.now.current c.args.space)
    (arguments_of c.args.asked) c.in-Ok.source.member c.in-Ok.source.port c.in_ok-reply-in-Ok.reply
    c.take_out.new.state.current c.take_out.new.effects
    (of_ok _ c.in_ok-code.field-0 c.in-Ok.source c.in-Ok.is c.in_ok-code.ensures.found) c.in_ok-reply-in-Ok.ensures.acts

pub returns-in_ok-reply-in-Ok-clause-shown : goal.returns-in_ok-reply-in-Ok-clause-shown
returns-in_ok-reply-in-Ok-clause-shown c = λ other last others prefers shows may.
    receives_one_answer c.args.state.now.current c.args.space (names_in c.args.state.now.current c.args.space)
    (arguments_of c.args.asked) c.in-Ok.source.member c.in-Ok.source.port c.args.preference c.in_ok-reply-in-Ok.reply
    c.take_out.new.state.current c.take_out.new.effects
    (of_ok _ c.in_ok-code.field-0 c.in-Ok.source c.in-Ok.is c.in_ok-code.ensures.found)
    (of_ok _ c.in_ok-code.field-0 c.in-Ok.source c.in-Ok.is c.in_ok-code.ensures.preferred)
    c.in_ok-reply-in-Ok.ensures.acts other last others
    (λ port message later live first. c.in_ok-reply-in-Ok.ensures.shown port message later live first other last others
    shows) prefers may
