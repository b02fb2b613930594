use Rattle.std.proofs.Common.{◌≡◌, true, Option, sym, ◌∙◌, subst}
use Rattle.std.proofs.lemmas.Bool.{ne_eqb}
use Rattle.ipc_model.specs.rights.CopyIn.{copy_in}
use Rattle.ipc_model.specs.declared.message.CarriedRight.{CarriedRight}
use Rattle.ipc_model.specs.calls.PortCalls.{is_variant}
use Rattle.rights.specs.Taking.{Takes}
use Rattle.port_calls.proofs.Asking.{copied_tests}
use Rattle.port_calls.proofs.requests.take_target.Goals as goal

pub returns-in-Some-refusal_of_request-clause-refused : goal.returns-in-Some-refusal_of_request-clause-refused
returns-in-Some-refusal_of_request-clause-refused c =
    let by = c.in-Some-notify_disposition.disposition in
    let known : is_variant c.args.asked.variant ≡ true = sym c.is_variant.ensures ∙ c.if-not-is_variant.false in
    copied_tests c.args.state.now.current c.args.space c.args.asked.name c.args.asked.variant c.args.asked.sync
    c.args.asked.notify c.args.asked.disposition by c.in-Some-2.right c.in-Live.port c.args.effects.now
    c.take_right.new.effects c.take_right.new.state.current
    known (ne_eqb c.args.asked.notify 0 c.if-asked-eq-MACH_PORT_NULL.false)
    (sym c.notify_disposition.ensures ∙ c.in-Some-notify_disposition.is) c.in-Live.is
    (subst (λ (o : Option CarriedRight). Takes
    (copy_in c.args.state.now.current c.args.space c.args.asked.notify by) c.args.state.now.current
    c.args.effects.now o c.take_right.new.state.current c.take_right.new.effects) c.in-Some-2.is
    c.in_ok-right.ensures.taken)
    ∙ (sym c.refusal_of_request-2.ensures ∙ c.in-Some-refusal_of_request.is)
