use Rattle.std.proofs.Common.{◌≡◌, Option, Some, IfErr, ap, subst, ◌∙◌, sym}
use Rattle.codes.specs.declared.kern_return.KernReturn.{KernReturn}
use Rattle.ipc_model.specs.calls.PortCalls.{names_in}
use Rattle.receiving.specs.Shows.{arguments_of}
use Rattle.receiving.specs.SourceLaws.{port_refused}
use Rattle.receiving.specs.Sources.{giver_of}
use Rattle.receiving.proofs.source.find_source.Goals as goal

pub returns-in-Port-clause-refused : goal.returns-in-Port-clause-refused
returns-in-Port-clause-refused c =
    let state = c.args.state.now.current in
    let gives = ap giver_of (sym c.entry.ensures.named) ∙ sym c.giver_by.ensures ∙ c.in-Port.is in
    subst (λ (o : Option KernReturn). IfErr c.from_port.result (λ code. o ≡ Some code))
    (sym (port_refused state (names_in state c.args.space) (arguments_of c.args.asked) c.in-Port.port gives))
    c.from_port.ensures.refused
