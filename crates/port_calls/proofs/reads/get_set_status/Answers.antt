use Rattle.std.proofs.Common.{ℕ, List, ◌∙◌, ap}
use Rattle.ipc_model.specs.calls.PortCalls.{names_in}
use Rattle.ipc_model.specs.declared.plain_reply.PlainReply.TheVariants as reply
use Rattle.port_calls.proofs.Listed.{members_reported}
use Rattle.port_calls.proofs.reads.get_set_status.Goals as goal

pub returns-in_ok-members-in-Some-Set : goal.returns-in_ok-members-in-Some-Set
returns-in_ok-members-in-Some-Set c =
    let old = c.args.state.now.current in
    members_reported old c.args.space (names_in old c.args.space) c.args.name _ c.in-Some-Set.ensures.found.0
    (cc (c.in-Some-Set.ensures.found.1, c.in-Some-Set.field-0-is))
    (ap (λ (l : List ℕ). reply.SetStatus l) (c.new.ensures ∙ c.in_ok-members-in-Some-Set.ensures))
