use Rattle.std.proofs.Common.{◌≡◌, ℕ, List, Some, sym, ◌∙◌, ap}
use Rattle.ipc_model.specs.declared.entry.Entry.{Entry}
use Rattle.ipc_model.specs.declared.port.PortState.{PortState}
use Rattle.ipc_model.specs.calls.Actions.{renamed, serials_of_members, with_ports}
use Rattle.ipc_model.specs.calls.PortCalls.{names_in}
use Rattle.ipc_model.specs.state.Ipc.{Ipc, with_changed}
use Rattle.rights.specs.Passed.{Running, under_other_name}
use Rattle.port_calls.proofs.Moved.{set_renamed}
use Rattle.port_calls.proofs.renaming.move_entry.Goals as goal

pub returns-clause-ok : goal.returns-clause-ok
returns-clause-ok c =
    let state : Ipc = c.args.state.now.current in
    let named : Ipc = with_changed state c.args.space (λ names. under_other_name names c.args.from c.args.to) in
    let into : PortState → PortState = λ port. record port { set = Some c.args.to } in
    let listed : c.as_slice.result.now ≡ serials_of_members state (names_in state c.args.space) c.args.from =
    cc (c.as_slice.ensures.value, c.in_ok-members.ensures) in
    c.in_ok-move_ports.ensures.ok
    ∙ ap (λ (r : Running). with_ports r.current c.as_slice.result.now into) c.in_ok-rename.ensures.ok
    ∙ ap (λ (serials : List ℕ). with_ports named serials into) listed
    ∙ set_renamed state c.args.space c.args.from c.args.to c.requires.there
    (c.requires.named ∙ ap (λ (e : Entry). Some e) c.in-Set.is)
    ∙ ap (renamed state c.args.space (names_in state c.args.space) c.args.from c.args.to) (sym c.in-Set.is)
