use Rattle.std.proofs.Common.{◌≡◌, ℕ, List, [], ◌∷◌, Option, None, Some, refl, ◌∙◌, ap}
use Rattle.std.specs.FinMap as finmap
use Rattle.ipc_model.specs.calls.Actions.{with_ports}
use Rattle.ipc_model.specs.declared.port.PortState.{PortState}
use Rattle.ipc_model.specs.state.Ipc.{Ipc, with_port}
use Rattle.port_calls.proofs.removal.move_members.Goals as goal

-- a change of a port leaves the names unchanged
port_aside : (state : Ipc) (serial : ℕ) (change : PortState → PortState)
    → (with_port state serial change).spaces ≡ state.spaces
port_aside state serial change =
    elim (finmap.get state.ports serial)
    as (λ (o : Option PortState). (elim o as (λ _. Ipc)
    [ None ↦ state | Some p ↦ record state { ports = finmap.insert state.ports serial (change p) } ]).spaces
    ≡ state.spaces) [
      | None ↦ refl
      | Some p ↦ refl
    ]

ports_aside : (state : Ipc) (serials : List ℕ) (change : PortState → PortState)
    → (with_ports state serials change).spaces ≡ state.spaces
ports_aside state [] change = refl
ports_aside state (serial ∷ serials) change =
    ports_aside (with_port state serial change) serials change ∙ port_aside state serial change

pub returns-clause-spaces : goal.returns-clause-spaces
returns-clause-spaces c =
    ap (λ (s : Ipc). s.spaces) c.in_ok-move_ports.ensures.ok
    ∙ ports_aside c.args.state.now.current c.as_slice.result.now
    (λ (port : PortState). record port { set = c.args.other })
