-- A renamed set takes its members along. Changing its name first gives the same state.
use Rattle.std.proofs.Common.{◌≡◌, ℕ, List, [], ◌∷◌, Option, None, Some, IsSome, refl, ◌∙◌, ap}
use Rattle.std.specs.FinMap as finmap
use Rattle.ipc_model.specs.declared.entry.Entry.{Entry}
use Rattle.ipc_model.specs.declared.entry.Entry.TheVariants.{Set}
use Rattle.ipc_model.specs.declared.port.PortState.{PortState}
use Rattle.ipc_model.specs.calls.Actions.{renamed, serials_of_members, with_ports}
use Rattle.ipc_model.specs.calls.PortCalls.{names_in}
use Rattle.ipc_model.specs.state.Ipc.{Ipc, Names, with_changed, with_names, with_port}
use Rattle.rights.specs.Passed.{changed_there, under_other_name}

port_alongside : (state : Ipc) (space : ℕ) (names : Names) (serial : ℕ) (change : PortState → PortState)
    → with_port (with_names state space names) serial change ≡ with_names (with_port state serial change) space names
port_alongside state space names serial change =
    elim (finmap.get state.ports serial) as (λ (o : Option PortState).
    (elim o as (λ _. Ipc) [
      | None ↦ with_names state space names
      | Some port ↦
          record (with_names state space names) { ports = finmap.insert state.ports serial (change port) }
    ])
    ≡ with_names (elim o as (λ _. Ipc)
    [ None ↦ state | Some port ↦ record state { ports = finmap.insert state.ports serial (change port) } ]) space
    names) [
      | None ↦ refl
      | Some port ↦ refl
    ]

ports_alongside : (state : Ipc) (space : ℕ) (names : Names) (serials : List ℕ) (change : PortState → PortState)
    → with_ports (with_names state space names) serials change
    ≡ with_names (with_ports state serials change) space names
ports_alongside state space names [] change = refl
ports_alongside state space names (serial ∷ serials) change =
    ap (λ (s : Ipc). with_ports s serials change) (port_alongside state space names serial change)
    ∙ ports_alongside (with_port state serial change) space names serials change

module _ (state : Ipc) (space from to : ℕ) (entry : Entry) (there : IsSome (finmap.get state.spaces space))
    (at : finmap.get (names_in state space) from ≡ Some entry) where
  abbrev after : Names
  after = finmap.insert (finmap.remove (names_in state space) from) to entry

  pub names_renamed : with_changed state space (λ names. under_other_name names from to) ≡ with_names state space after
  names_renamed =
      changed_there state space there (λ (names : Names). under_other_name names from to)
      ∙ ap (λ (o : Option Entry). with_names state space
      (elim o as (λ _. Names) [
        | None ↦ names_in state space
        | Some e ↦
            finmap.insert (finmap.remove (names_in state space) from) to e
      ])) at

-- the set's name changes first
pub set_renamed : (state : Ipc) (space from to : ℕ) → IsSome (finmap.get state.spaces space)
    → finmap.get (names_in state space) from ≡ Some Set
    → with_ports (with_changed state space (λ names. under_other_name names from to))
    (serials_of_members state (names_in state space) from) (λ port. record port { set = Some to })
    ≡ renamed state space (names_in state space) from to Set
set_renamed state space from to there at =
    let serials : List ℕ = serials_of_members state (names_in state space) from in
    let into : PortState → PortState = λ port. record port { set = Some to } in
    ap (λ (s : Ipc). with_ports s serials into) (names_renamed state space from to Set there at)
    ∙ ports_alongside state space (finmap.insert (finmap.remove (names_in state space) from) to Set) serials into
