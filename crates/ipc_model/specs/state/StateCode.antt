-- A code of states, by which proofs distinguish them (ghost).
use Rattle.std.specs.Prelude.{ℕ, refl}
use Rattle.std.specs.Ordering.{nat_cmp}
use Rattle.std.specs.FinMap.{FinMap, code}
use Rattle.std.specs.Coded.{Coded, code_by, coded×, coded_ℕ}
use Rattle.ipc_model.specs.declared.port.PortState.{PortState}
use Rattle.ipc_model.specs.contracts.entry.Entry as entry
use Rattle.ipc_model.specs.contracts.port.PortState as port
use Rattle.ipc_model.specs.contracts.reply.NumberedReply as reply
use Rattle.ipc_model.specs.state.Ipc.{Names, Ipc}
use Rattle.ipc_model.specs.state.State.{KeptReplies, State}

abbrev pub names_code : Coded Names
names_code = code coded_ℕ entry.the_row.coded

abbrev pub ipc_code : Coded Ipc
ipc_code =
    code_by (FinMap nat_cmp Names × (FinMap nat_cmp PortState × ℕ))
    (coded× (code coded_ℕ names_code) (coded× (code coded_ℕ port.the_row.coded) coded_ℕ))
    (λ s. (s.spaces, (s.ports, s.next))) (λ p. record { spaces = p.0; ports = p.1.0; next = p.1.1 }) (λ _. refl)

abbrev pub state_code : Coded State
state_code =
    code_by (Ipc × KeptReplies) (coded× ipc_code (code coded_ℕ reply.the_row.coded)) (λ s. (s.ipc, s.kept))
    (λ p. record { ipc = p.0; kept = p.1 }) (λ _. refl)
