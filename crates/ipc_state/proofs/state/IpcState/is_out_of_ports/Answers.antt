use Rattle.std.proofs.Common.{◌==◌, ◌||◌, ◌-◌, ◌^◌, Bool, ℕ, ap, sym, ◌∙◌}
use Rattle.ipc_model.specs.state.Ipc.{ports_are_used_up}
use Rattle.ipc_state.specs.Running.{Running}
use Rattle.ipc_state.proofs.state.IpcState.is_out_of_ports.Goals as goal

pub returns-else-is_full : goal.returns-else-is_full
returns-else-is_full c =
    let full = sym c.is_full.ensures ∙ c.if-is_full.false in
    let last = ap (λ (n : ℕ). n == 2 ^ 64 - 1) c.next_serial.ensures in
    last ∙ (sym (ap (λ (b : Bool). b || c.self.inside.ports.current.next == 2 ^ 64 - 1) full) ∙ ap
    (λ (r : Running). ports_are_used_up r.current) c.self.view_is)
