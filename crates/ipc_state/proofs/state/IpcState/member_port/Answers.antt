use Rattle.std.proofs.Common.{ℕ, eqb, Option, Some, true, false, sym, ap, ◌∙◌}
use Rattle.std.specs.Option.{option_eq}
use Rattle.ipc_state.specs.Members.{state_of}
use Rattle.ipc_state.specs.Running.{Running}
use Rattle.ipc_state.specs.SetNames.{member_port}
use Rattle.ipc_state.proofs.Membership.{member_if}
use Rattle.ipc_state.proofs.state.IpcState.member_port.Goals as goal

pub returns-then-eq : goal.returns-then-eq
returns-then-eq c =
    let here = sym c.received.ensures ∙ c.in_ok-port.was in
    let same =
    ap (λ (s : Option ℕ). option_eq eqb s (Some c.args.set)) (sym c.set_of.ensures)
    ∙ (sym c.eq.ensures ∙ c.if-eq.true) in
    member_if (state_of c.self.inside.spaces.current c.self.inside.ports.current) c.args.set c.in_ok-port.port
    c.args.entry true here same
    ∙ ap (λ (r : Running). member_port r.current c.args.set c.args.entry) c.self.view_is

pub returns-else-eq : goal.returns-else-eq
returns-else-eq c =
    let here = sym c.received.ensures ∙ c.in_ok-port.was in
    let same =
    ap (λ (s : Option ℕ). option_eq eqb s (Some c.args.set)) (sym c.set_of.ensures)
    ∙ (sym c.eq.ensures ∙ c.if-eq.false) in
    member_if (state_of c.self.inside.spaces.current c.self.inside.ports.current) c.args.set c.in_ok-port.port
    c.args.entry false here same
    ∙ ap (λ (r : Running). member_port r.current c.args.set c.args.entry) c.self.view_is
