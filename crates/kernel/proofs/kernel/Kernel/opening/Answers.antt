use Rattle.std.proofs.Common.{◌≡◌, refl, sym, ap, subst}
use Rattle.ipc_laws.specs.OpeningLaws.{opening_is_lawful}
use Rattle.ipc_model.specs.state.Circular.{Acyclic}
use Rattle.ipc_model.specs.state.Ipc.{Ipc, opening_ipc}
use Rattle.ipc_model.specs.state.LawfulState.{LawfulState}
use Rattle.ipc_model.specs.state.State.{KeptReplies}
use Rattle.ipc_state.specs.Running.{Running}
use Rattle.kernel.specs.Keeping.{state_of}
use Rattle.kernel.proofs.kernel.Kernel.opening.Goals as goal

pub invariant_of-result : goal.invariant_of-result
invariant_of-result c =
    let current = sym (ap (λ (r : Running). r.current) c.in_ok-state.ensures) in
    let kept =
    subst (λ (k : KeptReplies). LawfulState (state_of opening_ipc k)) (sym c.new.ensures) opening_is_lawful.0 in (
      subst (λ (s : Ipc). LawfulState (state_of s c.new.result)) current kept,
      subst Acyclic current opening_is_lawful.1,
      c.show_queues_short.ensures,
      subst (λ (r : Running). r.before ≡ r.current) (sym c.in_ok-state.ensures) refl,
    )
