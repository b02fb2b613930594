use Rattle.std.proofs.Common.{◌∙◌, ap, subst}
use Rattle.ipc_model.specs.state.Circular.{Acyclic}
use Rattle.ipc_model.specs.state.LawfulState.{LawfulState}
use Rattle.ipc_model.specs.state.State.{State}
use Rattle.sessions.proofs.shared.Shared.new.Goals as goal

pub new-store_keeper-requires-clause-base : goal.new-store_keeper-requires-clause-base
new-store_keeper-requires-clause-base g c =
    let is = ap (λ v. v.kernel) c.opened.view_is ∙ c.requires.base in
    (subst LawfulState is c.show_image.ensures.lawful, subst (λ (s : State). Acyclic s.ipc) is c.show_image.ensures.acyclic)
