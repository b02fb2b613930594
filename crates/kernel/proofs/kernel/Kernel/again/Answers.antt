use Rattle.std.proofs.Common.{sym, ◌∙◌, subst}
use Rattle.ipc_model.specs.state.LawfulState.{LawfulState}
use Rattle.kernel.specs.Restoring.{one_snapshot}
use Rattle.kernel.proofs.kernel.Kernel.again.Goals as goal

pub returns-in-Ok : goal.returns-in-Ok
returns-in-Ok c =
    one_snapshot c.in-Ok.kernel c.args.self.now c.show_image.ensures.lawful
    (subst LawfulState c.self.view_is c.self.invariant.0)
    (sym c.in-Ok.ensures.same ∙ c.in_ok-rows.ensures)
