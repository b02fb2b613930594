use Rattle.std.proofs.Common.{refl, sym, ap, ◌∙◌}
use Rattle.std.specs.Prelude.{if◌then◌else◌}
use Rattle.ipc_model.specs.history.History.{attached_by}
use Rattle.keepers.proofs.kernel_keeper.note_call.Goals as goal

pub returns-then-is_success-clause-answered : goal.returns-then-is_success-clause-answered
returns-then-is_success-clause-answered g c none =
    let done = sym c.is_success.ensures ∙ c.if-is_success.true in (
      c.attached_by-own_state.ensures ∙ ap
          (λ b. if b then attached_by c.args.own_state.now.space c.args.call.now else c.args.own_state.now.space)
          (sym done),
      refl,
      refl,
      refl,
    )

pub returns-else-is_success-clause-answered : goal.returns-else-is_success-clause-answered
returns-else-is_success-clause-answered g c none =
    let refused = sym c.is_success.ensures ∙ c.if-is_success.false in (
      ap (λ b. if b then attached_by c.args.own_state.now.space c.args.call.now else c.args.own_state.now.space)
          (sym refused),
      refl,
      refl,
      refl,
    )
