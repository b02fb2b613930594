use Rattle.std.proofs.Common.{◌≡◌, true, subst, ap}
use Rattle.std.specs.Prelude.{IfNone, Option}
use Rattle.ipc_model.specs.calls.Step.{Step, has_record}
use Rattle.ipc_model.specs.declared.reply.Reply.{Reply}
use Rattle.ipc_model.specs.state.State.{State}
use Rattle.system.proofs.kernel_half.KernelHalf.submit_without_room.Goals as goal

pub returns-in_default-clause-full : goal.returns-in_default-clause-full
returns-in_default-clause-full c = λ is. (
  c.requires,
  subst (λ (s : State). (reply : Reply) × (new : State) × Step s c.args.space c.args.call.now reply new
      × (has_record c.args.call.now reply ≡ true))
      (ap (λ k. k.kernel) c.self.view_is)
      (subst (λ (o : Option Reply). IfNone o
      ((reply : Reply) × (new : State) × Step c.self.inside.kernel c.args.space c.args.call.now reply new
      × (has_record c.args.call.now reply ≡ true)))
      c.in_default.is c.in_ok-answer.ensures.none),
)
