use Rattle.std.proofs.Common.{refl, sym, subst, ◌∙◌}
use Rattle.codes.specs.declared.call_number.TheConstants.{MACH_PORT_GET_REFS}
use Rattle.codes.specs.declared.kern_return.KernReturn.TheVariants.{InvalidTask}
use Rattle.ipc_model.specs.calls.Step.{Step}
use Rattle.ipc_model.specs.declared.call.Call.TheVariants.{Plain}
use Rattle.ipc_model.specs.declared.plain_call.PlainCall.TheVariants as call
use Rattle.ipc_model.specs.declared.plain_reply.PlainReply.TheVariants.{Refused}
use Rattle.ipc_model.specs.declared.reply.Reply.TheVariants as reply
use Rattle.ipc_model.specs.state.State.{State}
use Rattle.kernel.specs.Answering.{step_same}
use Rattle.kernel.specs.Keeping.{state_of}
use Rattle.kernel.specs.Stepping.{step_alone, step_gone}
use Rattle.kernel.proofs.kernel.Kernel.get_refs.Goals as goal

pub returns-then-not-has_space : goal.returns-then-not-has_space
returns-then-not-has_space c =
    let asked = call.GetRefs c.args.name c.args.right in
    let refusal = Refused MACH_PORT_GET_REFS InvalidTask in
    subst (λ (s : State). Step s c.args.space (Plain asked) c.gone.result s) c.self.view_is
    (step_same (state_of c.self.inside.state.current c.self.inside.kept) c.args.space asked refusal c.gone.result refl
    c.gone.ensures
    (step_gone c.self.inside.state.current c.args.space asked refusal
    (sym c.has_space.ensures ∙ c.if-not-has_space.true) refl))

pub returns : goal.returns
returns c =
    let asked = call.GetRefs c.args.name c.args.right in
    let given = c.get_refs.result in
    subst (λ (s : State). Step s c.args.space (Plain asked) (reply.Plain given) s) c.self.view_is
    (step_same (state_of c.self.inside.state.current c.self.inside.kept) c.args.space asked given
    (reply.Plain given) refl refl
    (step_alone c.self.inside.state.current c.args.space asked given c.self.inside.state.current
    (sym c.has_space.ensures ∙ c.if-not-has_space.false) c.get_refs.ensures))
