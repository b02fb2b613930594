-- The reply of a step from a lawful state fits in a frame and has the number of its call.
use Rattle.std.specs.Prelude.{◌≡◌, ℕ, ◌≤◌, Bool, true, false, ◌==◌, [], length, Option, None, Some, List, if◌then◌else◌}
use Rattle.std.proofs.Common.{refl, sym, ap, subst, arith, ◌∙◌, inl, inr}
use Rattle.std.specs.FinMap as finmap
use Rattle.codes.specs.declared.call_number.TheConstants.{NUMBERED}
use Rattle.codes.specs.declared.kern_return.KernReturn.{KernReturn}
use Rattle.codes.specs.declared.limits.TheConstants.{MAX_FRAME_CONTENT}
use Rattle.ipc_model.specs.calls.PlainStep.{PlainStep, ActsFrom, has_record, number_of_call}
use Rattle.ipc_model.specs.calls.Step as step
use Rattle.ipc_model.specs.calls.Step.{Step, StepsPlain, asked_again}
use Rattle.ipc_model.specs.declared.call.Call.{Call}
use Rattle.ipc_model.specs.declared.call.Call.TheVariants.{Plain, Numbered, Unnumberable}
use Rattle.ipc_model.specs.declared.call.NumberedCall.{NumberedCall}
use Rattle.ipc_model.specs.declared.plain_call.PlainCall.{PlainCall}
use Rattle.ipc_model.specs.declared.plain_call.PlainCall.TheVariants as call
use Rattle.ipc_model.specs.declared.plain_reply.PlainReply.{PlainReply}
use Rattle.ipc_model.specs.declared.plain_reply.PlainReply.TheVariants.{Refused}
use Rattle.ipc_model.specs.declared.reply.NumberedReply.{NumberedReply}
use Rattle.ipc_model.specs.declared.reply.Reply.{Reply}
use Rattle.ipc_model.specs.declared.reply.Reply.TheVariants as reply
use Rattle.ipc_model.specs.effects.Effects.{Effect}
use Rattle.ipc_model.specs.encodings.Encodings as task
use Rattle.ipc_model.specs.encodings.PlainCalls.{number_of_reply, reply_encoding}
use Rattle.ipc_model.specs.messages.Receiving.{without_message}
use Rattle.ipc_model.specs.state.Ipc.{Ipc, Names}
use Rattle.ipc_model.specs.state.Lawful.{Lawful}
use Rattle.ipc_model.specs.state.LawfulState.{LawfulState}
use Rattle.ipc_model.specs.state.State.{State}
use Rattle.ipc_laws.specs.Encoding.{kept_within}
use Rattle.ipc_laws.specs.FrameLengths.{IsWithin, within, from_within, from_number, message_length, refused_number, refused_within, short_within}
use Rattle.ipc_laws.specs.NumberedSteps.{IsAgain, IsMade, outcome_of}
use Rattle.ipc_laws.specs.PlainRecorded.{longest_reply, plain_whole}
use Rattle.ipc_laws.specs.RecordedSteps.{length-numbered_reply}
use Rattle.kernel.specs.Unrecorded.{IsWithout, receive_without, send_without}

-- the reply has the number of its call and isn't longer than the longest plain reply
record IsPlainFitting (c : PlainCall) (answer : PlainReply) : Type 0 where
  pub number_is : number_of_reply answer ≡ number_of_call c
  pub bytes : length (reply_encoding answer) ≤ longest_reply

without_within : (old : Ipc) (answer : PlainReply) (new : Ipc) (effects : List Effect)
    → IsWithout old answer new effects → IsWithin 44 answer
without_within old answer new effects without =
    within 44 (without_message without.code without.size without.member) answer without.answer_is
    (record { bytes = omega (arith, message_length without.code without.size without.member []) })

message_fitting : (c : PlainCall) (old : Ipc) (answer : PlainReply) (new : Ipc) (effects : List Effect)
    → number_of_call c ≡ 19 → IsWithout old answer new effects → IsPlainFitting c answer
message_fitting c old answer new effects number without =
    record {
      number_is = ap number_of_reply without.answer_is ∙ sym number;
      bytes = omega (arith, (without_within old answer new effects without).bytes);
    }

unrecorded_fitting : (o : Option Names) (old : Ipc) (space : ℕ) (c : PlainCall) (answer : PlainReply) (new : Ipc)
    (effects : List Effect) → finmap.get old.spaces space ≡ o → Lawful old → has_record c answer ≡ false
    → ActsFrom old space o c answer new effects → IsPlainFitting c answer
unrecorded_fitting (Some names) old space (call.Send message) answer new effects is lawful none acts =
    message_fitting (call.Send message) old answer new effects refl
    (send_without old space names message answer new effects none acts)
unrecorded_fitting (Some names) old space
    (call.Receive limit large name waited) answer new effects is lawful none acts =
    message_fitting (call.Receive limit large name waited) old answer new effects refl
    (receive_without old space names limit large name waited answer new effects none acts)
unrecorded_fitting (Some names) old space c answer new effects is lawful none acts = record {
  number_is = from_number (Some names) old space c answer new effects refl acts;
  bytes = omega (arith, (from_within (Some names) old space c answer new effects is refl lawful acts).bytes);
}
unrecorded_fitting None old space c answer new effects is lawful none acts = record {
  number_is = ap number_of_reply acts.0 ∙ refused_number c _;
  bytes = omega (arith, (within 44 _ answer acts.0 (refused_within c _)).bytes);
}

plain_fitting : (old : Ipc) (space : ℕ) (c : PlainCall) (answer : PlainReply) (new : Ipc) → Lawful old
    → PlainStep old space c answer new → IsPlainFitting c answer
unfolding PlainStep
plain_fitting old space c answer new lawful step = by_case (has_record c answer) refl
  where
    by_case : (recorded : Bool) → has_record c answer ≡ recorded → IsPlainFitting c answer
    by_case true recorded =
        let whole = plain_whole old space c answer new lawful step recorded in
        record { number_is = whole.number_is; bytes = whole.reply_frame }
    by_case false none =
        unrecorded_fitting (finmap.get old.spaces space) old space c answer step.0 step.1 refl lawful none step.2

-- All calls.

-- the reply has the number of its call and fits in a frame
pub record IsFitting (c : Call) (answer : Reply) : Type 0 where
  pub number_is : task.number_of_reply answer ≡ step.number_of_call c
  pub bytes : length (task.reply_encoding answer) ≤ MAX_FRAME_CONTENT

steps_fitting : (old : State) (space : ℕ) (c : PlainCall) (answer : Reply) (new : State) → LawfulState old
    → StepsPlain old space c answer new → IsFitting (Plain c) answer
steps_fitting old space c (reply.Numbered answer) new lawful steps = absurd steps
steps_fitting old space c (reply.Repeated answer) new lawful steps = absurd steps
steps_fitting old space c (reply.Plain answer) new lawful steps =
    let fits = plain_fitting old.ipc space c answer new.ipc lawful.ipc steps.0 in
    record { number_is = fits.number_is; bytes = omega (arith, fits.bytes) }

-- a refusal by number 22
refused_fitting : (c : Call) (code : KernReturn) (answer : Reply) → step.number_of_call c ≡ NUMBERED
    → answer ≡ reply.Plain (Refused NUMBERED code) → IsFitting c answer
refused_fitting c code answer number is =
    subst (IsFitting c) (sym is) (record {
      number_is = sym number;
      bytes = omega (arith, (short_within (Refused NUMBERED code) refl).bytes);
    })

made_fitting : (old : State) (space : ℕ) (numbered : NumberedCall) (answer : Reply) (new : State) → LawfulState old
    → IsMade old space numbered answer new → IsFitting (Numbered numbered) answer
made_fitting old space numbered answer new lawful is =
    let fits = plain_fitting old.ipc space numbered.call is.given.reply new.ipc lawful.ipc is.step in
    subst (IsFitting (Numbered numbered)) (sym is.answer_is) (record {
      number_is = refl;
      bytes = omega (arith, length-numbered_reply is.given, fits.bytes);
    })

-- the reply to a repeated request is the kept reply
asked_is_kept : (o : Option NumberedReply) (request : ℕ) (kept : NumberedReply) → asked_again o request ≡ Some kept
    → o ≡ Some kept
asked_is_kept None request kept is = absurd (cc is)
asked_is_kept (Some given) request kept is = by (given.request == request) is
  where
    by : (same : Bool) → (if same then Some given else None) ≡ Some kept → Some given ≡ Some kept
    by true is = is
    by false is = absurd (cc is)

again_fitting : (old : State) (space : ℕ) (numbered : NumberedCall) (answer : Reply) (new : State) → LawfulState old
    → IsAgain old space numbered answer new → IsFitting (Numbered numbered) answer
again_fitting old space numbered answer new lawful is =
    let at = asked_is_kept (finmap.get old.kept space) numbered.request is.kept is.again in
    subst (IsFitting (Numbered numbered)) (sym is.answer_is)
    (record { number_is = refl; bytes = kept_within is.kept (lawful.kept space is.kept at).1 })

pub step_fitting : (old : State) (space : ℕ) (c : Call) (answer : Reply) (new : State) → LawfulState old
    → Step old space c answer new → IsFitting c answer
unfolding Step
step_fitting old space (Plain c) answer new lawful steps = steps_fitting old space c answer new lawful steps
step_fitting old space Unnumberable answer new lawful refused = refused_fitting Unnumberable _ answer refl refused.0
step_fitting old space (Numbered numbered) answer new lawful makes =
    elim (outcome_of old space numbered answer new makes) as (λ _. IsFitting (Numbered numbered) answer) [
      | inl refused ↦ refused_fitting (Numbered numbered) refused.code answer refl refused.refused.0
      | inr (inl made) ↦ made_fitting old space numbered answer new lawful made
      | inr (inr again) ↦ again_fitting old space numbered answer new lawful again
    ]
