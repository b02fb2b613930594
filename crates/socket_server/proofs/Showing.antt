-- Replies as a connection shows them.
use Rattle.std.specs.Prelude.{◌≡◌, Bool, true, false, if◌then◌else◌, refl}
use Rattle.codes.specs.declared.call_number.TheConstants.{ATTACH}
use Rattle.codes.specs.declared.kern_return.KernReturn.TheVariants.{NoAccess, Success}
use Rattle.frame_service.specs.Asking.{timed_out}
use Rattle.frame_service.specs.Confining.{attach_shown, confine_shown, shown}
use Rattle.frame_service.specs.declared.confining.Shown.{Shown}
use Rattle.frame_service.specs.declared.confining.Shown.TheVariants.{AsItIs, ToAttach, ToConfine}
use Rattle.ipc_model.specs.calls.Refusals.{refused_of}
use Rattle.ipc_model.specs.calls.Step.{succeeded}
use Rattle.ipc_model.specs.declared.plain_reply.PlainReply.TheVariants.{Done, Message, Refused}
use Rattle.ipc_model.specs.declared.reply.Reply.{Reply}
use Rattle.ipc_model.specs.declared.reply.Reply.TheVariants as reply

-- a confined connection's attach is never done
pub attach_is_not_done : (said : Reply) → succeeded (attach_shown said) ≡ false
attach_is_not_done said =
    elim (succeeded said) as (λ (b : Bool). succeeded said ≡ b
    → succeeded (if b then refused_of ATTACH NoAccess else said) ≡ false) [
      | true ↦ λ (_ : _). refl
      | false ↦ λ (is : _). is
    ] refl

-- number 23 is done where the attach that asked was
pub confine_is_done : (said : Reply) → succeeded (confine_shown said) ≡ succeeded said
confine_is_done (reply.Plain (Done number)) = refl
confine_is_done (reply.Plain (Refused number code)) = refl
confine_is_done (reply.Plain said) = refl
confine_is_done (reply.Numbered said) = refl
confine_is_done (reply.Repeated said) = refl

done_found : (said : Reply) → succeeded said ≡ true → false ≡ timed_out said
done_found (reply.Plain (Message Success size member message)) is = refl
done_found (reply.Plain (Message code size member message)) is = absurd (cc is)
done_found (reply.Plain said) is = refl
done_found (reply.Numbered said) is = refl
done_found (reply.Repeated said) is = refl

attach_timed : (said : Reply) → timed_out (attach_shown said) ≡ timed_out said
attach_timed said =
    elim (succeeded said) as (λ (b : Bool). succeeded said ≡ b
    → timed_out (if b then refused_of ATTACH NoAccess else said) ≡ timed_out said) [
      | true ↦ λ (is : _). done_found said is
      | false ↦ λ (_ : _). refl
    ] refl

confine_timed : (said : Reply) → timed_out (confine_shown said) ≡ timed_out said
confine_timed (reply.Plain (Done number)) = refl
confine_timed (reply.Plain (Refused number code)) = refl
confine_timed (reply.Plain said) = refl
confine_timed (reply.Numbered said) = refl
confine_timed (reply.Repeated said) = refl

-- and no reply is shown as one that found nothing, unless it did
pub shown_is_timed_out : (how : Shown) (said : Reply) → timed_out (shown how said) ≡ timed_out said
shown_is_timed_out AsItIs said = refl
shown_is_timed_out ToAttach said = attach_timed said
shown_is_timed_out ToConfine said = confine_timed said
