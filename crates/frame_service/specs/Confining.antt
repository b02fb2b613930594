-- Connections that are confined to the space that they are attached to: which call a caller makes of what it is asked
-- for, and how the reply is shown.
use Rattle.std.specs.Prelude.{ℕ, Bool, true, false, ◌&&◌, if◌then◌else◌}
use Rattle.codes.specs.declared.call_number.TheConstants.{ATTACH, CONFINE}
use Rattle.codes.specs.declared.kern_return.KernReturn.TheVariants.{NoAccess}
use Rattle.ipc_model.specs.calls.Refusals.{refused_of}
use Rattle.ipc_model.specs.calls.Step.{succeeded}
use Rattle.ipc_model.specs.declared.call.Call.{Call}
use Rattle.ipc_model.specs.declared.call.Call.TheVariants.{Plain}
use Rattle.ipc_model.specs.declared.plain_call.PlainCall.TheVariants as call
use Rattle.ipc_model.specs.declared.plain_reply.PlainReply.TheVariants.{Done, Refused}
use Rattle.ipc_model.specs.declared.reply.Reply.{Reply}
use Rattle.ipc_model.specs.declared.reply.Reply.TheVariants as reply
use Rattle.frame_service.specs.declared.confining.Shown.{Shown}
use Rattle.frame_service.specs.declared.confining.Shown.TheVariants.{AsItIs, ToAttach, ToConfine}

abbrev pub is_attach : Call → Bool
is_attach (Plain (call.Attach space)) = true
is_attach c = false

abbrev pub attach_to : ℕ → Call
attach_to space = Plain (call.Attach space)

-- The call that a caller makes where it is asked for this one. Where it is confined it attaches to no space but its own,
-- which changes nothing: that only asks whether the space is there.
abbrev pub made_of : Bool → ℕ → Call → Call
made_of confined space c = if confined && is_attach c then attach_to space else c

-- the reply to an attach that wasn't made: no access, if the caller's own space is there
abbrev pub attach_shown : Reply → Reply
attach_shown said = if succeeded said then refused_of ATTACH NoAccess else said

-- the reply to number 23, by that to an attach to the caller's own space
abbrev pub confine_shown : Reply → Reply
confine_shown (reply.Plain (Done number)) = reply.Plain (Done CONFINE)
confine_shown (reply.Plain (Refused number code)) = refused_of CONFINE code
confine_shown said = said

-- how the reply to the call that was made is shown
abbrev pub shown : Shown → Reply → Reply
shown AsItIs said = said
shown ToAttach said = attach_shown said
shown ToConfine said = confine_shown said

-- how it is shown where this call was asked for
abbrev pub shown_for : Bool → Call → Shown
shown_for confined c = if confined && is_attach c then ToAttach else AsItIs
