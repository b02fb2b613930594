-- Plain steps that have records: the call is whole, the reply has its results, and both are short.
use Rattle.std.specs.Prelude.{◌≡◌, ℕ, ◌+◌, ◌≤◌, Bool, true, false, List, [], length, Option, None, Some, refl}
use Rattle.std.proofs.Common.{◌∙◌, ap, sym, subst, arith}
use Rattle.std.specs.FinMap as finmap
use Rattle.codes.specs.declared.kern_return.KernReturn.TheVariants.{Success, InvalidTask}
use Rattle.codes.specs.declared.limits.TheConstants.{MAX_MESSAGE_SIZE}
use Rattle.ipc_model.specs.calls.PlainStep.{PlainStep, ActsIn, ActsFrom, refused, number_of_call, has_record}
use Rattle.ipc_model.specs.declared.plain_call.PlainCall.{PlainCall}
use Rattle.ipc_model.specs.declared.plain_call.PlainCall.TheVariants as call
use Rattle.ipc_model.specs.declared.plain_reply.PlainReply.{PlainReply}
use Rattle.ipc_model.specs.effects.Effects.{Effect}
use Rattle.ipc_model.specs.messages.Receiving.{Receives}
use Rattle.ipc_model.specs.state.Lawful.{Lawful}
use Rattle.ipc_model.specs.state.Ipc.{Ipc, Names}
use Rattle.ipc_model.specs.encodings.PlainCalls.{call_encoding, reply_encoding, number_of_reply, HasItsResults, IsWholeCall}
use Rattle.ipc_laws.specs.FrameLengths.{arguments_within, from_within, message_length, receive_length, send_length}
use Rattle.ipc_laws.specs.LawfulLaws.{LawfulAtRest, at_rest}
use Rattle.ipc_laws.specs.PortCallLaws.{answer_number, answer_results}
use Rattle.ipc_laws.specs.RecordedMessages.{send_done}
use Rattle.ipc_laws.specs.RecordedReceives.{receive_done}

-- the longest call is a send, the longest reply that of a call on names
abbrev pub longest_call : ℕ
longest_call = 20 + MAX_MESSAGE_SIZE

abbrev pub longest_reply : ℕ
longest_reply = 32780

-- What a record needs of its call and reply, besides numbers in range.
pub record IsPlainWhole (c : PlainCall) (answer : PlainReply) : Type 0 where
  pub whole : IsWholeCall c
  pub number_is : number_of_reply answer ≡ number_of_call c
  pub results : HasItsResults c answer
  pub call_frame : length (call_encoding c) ≤ longest_call
  pub reply_frame : length (reply_encoding answer) ≤ longest_reply

sent_whole : (old : Ipc) (space : ℕ) (names : Names) (message : List ℕ) (answer : PlainReply) (new : Ipc)
    (effects : List Effect) → ActsIn old space names (call.Send message) answer new effects
    → has_record (call.Send message) answer ≡ true
    → IsPlainWhole (call.Send message) answer
sent_whole old space names message answer new effects acts recorded =
    let done = send_done old space names message answer new effects acts recorded in
    subst (IsPlainWhole (call.Send message)) (sym done.answer_is) (record {
      whole = done.size;
      number_is = refl;
      results = (refl, refl, refl);
      call_frame = omega (arith, done.size.1, send_length message);
      reply_frame = omega (arith, message_length Success 0 0 []);
    })

received_whole : (old : Ipc) (space : ℕ) (names : Names) (limit name : ℕ) (large waited : Bool) (answer : PlainReply)
    (new : Ipc) (effects : List Effect) → LawfulAtRest old → finmap.get old.spaces space ≡ Some names
    → Receives old space names (record { limit = limit; large = large; name = name; waited = waited }) answer new
    effects → has_record (call.Receive limit large name waited) answer ≡ true
    → IsPlainWhole (call.Receive limit large name waited) answer
received_whole old space names limit name large waited answer new effects lawful there receives recorded =
    let done =
    receive_done old space names (record { limit = limit; large = large; name = name; waited = waited }) answer new
    effects lawful there receives recorded in
    subst (IsPlainWhole (call.Receive limit large name waited)) (sym done.answer_is) (record {
      whole = tt;
      number_is = refl;
      results = done.brings;
      call_frame = omega (arith, receive_length limit name large waited);
      reply_frame = omega (arith, done.small, message_length done.code done.size done.member done.message);
    })

-- a refusal of a caller whose space is gone has no record
refused_none : (c : PlainCall) → has_record c (refused c InvalidTask) ≡ false
refused_none (call.Send message) = refl
refused_none (call.Receive limit true name waited) = refl
refused_none (call.Receive limit false name waited) = refl
refused_none c = refl

from_whole : (o : Option Names) (old : Ipc) (space : ℕ) (c : PlainCall) (answer : PlainReply) (new : Ipc)
    (effects : List Effect) → finmap.get old.spaces space ≡ o → Lawful old → ActsFrom old space o c answer new effects
    → has_record c answer ≡ true
    → IsPlainWhole c answer
from_whole None old space c answer new effects there lawful acts recorded =
    absurd (cc (recorded, ap (has_record c) acts.0 ∙ refused_none c))
from_whole (Some names) old space (call.Send message) answer new effects there lawful acts recorded =
    sent_whole old space names message answer new effects acts recorded
from_whole (Some names) old space (call.Receive limit large name waited) answer new effects there lawful acts recorded =
    received_whole old space names limit name large waited answer new effects (at_rest old lawful) there acts recorded
from_whole (Some names) old space c answer new effects there lawful acts recorded = record {
  whole = tt;
  number_is = answer_number old space names c answer new effects refl acts;
  results = answer_results old space names c answer new effects refl acts;
  call_frame = omega (arith, arguments_within c refl);
  reply_frame = omega (arith, (from_within (Some names) old space c answer new effects there refl lawful acts).bytes);
}

pub plain_whole : (old : Ipc) (space : ℕ) (c : PlainCall) (answer : PlainReply) (new : Ipc) → Lawful old
    → PlainStep old space c answer new → has_record c answer ≡ true → IsPlainWhole c answer
unfolding PlainStep
plain_whole old space c answer new lawful step recorded =
    from_whole (finmap.get old.spaces space) old space c answer step.0 step.1 refl lawful step.2 recorded
