-- The replies that records have, as a table by call: it says what `IsRecordedReply` says in parts.
use Rattle.std.specs.Prelude.{◌≡◌, ◌⊎◌, ◌↔◌, ℕ, ◌^◌, ◌<◌, ◌≤◌, Bool, true, false, IsTrue, List, [], length}
use Rattle.std.proofs.Common.{refl, sym, ap, subst, inl, inr, arith}
use Rattle.codes.specs.declared.call_number.TheConstants.{MACH_PORT_RENAME, MACH_PORT_ALLOCATE_NAME, MACH_PORT_DESTROY, MACH_PORT_DEALLOCATE, MACH_PORT_MOD_REFS, MACH_PORT_SET_QLIMIT, MACH_PORT_SET_MSCOUNT, MACH_PORT_SET_SEQNO, MACH_PORT_MOVE_MEMBER, MACH_PORT_INSERT_RIGHT, SPACE_DESTROY}
use Rattle.codes.specs.declared.kern_return.KernReturn.TheVariants.{Success, RcvTooLarge}
use Rattle.codes.specs.declared.name.TheConstants.{MACH_PORT_DEAD, MACH_PORT_NULL}
use Rattle.ipc_model.specs.calls.PlainStep.{number_of_call, has_record}
use Rattle.ipc_model.specs.declared.plain_call.PlainCall.{PlainCall}
use Rattle.ipc_model.specs.declared.plain_call.PlainCall.TheVariants as call
use Rattle.ipc_model.specs.declared.plain_reply.PlainReply.{PlainReply}
use Rattle.ipc_model.specs.declared.plain_reply.PlainReply.TheVariants as reply
use Rattle.ipc_model.specs.declared.message.RightKind.{RightKind}
use Rattle.ipc_model.specs.encodings.PlainCalls.{records_no_results, IsMessageSize, IsRecordedReply}
use Rattle.words.specs.Words.{AreBytes}

-- a receive brought a message within its limit
pub record HasMessage (limit : ℕ) (answer : PlainReply) : Type 0 where
  pub size : ℕ
  pub member : ℕ
  pub message : List ℕ
  pub has_size : IsMessageSize size
  pub of_port : (MACH_PORT_NULL < member) × (member < MACH_PORT_DEAD)
  pub within : size ≤ limit
  pub whole : length message ≡ size
  pub bytes : AreBytes message
  pub answer_is : answer ≡ reply.Message Success size member message

-- a receive without MACH_RCV_LARGE destroyed one that was larger
pub record HasDestroyed (limit : ℕ) (large : Bool) (answer : PlainReply) : Type 0 where
  pub without : large ≡ false
  pub size : ℕ
  pub member : ℕ
  pub has_size : IsMessageSize size
  pub of_port : (MACH_PORT_NULL < member) × (member < MACH_PORT_DEAD)
  pub above : limit < size
  pub answer_is : answer ≡ reply.Message RcvTooLarge size member []

-- The table.
abbrev pub HasReply : PlainCall → PlainReply → Type 0
HasReply (call.Attach space) answer = ⊥
HasReply call.Names answer = ⊥
HasReply (call.Type name) answer = ⊥
HasReply (call.Rename from to) answer = answer ≡ reply.Done MACH_PORT_RENAME
HasReply (call.AllocateName kind name) answer = answer ≡ reply.Done MACH_PORT_ALLOCATE_NAME
HasReply (call.Allocate kind) answer = (name : ℕ) × (name < 2 ^ 32) × (answer ≡ reply.Allocate name)
HasReply (call.Destroy name) answer = answer ≡ reply.Done MACH_PORT_DESTROY
HasReply (call.Deallocate name) answer = answer ≡ reply.Done MACH_PORT_DEALLOCATE
HasReply (call.GetRefs name kind) answer = ⊥
HasReply (call.ModRefs name kind delta) answer = answer ≡ reply.Done MACH_PORT_MOD_REFS
HasReply (call.SetQlimit name limit) answer = answer ≡ reply.Done MACH_PORT_SET_QLIMIT
HasReply (call.SetMscount name count) answer = answer ≡ reply.Done MACH_PORT_SET_MSCOUNT
HasReply (call.SetSeqno name seqno) answer = answer ≡ reply.Done MACH_PORT_SET_SEQNO
HasReply (call.GetReceiveStatus name) answer = ⊥
HasReply (call.GetSetStatus name) answer = ⊥
HasReply (call.MoveMember member after) answer = answer ≡ reply.Done MACH_PORT_MOVE_MEMBER
HasReply (call.RequestNotification name variant sync notify_name disposition) answer =
    (previous : ℕ) × (previous < 2 ^ 32) × (answer ≡ reply.PreviousTarget previous)
HasReply (call.InsertRight name right_name disposition) answer = answer ≡ reply.Done MACH_PORT_INSERT_RIGHT
HasReply (call.ExtractRight name disposition) answer =
    (under : ℕ) × (kind : RightKind) × (under < 2 ^ 32) × (answer ≡ reply.Extracted under kind)
HasReply (call.Send message) answer = answer ≡ reply.Message Success 0 MACH_PORT_NULL []
HasReply (call.Receive limit large name waited) answer = HasMessage limit answer ⊎ HasDestroyed limit large answer
HasReply (call.SpaceCreate name disposition) answer =
    (space : ℕ) × (under : ℕ) × (space < 2 ^ 32) × (under < 2 ^ 32) × (answer ≡ reply.SpaceCreated space under)
HasReply call.SpaceDestroy answer = answer ≡ reply.Done SPACE_DESTROY

to_table : (c : PlainCall) (answer : PlainReply) → IsRecordedReply c answer → HasReply c answer
to_table (call.Attach space) answer is = absurd (cc is.recorded)
to_table call.Names answer is = absurd (cc is.recorded)
to_table (call.Type name) answer is = absurd (cc is.recorded)
to_table (call.GetRefs name kind) answer is = absurd (cc is.recorded)
to_table (call.GetReceiveStatus name) answer is = absurd (cc is.recorded)
to_table (call.GetSetStatus name) answer is = absurd (cc is.recorded)
to_table (call.Allocate kind) (reply.Allocate name) is = (name, is.fits, refl)
to_table (call.RequestNotification name variant sync notify_name disposition) (reply.PreviousTarget previous) is =
    (previous, is.fits, refl)
to_table (call.ExtractRight name disposition) (reply.Extracted under kind) is = (under, kind, is.fits, refl)
to_table (call.SpaceCreate name disposition) (reply.SpaceCreated space under) is =
    (space, under, is.fits.0, is.fits.1, refl)
to_table (call.Send sent) (reply.Message Success size member message) is =
    λ i. reply.Message Success (is.results.0 i) (is.results.1 i) (is.results.2 i)
to_table (call.Send sent) (reply.Message code size member message) is = absurd (cc is.recorded)
to_table (call.Receive limit large name waited) (reply.Message Success size member message) is =
    inl (record {
      size = size;
      member = member;
      message = message;
      has_size = is.results.0;
      of_port = (is.results.1, is.results.2);
      within = is.results.3.0;
      whole = is.results.3.1;
      bytes = is.fits.2;
      answer_is = refl;
    })
to_table (call.Receive limit false name waited) (reply.Message RcvTooLarge size member message) is =
    inr (record {
      without = refl;
      size = size;
      member = member;
      has_size = is.results.0;
      of_port = (is.results.1, is.results.2);
      above = is.results.3.0;
      answer_is = ap (reply.Message RcvTooLarge size member) is.results.3.1;
    })
to_table (call.Receive limit false name waited) (reply.Message code size member message) is = absurd (cc is.recorded)
to_table (call.Receive limit true name waited) (reply.Message code size member message) is = absurd (cc is.recorded)
to_table (call.Allocate kind) (reply.Done number) is = absurd (cc is.results)
to_table (call.RequestNotification name variant sync notify_name disposition) (reply.Done number) is =
    absurd (cc is.results)
to_table (call.ExtractRight name disposition) (reply.Done number) is = absurd (cc is.results)
to_table (call.SpaceCreate name disposition) (reply.Done number) is = absurd (cc is.results)
to_table (call.Send sent) (reply.Done number) is = absurd (cc is.results)
to_table (call.Receive limit large name waited) (reply.Done number) is = absurd (cc is.results)
to_table c (reply.Done number) is = ap reply.Done is.of_one_call
to_table c (reply.Refused number code) is = absurd (cc is.recorded)
to_table c (reply.Message code size member message) is = absurd is.results
to_table c answer is = absurd (omega (arith, is.of_one_call))

done_back : (c : PlainCall) (answer : PlainReply) → number_of_call c < 2 ^ 32 → records_no_results c ≡ true
    → IsTrue (has_record c (reply.Done (number_of_call c))) → answer ≡ reply.Done (number_of_call c)
    → IsRecordedReply c answer
done_back c answer small none recorded is =
    subst (IsRecordedReply c) (sym is)
    (record { fits = small; of_one_call = refl; results = none; recorded = recorded })

no_bytes : AreBytes []
no_bytes i = omega arith

from_table : (c : PlainCall) (answer : PlainReply) → HasReply c answer → IsRecordedReply c answer
from_table (call.Attach space) answer is = absurd is
from_table call.Names answer is = absurd is
from_table (call.Type name) answer is = absurd is
from_table (call.GetRefs name kind) answer is = absurd is
from_table (call.GetReceiveStatus name) answer is = absurd is
from_table (call.GetSetStatus name) answer is = absurd is
from_table (call.Allocate kind) answer is =
    subst (IsRecordedReply (call.Allocate kind)) (sym is.2)
    (record { fits = is.1; of_one_call = refl; results = tt; recorded = refl })
from_table (call.RequestNotification name variant sync notify_name disposition) answer is =
    subst (IsRecordedReply (call.RequestNotification name variant sync notify_name disposition)) (sym is.2)
    (record { fits = is.1; of_one_call = refl; results = tt; recorded = refl })
from_table (call.ExtractRight name disposition) answer is =
    subst (IsRecordedReply (call.ExtractRight name disposition)) (sym is.3)
    (record { fits = is.2; of_one_call = refl; results = tt; recorded = refl })
from_table (call.SpaceCreate name disposition) answer is =
    subst (IsRecordedReply (call.SpaceCreate name disposition)) (sym is.4)
    (record { fits = (is.2, is.3); of_one_call = refl; results = tt; recorded = refl })
from_table (call.Send sent) answer is =
    subst (IsRecordedReply (call.Send sent)) (sym is)
    (record {
      fits = (omega arith, omega arith, no_bytes);
      of_one_call = refl;
      results = (refl, refl, refl);
      recorded = refl;
    })
from_table (call.Receive limit large name waited) answer (inl is) =
    subst (IsRecordedReply (call.Receive limit large name waited)) (sym is.answer_is)
    (record {
      fits = (omega (arith, is.has_size.1), omega (arith, is.of_port.1), is.bytes);
      of_one_call = refl;
      results = (is.has_size, is.of_port.0, is.of_port.1, (is.within, is.whole));
      recorded = refl;
    })
from_table (call.Receive limit false name waited) answer (inr is) =
    subst (IsRecordedReply (call.Receive limit false name waited)) (sym is.answer_is)
    (record {
      fits = (omega (arith, is.has_size.1), omega (arith, is.of_port.1), no_bytes);
      of_one_call = refl;
      results = (is.has_size, is.of_port.0, is.of_port.1, (is.above, refl));
      recorded = refl;
    })
from_table (call.Receive limit true name waited) answer (inr is) = absurd (cc is.without)
from_table c answer is = done_back c answer (omega arith) refl refl is

-- A reply is one that a record of the call may have exactly where the table has it.
abbrev pub RepliesByCall : Type 0
RepliesByCall = (c : PlainCall) (answer : PlainReply) → IsRecordedReply c answer ↔ HasReply c answer

pub replies_by_call : RepliesByCall
replies_by_call c answer = (to_table c answer, from_table c answer)
