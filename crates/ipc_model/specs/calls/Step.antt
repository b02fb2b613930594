-- The machine: what each call may answer, and the state that it leaves. A plain call acts on the IPC state. A task may
-- number a call, to be sure that it is made once: its space keeps the number and the reply of the last one, so that
-- after a lost reply the task asks again, and is answered the same without the call being made again. (Numbers are this
-- server's own.)
use Rattle.std.specs.Prelude.{◌≡◌, ◌⊎◌, ℕ, Bool, false, ◌&&◌, ◌||◌, ◌==◌, not, nat_lt, List, [], ◌∷◌, Option, None, Some, is_some, MatchOption, if◌then◌else◌}
use Rattle.std.specs.FinMap as finmap
use Rattle.codes.specs.declared.call_number.TheConstants.{NUMBERED}
use Rattle.codes.specs.declared.kern_return.KernReturn.{KernReturn}
use Rattle.codes.specs.declared.kern_return.KernReturn.TheVariants.{InvalidTask, InvalidArgument, InvalidValue}
use Rattle.ipc_model.specs.calls.PlainStep as plain
use Rattle.ipc_model.specs.calls.PlainStep.{PlainStep, may_be_numbered}
use Rattle.ipc_model.specs.calls.Tests.{RefusedOrDone, Tests, first_failing}
use Rattle.ipc_model.specs.declared.call.Call.{Call}
use Rattle.ipc_model.specs.declared.call.Call.TheVariants.{Plain, Numbered, Unnumberable}
use Rattle.ipc_model.specs.declared.call.NumberedCall.{NumberedCall}
use Rattle.ipc_model.specs.declared.plain_call.PlainCall.{PlainCall}
use Rattle.ipc_model.specs.declared.plain_call.PlainCall.TheVariants as call
use Rattle.ipc_model.specs.declared.plain_reply.PlainReply.{PlainReply}
use Rattle.ipc_model.specs.declared.plain_reply.PlainReply.TheVariants.{Refused}
use Rattle.ipc_model.specs.declared.record.Record.{Record}
use Rattle.ipc_model.specs.declared.reply.NumberedReply.{NumberedReply}
use Rattle.ipc_model.specs.declared.reply.Reply.{Reply}
use Rattle.ipc_model.specs.declared.reply.Reply.TheVariants as reply
use Rattle.ipc_model.specs.encodings.PlainCalls.{number_of_reply}
use Rattle.ipc_model.specs.state.State.{State, KeptReplies, last_request}

-- the number of a call in its frame
abbrev pub number_of_call : Call → ℕ
number_of_call (Plain c) = plain.number_of_call c
number_of_call (Numbered numbered) = NUMBERED
number_of_call Unnumberable = NUMBERED

-- A space that is removed keeps nothing.
abbrev pub removes_space : PlainCall → PlainReply → Bool
removes_space call.SpaceDestroy answer = plain.succeeded answer
removes_space c answer = false

abbrev pub kept_after : KeptReplies → ℕ → PlainCall → PlainReply → KeptReplies
kept_after kept space c answer = if removes_space c answer then finmap.remove kept space else kept

abbrev pub StepsPlain : State → ℕ → PlainCall → Reply → State → Type 0
StepsPlain old space c (reply.Plain answer) new =
    PlainStep old.ipc space c answer new.ipc × (new.kept ≡ kept_after old.kept space c answer)
StepsPlain old space c answer new = ⊥

-- number 22 is refused with this code, and changes nothing
abbrev pub IsRefused : State → KernReturn → Reply → State → Type 0
IsRefused old code answer new = (answer ≡ reply.Plain (Refused NUMBERED code)) × (new ≡ old)

-- the caller's space is gone
abbrev pub is_gone : State → ℕ → Bool
is_gone state space = not (is_some (finmap.get state.ipc.spaces space))

-- what a space keeps, if this request asks for it again
abbrev pub asked_again : Option NumberedReply → ℕ → Option NumberedReply
asked_again None request = None
asked_again (Some kept) request = if kept.request == request then Some kept else None

-- the request asks again for a call of another number
abbrev pub is_other_call : Option NumberedReply → ℕ → Bool
is_other_call None number = false
is_other_call (Some kept) number = not (number_of_reply kept.reply == number)

-- The tests of a numbered call, in their order: the caller's space is there; the call may be numbered; the request is
-- neither 0 nor below the last one; and if it is the last one, the call has the number that it had then.
abbrev pub tests_of_numbered : State → ℕ → NumberedCall → Tests
tests_of_numbered state space numbered =
    let kept : Option NumberedReply = finmap.get state.kept space in
    (is_gone state space, InvalidTask) ∷
    ((not (may_be_numbered numbered.call), InvalidArgument) ∷
    ((numbered.request == 0 || nat_lt numbered.request (last_request kept), InvalidValue) ∷
    ((is_other_call (asked_again kept numbered.request) (plain.number_of_call numbered.call), InvalidArgument) ∷
    [])))

-- The call that a number stands for is made. The space keeps its reply where the call has a record; else the number may
-- be used again.
abbrev pub kept_with : KeptReplies → ℕ → PlainCall → NumberedReply → KeptReplies
kept_with kept space c answer =
    if plain.has_record c answer.reply then finmap.insert kept space answer else kept

abbrev pub StepsNumbered : State → ℕ → NumberedCall → Reply → State → Type 0
StepsNumbered old space numbered (reply.Numbered answer) new =
    (answer.request ≡ numbered.request) × PlainStep old.ipc space numbered.call answer.reply new.ipc
    × (new.kept ≡ kept_with old.kept space numbered.call answer)
StepsNumbered old space numbered answer new = ⊥

-- asked for again, it is answered by the reply that the space keeps, and isn't made
abbrev pub IsRepeated : State → NumberedReply → Reply → State → Type 0
IsRepeated old kept answer new = (answer ≡ reply.Repeated kept) × (new ≡ old)

abbrev pub MakesNumbered : State → ℕ → NumberedCall → Reply → State → Type 0
MakesNumbered old space numbered answer new =
    RefusedOrDone (first_failing (tests_of_numbered old space numbered)) (λ code. IsRefused old code answer new)
    (MatchOption (asked_again (finmap.get old.kept space) numbered.request)
    (StepsNumbered old space numbered answer new) (λ kept. IsRepeated old kept answer new))

-- A step of the machine: this call of a task of this space may give this reply, and leaves this state.
unfoldable pub Step : State → ℕ → Call → Reply → State → Type 0
Step old space (Plain c) answer new = StepsPlain old space c answer new
Step old space (Numbered numbered) answer new = MakesNumbered old space numbered answer new
Step old space Unnumberable answer new =
    IsRefused old (if is_gone old space then InvalidTask else InvalidArgument) answer new

-- these calls, made one after another with these replies, lead the machine from old to new
abbrev pub Steps : State → List Record → State → Type 0
Steps old [] new = new ≡ old
Steps old (first ∷ records) new =
    (mid : State) × Step old first.space first.call first.reply mid × Steps mid records new

-- a step that leaves the state as it is
abbrev pub Answer : State → ℕ → Call → Reply → Type 0
Answer state space c answer = Step state space c answer state

-- how a call is refused
abbrev pub refused : Call → KernReturn → Reply
refused (Plain c) code = reply.Plain (plain.refused c code)
refused (Numbered numbered) code = reply.Plain (Refused NUMBERED code)
refused Unnumberable code = reply.Plain (Refused NUMBERED code)

-- whether a call can have a record: it may change the state
abbrev pub is_recorded : Call → Bool
is_recorded (Plain c) = plain.is_recorded c
is_recorded (Numbered numbered) = may_be_numbered numbered.call
is_recorded Unnumberable = false

-- the call was done, and of a numbered one the call that it numbers
abbrev pub succeeded : Reply → Bool
succeeded (reply.Plain answer) = plain.succeeded answer
succeeded (reply.Numbered answer) = plain.succeeded answer.reply
succeeded (reply.Repeated answer) = plain.succeeded answer.reply

-- Whether an answered call has a record: it may change the state. A numbered one has a record where the call that it
-- numbers has one. Asked for again, it has none.
abbrev pub has_record : Call → Reply → Bool
has_record (Plain c) (reply.Plain answer) = plain.has_record c answer
has_record (Numbered numbered) (reply.Numbered answer) =
    may_be_numbered numbered.call && plain.has_record numbered.call answer.reply
has_record c answer = false

-- A record of a numbered call that the space keeps already, with the reply that it keeps. It changes nothing. Only a
-- file that another program wrote holds such a record.
abbrev pub IsKeptAlready : State → ℕ → Call → Reply → State → Type 0
IsKeptAlready old space (Numbered numbered) (reply.Numbered answer) new =
    (finmap.get old.kept space ≡ Some answer) × (answer.request ≡ numbered.request) × (new ≡ old)
IsKeptAlready old space c answer new = ⊥

-- A record is replayed: as the step that it is of, or as one that is kept already.
abbrev pub Replays : State → Record → State → Type 0
Replays old entry new =
    Step old entry.space entry.call entry.reply new ⊎ IsKeptAlready old entry.space entry.call entry.reply new

-- these records, replayed, lead the machine from old to new
abbrev pub Run : State → List Record → State → Type 0
Run old [] new = new ≡ old
Run old (first ∷ records) new = (mid : State) × Replays old first mid × Run mid records new
