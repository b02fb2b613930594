-- What holds of every call on names, ports and spaces: one that is done answers with its results and no refusal, and a
-- call without a record changes nothing.
use Rattle.std.specs.Prelude.{◌≡◌, ◌≢◌, ℕ, Bool, true, false, not, ◌||◌, ◌==◌, List, [], Option, None, Some, if◌then◌else◌}
use Rattle.std.proofs.Common.{refl, sym, ap, subst, ◌∙◌}
use Rattle.std.specs.FinMap as finmap
use Rattle.codes.specs.declared.call_number.TheConstants.{ATTACH, MACH_PORT_NAMES, MACH_PORT_TYPE, MACH_PORT_RENAME, MACH_PORT_ALLOCATE_NAME, MACH_PORT_ALLOCATE, MACH_PORT_DESTROY, MACH_PORT_DEALLOCATE, MACH_PORT_GET_REFS, MACH_PORT_MOD_REFS, MACH_PORT_SET_QLIMIT, MACH_PORT_SET_MSCOUNT, MACH_PORT_SET_SEQNO, MACH_PORT_GET_RECEIVE_STATUS, MACH_PORT_GET_SET_STATUS, MACH_PORT_MOVE_MEMBER, MACH_PORT_REQUEST_NOTIFICATION, MACH_PORT_INSERT_RIGHT, MACH_PORT_EXTRACT_RIGHT, MACH_MSG, SPACE_CREATE, SPACE_DESTROY}
use Rattle.codes.specs.declared.kern_return.KernReturn.{KernReturn}
use Rattle.codes.specs.declared.right.Right.TheVariants as right
use Rattle.ipc_model.specs.declared.plain_call.PlainCall.{PlainCall}
use Rattle.ipc_model.specs.declared.plain_call.PlainCall.TheVariants as call
use Rattle.ipc_model.specs.declared.plain_reply.PlainReply.{PlainReply}
use Rattle.ipc_model.specs.declared.plain_reply.PlainReply.TheVariants as reply
use Rattle.ipc_model.specs.declared.entry.Entry.{Entry}
use Rattle.ipc_model.specs.declared.entry.Entry.TheVariants.{Port, SendOnce, Set, Dead}
use Rattle.ipc_model.specs.declared.port.PortState.{PortState}
use Rattle.ipc_model.specs.calls.Actions as actions
use Rattle.ipc_model.specs.calls.Actions.{Action, ActsOn, Done}
use Rattle.ipc_model.specs.rights.CopyIn.{Taken}
use Rattle.ipc_model.specs.effects.Effects.{Effect}
use Rattle.ipc_model.specs.calls.PortCalls.{tests_of, is_right, minus_one}
use Rattle.ipc_model.specs.state.Ipc.{Ipc, Names, received_port}
use Rattle.ipc_model.specs.calls.PlainStep.{ActsIn, is_recorded, succeeded, has_record, number_of_call}
use Rattle.ipc_laws.specs.StepLaws.{Called}
use Rattle.ipc_model.specs.calls.Tests.{first_failing}
use Rattle.ipc_model.specs.encodings.PlainCalls.{records_no_results, number_of_reply, HasItsResults}

-- every call except sends and receives
abbrev pub is_port_call : PlainCall → Bool
is_port_call (call.Send message) = false
is_port_call (call.Receive limit large name waited) = false
is_port_call c = true

-- such a call is refused by its first failing test, or done
pub as_called : (c : PlainCall) (old : Ipc) (space : ℕ) (names : Names) (answer : PlainReply) (new : Ipc)
    (effects : List Effect) → is_port_call c ≡ true → ActsIn old space names c answer new effects
    → Called (first_failing (tests_of old space names c)) old space names c answer new effects
as_called (call.Send message) old space names answer new effects port acts = absurd (cc port)
as_called (call.Receive limit large name waited) old space names answer new effects port acts = absurd (cc port)
as_called c old space names answer new effects port acts = acts

-- a reply of a few words
abbrev pub is_short : PlainReply → Bool
is_short (reply.Names names) = false
is_short (reply.SetStatus members) = false
is_short (reply.Message code size member message) = false
is_short answer = true

-- by the numbers of calls
abbrev number_has_none : ℕ → Bool
number_has_none n =
    not (
    n == MACH_PORT_ALLOCATE || n == MACH_PORT_REQUEST_NOTIFICATION || n == MACH_PORT_EXTRACT_RIGHT ||
    n == MACH_MSG || n == SPACE_CREATE
    )

none_by_number : (c : PlainCall) → records_no_results c ≡ number_has_none (number_of_call c)
none_by_number (call.Allocate kind) = refl
none_by_number c = refl

-- A call that is done answers with a reply of its number and with its results, and no refusal. Only the lists of names
-- and of a set's members are long.
pub record Answered (number : ℕ) (answer : PlainReply) : Type 0 where
  pub success : succeeded answer ≡ true
  pub number_is : number_of_reply answer ≡ number
  pub results : (c : PlainCall) → number_of_call c ≡ number → HasItsResults c answer
  pub short : (number ≢ MACH_PORT_NAMES) → (number ≢ MACH_PORT_GET_SET_STATUS) → is_short answer ≡ true

done_answers : (number : ℕ) → number_has_none number ≡ true → Answered number (reply.Done number)
done_answers number none =
    record {
      success = refl;
      number_is = refl;
      results = λ c same. none_by_number c ∙ ap number_has_none same ∙ none;
      short = λ _ _. refl;
    }

-- an action with this answer
by_answer : (number : ℕ) (action answer : PlainReply) → answer ≡ action → Answered number action → Answered number answer
by_answer number action answer is answered = subst (Answered number) (sym is) answered

by_action : (number : ℕ) (entry : Option Entry) (action : Entry → Action) (answer : PlainReply) (new : Ipc)
    (effects : List Effect) → ((e : Entry) → Answered number (action e).answer) → ActsOn entry action answer new effects
    → Answered number answer
by_action number None action answer new effects each acts = absurd acts
by_action number (Some entry) action answer new effects each acts =
    by_answer number (action entry).answer answer acts.0 (each entry)

by_choice : (number : ℕ) (b : Bool) (one other : Action) → Answered number one.answer → Answered number other.answer
    → Answered number (if b then one else other).answer
by_choice number true one other a b = a
by_choice number false one other a b = b

deallocated_answers : (state : Ipc) (space : ℕ) (names : Names) (name : ℕ) (entry : Entry)
    → Answered MACH_PORT_DEALLOCATE (actions.deallocated state space names name entry).answer
deallocated_answers state space names name (Port rights) = done_answers MACH_PORT_DEALLOCATE refl
deallocated_answers state space names name (SendOnce port target) = done_answers MACH_PORT_DEALLOCATE refl
deallocated_answers state space names name Set = done_answers MACH_PORT_DEALLOCATE refl
deallocated_answers state space names name (Dead references) = done_answers MACH_PORT_DEALLOCATE refl

modified_answers : (state : Ipc) (space : ℕ) (names : Names) (name : ℕ) (entry : Entry) (kind delta : ℕ)
    → Answered MACH_PORT_MOD_REFS (actions.modified state space names name entry kind delta).answer
modified_answers state space names name (Port rights) kind delta =
    by_choice MACH_PORT_MOD_REFS (is_right kind right.Send) _ _ (done_answers MACH_PORT_MOD_REFS refl)
    (by_choice MACH_PORT_MOD_REFS (delta == minus_one) _ _ (done_answers MACH_PORT_MOD_REFS refl)
    (done_answers MACH_PORT_MOD_REFS refl))
modified_answers state space names name (SendOnce port target) kind delta =
    by_choice MACH_PORT_MOD_REFS (delta == minus_one) _ _ (done_answers MACH_PORT_MOD_REFS refl)
    (done_answers MACH_PORT_MOD_REFS refl)
modified_answers state space names name Set kind delta =
    by_choice MACH_PORT_MOD_REFS (delta == minus_one) _ _ (done_answers MACH_PORT_MOD_REFS refl)
    (done_answers MACH_PORT_MOD_REFS refl)
modified_answers state space names name (Dead references) kind delta = done_answers MACH_PORT_MOD_REFS refl

status_answers : (state : Ipc) (port : Option PortState) (serial : ℕ)
    → Answered MACH_PORT_GET_RECEIVE_STATUS (actions.status_action state port serial).answer
status_answers state None serial = done_answers MACH_PORT_GET_RECEIVE_STATUS refl
status_answers state (Some port) serial =
    record { success = refl; number_is = refl; results = λ _ _. tt; short = λ _ _. refl }

status_of_answers : (state : Ipc) (serial : Option ℕ)
    → Answered MACH_PORT_GET_RECEIVE_STATUS (actions.status_action_of state serial).answer
status_of_answers state None = done_answers MACH_PORT_GET_RECEIVE_STATUS refl
status_of_answers state (Some serial) = status_answers state (finmap.get state.ports serial) serial

extracted_answers : (taken : Option Taken) (space : ℕ) (answer : PlainReply) (new : Ipc) (effects : List Effect)
    → actions.Extracted taken space answer new effects → Answered MACH_PORT_EXTRACT_RIGHT answer
extracted_answers None space answer new effects acts = absurd acts
extracted_answers (Some taken) space answer new effects acts =
    by_answer MACH_PORT_EXTRACT_RIGHT (reply.Extracted acts.0 taken.right.kind) answer acts.1
    (record { success = refl; number_is = refl; results = λ _ _. tt; short = λ _ _. refl })

created_answers : (taken : Option Taken) (answer : PlainReply) (new : Ipc) (effects : List Effect)
    → actions.Created taken answer new effects → Answered SPACE_CREATE answer
created_answers None answer new effects acts = absurd acts
created_answers (Some taken) answer new effects acts =
    by_answer SPACE_CREATE (reply.SpaceCreated acts.0 acts.1) answer acts.3
    (record { success = refl; number_is = refl; results = λ _ _. tt; short = λ _ _. refl })

pub answers_done : (old : Ipc) (space : ℕ) (names : Names) (c : PlainCall) (answer : PlainReply) (new : Ipc)
    (effects : List Effect) → Done old space names c answer new effects → Answered (number_of_call c) answer
unfolding Done
answers_done old space names (call.Attach other) answer new effects acts =
    by_answer ATTACH _ answer acts.0 (done_answers ATTACH refl)
answers_done old space names call.Names answer new effects acts =
    by_answer MACH_PORT_NAMES _ answer acts.0
    (record { success = refl; number_is = refl; results = λ _ _. tt; short = λ other _. absurd (other refl) })
answers_done old space names (call.Type name) answer new effects acts =
    by_action MACH_PORT_TYPE _ _ answer new effects
    (λ e. record { success = refl; number_is = refl; results = λ _ _. tt; short = λ _ _. refl }) acts
answers_done old space names (call.Rename from to) answer new effects acts =
    by_action MACH_PORT_RENAME _ _ answer new effects (λ e. done_answers MACH_PORT_RENAME refl) acts
answers_done old space names (call.AllocateName kind name) answer new effects acts =
    by_answer MACH_PORT_ALLOCATE_NAME _ answer acts.0 (done_answers MACH_PORT_ALLOCATE_NAME refl)
answers_done old space names (call.Allocate kind) answer new effects acts =
    by_answer MACH_PORT_ALLOCATE (reply.Allocate acts.0) answer acts.2
    (record { success = refl; number_is = refl; results = λ _ _. tt; short = λ _ _. refl })
answers_done old space names (call.Destroy name) answer new effects acts =
    by_action MACH_PORT_DESTROY _ _ answer new effects (λ e. done_answers MACH_PORT_DESTROY refl) acts
answers_done old space names (call.Deallocate name) answer new effects acts =
    by_action MACH_PORT_DEALLOCATE _ _ answer new effects (deallocated_answers old space names name) acts
answers_done old space names (call.GetRefs name kind) answer new effects acts =
    by_action MACH_PORT_GET_REFS _ _ answer new effects
    (λ e. record { success = refl; number_is = refl; results = λ _ _. tt; short = λ _ _. refl }) acts
answers_done old space names (call.ModRefs name kind delta) answer new effects acts =
    by_action MACH_PORT_MOD_REFS _ _ answer new effects (λ e. modified_answers old space names name e kind delta) acts
answers_done old space names (call.SetQlimit name limit) answer new effects acts =
    by_action MACH_PORT_SET_QLIMIT _ _ answer new effects (λ e. done_answers MACH_PORT_SET_QLIMIT refl) acts
answers_done old space names (call.SetMscount name count) answer new effects acts =
    by_action MACH_PORT_SET_MSCOUNT _ _ answer new effects (λ e. done_answers MACH_PORT_SET_MSCOUNT refl) acts
answers_done old space names (call.SetSeqno name seqno) answer new effects acts =
    by_action MACH_PORT_SET_SEQNO _ _ answer new effects (λ e. done_answers MACH_PORT_SET_SEQNO refl) acts
answers_done old space names (call.GetReceiveStatus name) answer new effects acts =
    by_action MACH_PORT_GET_RECEIVE_STATUS _ _ answer new effects (λ e. status_of_answers old (received_port e)) acts
answers_done old space names (call.GetSetStatus name) answer new effects acts =
    by_answer MACH_PORT_GET_SET_STATUS _ answer acts.0
    (record { success = refl; number_is = refl; results = λ _ _. tt; short = λ _ other. absurd (other refl) })
answers_done old space names (call.MoveMember member after) answer new effects acts =
    by_action MACH_PORT_MOVE_MEMBER _ _ answer new effects (λ e. done_answers MACH_PORT_MOVE_MEMBER refl) acts
answers_done old space names (call.RequestNotification name variant sync notify_name disposition) answer new effects
    acts =
    by_answer MACH_PORT_REQUEST_NOTIFICATION (reply.PreviousTarget acts.0) answer acts.1
    (record { success = refl; number_is = refl; results = λ _ _. tt; short = λ _ _. refl })
answers_done old space names (call.InsertRight name right_name disposition) answer new effects acts =
    by_answer MACH_PORT_INSERT_RIGHT _ answer acts.0 (done_answers MACH_PORT_INSERT_RIGHT refl)
answers_done old space names (call.ExtractRight name disposition) answer new effects acts =
    extracted_answers _ space answer new effects acts
answers_done old space names (call.Send message) answer new effects acts = absurd acts
answers_done old space names (call.Receive limit large name waited) answer new effects acts = absurd acts
answers_done old space names (call.SpaceCreate name disposition) answer new effects acts =
    created_answers _ answer new effects acts
answers_done old space names call.SpaceDestroy answer new effects acts =
    by_answer SPACE_DESTROY _ answer acts.0 (done_answers SPACE_DESTROY refl)

-- a reply to a call that is no send and no receive has the call's number
called_number : (refusal : Option KernReturn) (old : Ipc) (space : ℕ) (names : Names) (c : PlainCall) (answer : PlainReply)
    (new : Ipc) (effects : List Effect) → Called refusal old space names c answer new effects
    → number_of_reply answer ≡ number_of_call c
called_number None old space names c answer new effects acts =
    (answers_done old space names c answer new effects acts).number_is
called_number (Some code) old space names c answer new effects acts = ap number_of_reply acts.0

pub answer_number : (old : Ipc) (space : ℕ) (names : Names) (c : PlainCall) (answer : PlainReply) (new : Ipc)
    (effects : List Effect) → is_port_call c ≡ true → ActsIn old space names c answer new effects
    → number_of_reply answer ≡ number_of_call c
answer_number old space names c answer new effects port acts =
    called_number (first_failing (tests_of old space names c)) old space names c answer new effects
    (as_called c old space names answer new effects port acts)

-- and a reply to a call with a record has the call's results
called_results : (refusal : Option KernReturn) (old : Ipc) (space : ℕ) (names : Names) (c : PlainCall) (answer : PlainReply)
    (new : Ipc) (effects : List Effect) → Called refusal old space names c answer new effects → HasItsResults c answer
called_results None old space names c answer new effects acts =
    (answers_done old space names c answer new effects acts).results c refl
called_results (Some code) old space names c answer new effects acts = subst (HasItsResults c) (sym acts.0) tt

pub answer_results : (old : Ipc) (space : ℕ) (names : Names) (c : PlainCall) (answer : PlainReply) (new : Ipc)
    (effects : List Effect) → is_port_call c ≡ true → ActsIn old space names c answer new effects
    → HasItsResults c answer
answer_results old space names c answer new effects port acts =
    called_results (first_failing (tests_of old space names c)) old space names c answer new effects
    (as_called c old space names answer new effects port acts)

-- Calls that only read.

unread : (entry : Option Entry) (old : Ipc) (read : Entry → PlainReply) (answer : PlainReply) (new : Ipc)
    (effects : List Effect) → ActsOn entry
    (λ e. record { answer = read e; state = old; effects = [] }) answer new effects → (new ≡ old) × (effects ≡ [])
unread None old read answer new effects acts = absurd acts
unread (Some entry) old read answer new effects acts = (acts.1, acts.2)

status_unread : (entry : Option Entry) (old : Ipc) (answer : PlainReply) (new : Ipc) (effects : List Effect)
    → ActsOn entry (λ e. actions.status_action_of old (received_port e)) answer new effects → (new ≡ old)
    × (effects ≡ [])
status_unread None old answer new effects acts = absurd acts
status_unread (Some entry) old answer new effects acts = of_port (received_port entry) acts
  where
    with_state : (port : Option PortState) (serial : ℕ)
        → actions.Acts (actions.status_action old port serial) answer new effects → (new ≡ old) × (effects ≡ [])
    with_state None serial acts = (acts.1, acts.2)
    with_state (Some port) serial acts = (acts.1, acts.2)

    of_port : (serial : Option ℕ) → actions.Acts (actions.status_action_of old serial) answer new effects → (new ≡ old)
        × (effects ≡ [])
    of_port None acts = (acts.1, acts.2)
    of_port (Some serial) acts = with_state (finmap.get old.ports serial) serial acts

done_unrecorded : (old : Ipc) (space : ℕ) (names : Names) (c : PlainCall) (answer : PlainReply) (new : Ipc)
    (effects : List Effect) → is_recorded c ≡ false → Done old space names c answer new effects → (new ≡ old)
    × (effects ≡ [])
unfolding Done
done_unrecorded old space names (call.Attach other) answer new effects unrecorded acts = (acts.1, acts.2)
done_unrecorded old space names call.Names answer new effects unrecorded acts = (acts.1, acts.2)
done_unrecorded old space names (call.Type name) answer new effects unrecorded acts =
    unread _ old _ answer new effects acts
done_unrecorded old space names (call.GetRefs name kind) answer new effects unrecorded acts =
    unread _ old _ answer new effects acts
done_unrecorded old space names (call.GetReceiveStatus name) answer new effects unrecorded acts =
    status_unread _ old answer new effects acts
done_unrecorded old space names (call.GetSetStatus name) answer new effects unrecorded acts = (acts.1, acts.2)
done_unrecorded old space names c answer new effects unrecorded acts = absurd (cc unrecorded)

-- a call that is done and has no record only reads
by_record : (c : PlainCall) (answer : PlainReply) (recorded success : Bool) → is_recorded c ≡ recorded → succeeded answer ≡ true
    → has_record c answer ≡ false → is_recorded c ≡ false
by_record c answer false success is successful none = is
by_record c answer true success is successful none = absurd (cc (is, successful, none))

called_unrecorded : (refusal : Option KernReturn) (old : Ipc) (space : ℕ) (names : Names) (c : PlainCall) (answer : PlainReply)
    (new : Ipc) (effects : List Effect) → has_record c answer ≡ false
    → Called refusal old space names c answer new effects
    → (new ≡ old) × (effects ≡ [])
called_unrecorded (Some code) old space names c answer new effects none acts = (acts.1, acts.2)
called_unrecorded None old space names c answer new effects none acts =
    done_unrecorded old space names c answer new effects
    (by_record c answer (is_recorded c) true refl
    ((answers_done old space names c answer new effects acts).success) none) acts

-- A call without a record changes nothing by itself and sets nothing off.
pub unrecorded_act : (old : Ipc) (space : ℕ) (names : Names) (c : PlainCall) (answer : PlainReply) (new : Ipc)
    (effects : List Effect) → is_port_call c ≡ true → has_record c answer ≡ false
    → ActsIn old space names c answer new effects → (new ≡ old) × (effects ≡ [])
unrecorded_act old space names c answer new effects port none acts =
    called_unrecorded (first_failing (tests_of old space names c)) old space names c answer new effects none
    (as_called c old space names answer new effects port acts)
