-- Worked examples of receives: from where, what is refused, and what stays of the port.
use Rattle.std.specs.Prelude.{◌≡◌, ℕ, Bool, true, false, nat_lt, List, [], ◌∷◌, None, Some, option_map, refl}
use Rattle.std.specs.FinMap as finmap
use Rattle.codes.specs.declared.kern_return.KernReturn.TheVariants.{RcvTooLarge, RcvTimedOut, RcvInSet, RcvInvalidName, RcvPortDied, RcvPortChanged}
use Rattle.ipc_model.specs.declared.plain_call.PlainCall.TheVariants as call
use Rattle.ipc_model.specs.declared.entry.Entry.{Entry}
use Rattle.ipc_model.specs.declared.entry.Entry.TheVariants.{Set, Dead}
use Rattle.ipc_model.specs.declared.message.PortInMessage.TheVariants as in_message
use Rattle.ipc_model.specs.declared.message.RightKind.TheVariants as kind
use Rattle.ipc_model.specs.declared.port.PortState.{PortState}
use Rattle.ipc_model.specs.rights.CopyOut.{names_needed}
use Rattle.ipc_model.specs.effects.Effects.{release}
use Rattle.ipc_model.specs.messages.Receiving.{ReceiveArguments, destination_consumed, lacks_names, message_size, without_oldest, without_message, receive_refusal, sources}
use Rattle.ipc_rows.specs.RowRules.{rows}
use Rattle.ipc_rows.specs.RowStates.{rights_to, names_of, in_space_1, with_queue, plain, live, queue_of, asking, hello}
use Rattle.ipc_model.specs.state.Ipc.{Ipc, Names, new_port}
use Rattle.ipc_model.specs.calls.PlainStep.{has_record}

-- a set at 0x102 with the members 0x100 and 0x101, at each of which a message waits
abbrev pub in_set : List (ℕ × Entry)
in_set = (0x100, rights_to 1 true 0) ∷ (0x101, rights_to 2 true 0) ∷ (0x102, Set) ∷ []

abbrev pub two_members : Ipc
two_members = in_space_1 in_set
    ((1, record (with_queue (plain kind.SendOnce 7 [] ∷ [])) { set = Some 0x102 }) ∷
    (2, record (with_queue (plain kind.SendOnce 8 [] ∷ [])) { set = Some 0x102 }) ∷ [])

abbrev pub attempt : ℕ → Bool → ReceiveArguments
attempt name waited = record { limit = 100; large = false; name = name; waited = waited }

-- a receive from the set may take the message of either
pub set-sources : sources two_members (names_of in_set) 0x102 (Some Set) ≡ Some (0x100 ∷ 0x101 ∷ [])
set-sources = simp rows

pub set-passes : receive_refusal two_members (names_of in_set) (attempt 0x102 false) ≡ None
set-passes = simp rows

-- the one that was taken has sequence number 1 and no message, and the other is as before
pub set-taken : queue_of (without_oldest two_members 1) 1 ≡ Some []
set-taken = simp rows

pub set-taken_numbered : option_map
    (λ (port : PortState). port.sequence_number) (finmap.get (without_oldest two_members 1).ports 1) ≡ Some 1
set-taken_numbered = simp rows

pub set-other : queue_of (without_oldest two_members 1) 2 ≡ Some (plain kind.SendOnce 8 [] ∷ [])
set-other = simp rows

pub set-other_numbered : option_map
    (λ (port : PortState). port.sequence_number) (finmap.get (without_oldest two_members 1).ports 2) ≡ Some 0
set-other_numbered = simp rows

-- a member gives its messages only through the set; after a wait the code says that this has changed
pub member-refused : receive_refusal two_members (names_of in_set) (attempt 0x100 false) ≡ Some RcvInSet
member-refused = simp rows

pub member-refused_after_wait : receive_refusal two_members (names_of in_set) (attempt 0x100 true) ≡ Some RcvPortChanged
member-refused_after_wait = simp rows

-- a name with neither a receive right nor a set
pub no_source : receive_refusal (in_space_1 ((0x100, rights_to 1 false 1) ∷ []) [])
    (names_of ((0x100, rights_to 1 false 1) ∷ [])) (attempt 0x100 false) ≡ Some RcvInvalidName
no_source = simp rows

pub no_source-after_wait : receive_refusal (in_space_1 ((0x100, Dead 1) ∷ []) []) (names_of ((0x100, Dead 1) ∷ []))
    (attempt 0x100 true) ≡ Some RcvPortDied
no_source-after_wait = simp rows

-- an empty queue
abbrev pub alone : List (ℕ × Entry)
alone = (0x100, rights_to 1 true 1) ∷ []

pub empty-refused : receive_refusal (in_space_1 alone ((1, new_port) ∷ [])) (names_of alone) (attempt 0x100 false)
    ≡ Some RcvTimedOut
empty-refused = simp rows

-- A message of 28 bytes with limit 24 is too large. The receive has no record if the message stays, and has one if it
-- is destroyed.
pub large-size : nat_lt 24 (message_size hello) ≡ true
large-size = refl

pub large-kept : has_record (call.Receive 24 true 0x100 false) (without_message RcvTooLarge 28 0x100) ≡ false
large-kept = refl

pub large-destroyed : has_record (call.Receive 24 false 0x100 false) (without_message RcvTooLarge 28 0x100) ≡ true
large-destroyed = refl

pub large-taken_out : queue_of (without_oldest (in_space_1 alone ((1, with_queue (hello ∷ [])) ∷ [])) 1) 1 ≡ Some []
large-taken_out = simp rows

pub large-numbered : option_map
    (λ (port : PortState). port.sequence_number)
    (finmap.get (without_oldest (in_space_1 alone ((1, with_queue (hello ∷ [])) ∷ [])) 1).ports 1) ≡ Some 1
large-numbered = simp rows

-- an attempt that found no message has no record
pub timed_out-no_record : has_record (call.Receive 28 false 0x100 false) (without_message RcvTimedOut 0 0) ≡ false
timed_out-no_record = refl

-- The send right by which a message came is released; a send-once right vanishes.
pub consumed-send : destination_consumed kind.Send 1 ≡ release kind.Send 1 ∷ []
consumed-send = refl

pub consumed-once : destination_consumed kind.SendOnce 1 ≡ []
consumed-once = refl

-- How many names arriving rights need: one for each send-once right, one for each port that has none yet.
abbrev pub of_port : List (ℕ × Entry)
of_port = (0x100, rights_to 1 true 0) ∷ []

pub wanted-known : names_needed (names_of of_port) [] (live kind.Send 1 ∷ live kind.Send 1 ∷ []) ≡ 0
wanted-known = simp rows

pub wanted-new_port : names_needed (names_of of_port) []
    (live kind.Send 2 ∷ live kind.Receive 2 ∷ live kind.Send 2 ∷ []) ≡ 1
wanted-new_port = simp rows

pub wanted-once : names_needed (names_of of_port) [] (live kind.SendOnce 1 ∷ live kind.SendOnce 1 ∷ []) ≡ 2
wanted-once = refl

pub wanted-null : names_needed (names_of of_port) []
    ((record { kind = kind.Send; port = in_message.Null }) ∷ (record { kind = kind.SendOnce; port = in_message.Dead }) ∷
    []) ≡ 0
wanted-null = refl

-- a full space has no room for a send-once right that comes to reply by
pub full-lacks : (names : Names) → finmap.len names ≡ 4096 → lacks_names names asking ≡ true
full-lacks names full = rw full refl

pub nearly_full-has : (names : Names) → finmap.len names ≡ 4095 → lacks_names names asking ≡ false
nearly_full-has names nearly = rw nearly refl
