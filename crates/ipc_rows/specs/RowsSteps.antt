-- Worked examples of whole steps: the answer, and the state once all effects have settled.
use Rattle.std.specs.Prelude.{◌≡◌, true, false, replicate, List, [], ◌∷◌, Option, None, Some, refl}
use Rattle.std.specs.FinMap as finmap
use Rattle.codes.specs.declared.kern_return.KernReturn.TheVariants.{Success, InvalidName, InvalidTask, SendTimedOut}
use Rattle.ipc_model.specs.declared.plain_call.PlainCall.{PlainCall}
use Rattle.ipc_model.specs.declared.plain_reply.PlainReply.{PlainReply}
use Rattle.ipc_model.specs.declared.plain_call.PlainCall.TheVariants as call
use Rattle.ipc_model.specs.declared.plain_reply.PlainReply.TheVariants as reply
use Rattle.ipc_model.specs.declared.entry.Entry.TheVariants.{Dead}
use Rattle.ipc_model.specs.declared.message.RightKind.TheVariants as kind
use Rattle.ipc_model.specs.calls.Actions.{Done, allocated}
use Rattle.ipc_model.specs.rights.CopyIn.{copy_in, taken_keeping, moved_port}
use Rattle.ipc_model.specs.rights.Dispositions.{CopySend, MoveReceive}
use Rattle.ipc_model.specs.state.Circular.{is_circular}
use Rattle.ipc_model.specs.effects.Effects.{settled, effect, release, queued, after_death}
use Rattle.ipc_model.specs.messages.Items.{Item, items_of}
use Rattle.ipc_model.specs.state.Placed.{placed}
use Rattle.ipc_model.specs.calls.PortCalls.{tests_of}
use Rattle.ipc_laws.specs.MapLaws.{map_rules}
use Rattle.ipc_rows.specs.RowRules.{rows, settles_adding, take_one, entry-after_death}
use Rattle.ipc_rows.specs.RowStates.{rights_to, names_of, in_space_1, with_queue, live, one_port, hello, hello_as_sent}
use Rattle.ipc_model.specs.messages.Sending.{ready_to_send, sent, take_items, TakenRights}
use Rattle.ipc_model.specs.state.Ipc.{Ipc, opening_ipc, new_port, with_names, with_port, with_entry, entry_at}
use Rattle.std.proofs.Common.{ap, ◌∙◌, arith}
use Rattle.ipc_model.specs.messages.Receiving.{without_oldest}
use Rattle.ipc_model.specs.calls.PlainStep.{PlainStep, ActsFrom}

-- the type of a name that is in use, and of one that isn't
pub type-step : PlainStep (one_port []) 1 (call.Type 0x100) (reply.Type 0x30000) (one_port [])
unfolding PlainStep Done tests_of
type-step = (one_port [], [], simp rows (refl, refl, refl), settled)

pub unknown-step : PlainStep (one_port []) 1 (call.Type 0x1ff) (reply.Refused 2 InvalidName) (one_port [])
unfolding PlainStep Done tests_of
unknown-step = (one_port [], [], simp rows (refl, refl, refl), settled)

-- a caller whose space is gone
pub gone-step : PlainStep (one_port []) 2 (call.Type 0x100) (reply.Refused 2 InvalidTask) (one_port [])
unfolding PlainStep
gone-step = (one_port [], [], simp rows (refl, refl, refl), settled)

-- a message is sent, and stands in the queue
pub send-step : PlainStep (one_port []) 1 (call.Send hello_as_sent) (reply.Message Success 0 0 [])
    (queued (one_port []) 1 hello)
unfolding PlainStep ready_to_send copy_in sent
send-step = (queued (one_port []) 1 hello, [], simp rows (refl, refl, refl), settled)

-- a sixth message is stopped by the limit, and nothing changes
pub full-step : PlainStep (one_port (replicate 5 hello)) 1 (call.Send hello_as_sent) (reply.Message SendTimedOut 0 0 [])
    (one_port (replicate 5 hello))
unfolding PlainStep ready_to_send copy_in
full-step = (one_port (replicate 5 hello), [], simp rows (refl, refl, refl), settled)

-- The first name that a new store's task allocates.
pub allocate-acts : ActsFrom opening_ipc 1 (finmap.get opening_ipc.spaces 1) (call.Allocate 1)
    (reply.Allocate 0x100) (allocated opening_ipc 1 finmap.empty 1 0x100) []
unfolding Done tests_of
allocate-acts =
    simp rows (0x100, record { least = omega arith; below_dead = omega arith; free = simp map_rules }, refl, refl, refl)

pub allocate-step : PlainStep opening_ipc 1 (call.Allocate 1) (reply.Allocate 0x100)
    (allocated opening_ipc 1 finmap.empty 1 0x100)
unfolding PlainStep
allocate-step = (allocated opening_ipc 1 finmap.empty 1 0x100, [], allocate-acts, settled)

-- A send right is made under the same name.
abbrev pub alone : Ipc
alone = in_space_1 ((0x100, rights_to 1 true 0) ∷ []) ((1, new_port) ∷ [])

abbrev pub with_sender : Ipc
with_sender =
    with_names (with_port alone 1 (λ port. record port { make_send_count = 1 })) 1
    (finmap.insert (names_of ((0x100, rights_to 1 true 0) ∷ [])) 0x100 (rights_to 1 true 1))

pub insert-acts : ActsFrom alone 1 (finmap.get alone.spaces 1) (call.InsertRight 0x100 0x100 20)
    (reply.Done 17) with_sender []
unfolding Done tests_of copy_in
insert-acts = simp rows (refl, (refl, refl))

pub insert-step : PlainStep alone 1 (call.InsertRight 0x100 0x100 20) (reply.Done 17) with_sender
unfolding PlainStep
insert-step = (with_sender, [], insert-acts, settled)

-- A receive brings the message, and releases the send right by which it came.
abbrev pub received_state : Ipc
received_state = with_names (without_oldest (one_port (hello ∷ [])) 1) 1 (names_of ((0x100, rights_to 1 true 1) ∷ []))

abbrev pub hello_received : PlainReply
hello_received =
    reply.Message Success 28 0x100
    (0 ∷ 17 ∷ 0 ∷ 0 ∷ 28 ∷ 0 ∷ 0 ∷ 0 ∷ 0 ∷ 0 ∷ 0 ∷ 0 ∷ 0 ∷ 1 ∷ 0 ∷ 0 ∷ 0 ∷ 0 ∷ 0 ∷ 0 ∷ 7 ∷ 0 ∷ 0 ∷ 0 ∷ 68 ∷ 51 ∷ 34
    ∷ 17 ∷ [])

pub receive-acts : ActsFrom (one_port (hello ∷ [])) 1 (finmap.get (one_port (hello ∷ [])).spaces 1)
    (call.Receive 28 false 0x100 false) hello_received received_state (release kind.Send 1 ∷ [])
receive-acts = simp rows (record {
  member = 0x100;
  serial = 1;
  port = with_queue (hello ∷ []);
  message = hello;
  later = [];
  is_source = simp rows (0, omega arith, refl);
  holds = simp rows (rights_to 1 true 1, refl, refl);
  live = simp rows;
  first = refl;
  takes = simp rows ([], names_of ((0x100, rights_to 1 true 1) ∷ []), (refl, refl), refl, refl, refl);
})

pub receive-released : (effect received_state (release kind.Send 1)).1 ≡ []
unfolding effect placed
receive-released = simp rows

pub receive-step : PlainStep (one_port (hello ∷ [])) 1 (call.Receive 28 false 0x100 false) hello_received
    (effect received_state (release kind.Send 1)).0
unfolding PlainStep
receive-step = (received_state, release kind.Send 1 ∷ [], receive-acts, settles_adding [] receive-released settled)

pub receive-left : (effect received_state (release kind.Send 1)).0 ≡ received_state
unfolding effect placed
receive-left = simp rows

-- A receive right that is sent to its own port, as bytes. The name keeps its two send references.
abbrev pub owner : Ipc
owner = in_space_1 ((0x100, rights_to 1 true 2) ∷ []) ((1, new_port) ∷ [])

abbrev pub moved : Ipc
moved = with_entry (moved_port owner 1) 1 0x100 (rights_to 1 false 2)

abbrev pub circle : PlainCall
circle =
    call.Send (19 ∷ 0 ∷ 0 ∷ 128 ∷ 32 ∷ 0 ∷ 0 ∷ 0 ∷ 0 ∷ 1 ∷ 0 ∷ 0 ∷ 0 ∷ 0 ∷ 0 ∷ 0 ∷ 0 ∷ 0 ∷ 0 ∷ 0 ∷ 9 ∷ 0 ∷ 0 ∷ 0 ∷ 16 ∷
    32 ∷ 1 ∷ 16 ∷ 0 ∷ 1 ∷ 0 ∷ 0 ∷ [])

pub circle-destination : copy_in owner 1 0x100 CopySend ≡ Some (taken_keeping owner (live kind.Send 1))
unfolding copy_in
circle-destination = simp rows

pub circle-right : copy_in owner 1 0x100 MoveReceive
    ≡ Some (record { right = live kind.Receive 1; state = moved; notices = [] })
unfolding copy_in
circle-right = simp rows

abbrev pub circle_items : List Item
circle_items = (record { type_name = 16; bits = 32; number = 1; is_long = false; content = 0 ∷ 1 ∷ 0 ∷ 0 ∷ [] }) ∷ []

abbrev pub none_taken : Ipc → TakenRights
none_taken state = record { rights = []; state = state; notices = [] }

pub circle-rights : take_items 1 circle_items (none_taken owner)
    ≡ Some (record { rights = live kind.Receive 1 ∷ []; state = moved; notices = [] })
circle-rights =
    let then_others : Option TakenRights → Option TakenRights =
    λ o. elim o as (λ _. Option TakenRights) [ None ↦ None | Some next ↦ Some next ] in
    ap then_others (take_one 1 0x100 MoveReceive [] (none_taken owner)
    (record { right = live kind.Receive 1; state = moved; notices = [] }) refl circle-right)

-- it is destroyed at once, with its destination and the receive right
pub circle-acts : ActsFrom owner 1 (finmap.get owner.spaces 1) circle (reply.Message Success 0 0 []) moved
    (release kind.Send 1 ∷ release kind.Receive 1 ∷ [])
unfolding ready_to_send items_of sent is_circular
circle-acts = simp (rows, circle-destination) (rw circle-rights (simp rows (refl, refl, refl)))

pub circle-first : (effect moved (release kind.Send 1)).1 ≡ []
unfolding effect placed
circle-first = simp rows

pub circle-second : (effect (effect moved (release kind.Send 1)).0 (release kind.Receive 1)).1 ≡ []
unfolding effect placed
circle-second = simp rows

abbrev pub circle_end : Ipc
circle_end = (effect (effect moved (release kind.Send 1)).0 (release kind.Receive 1)).0

pub circle-step : PlainStep owner 1 circle (reply.Message Success 0 0 []) circle_end
unfolding PlainStep
circle-step = (
  moved,
  release kind.Send 1 ∷ release kind.Receive 1 ∷ [],
  circle-acts,
  settles_adding [] circle-first (settles_adding [] circle-second settled),
)

-- and its name is left as a dead name, with its references
pub circle-left : (effect moved (release kind.Send 1)).0 ≡ moved
unfolding effect placed
circle-left = simp rows

pub circle-died : (effect moved (release kind.Receive 1)).0 ≡ after_death moved 1
unfolding effect
circle-died = simp rows

pub circle-dead : entry_at circle_end 1 0x100 ≡ Some (Dead 2)
circle-dead =
    ap (λ (s : Ipc). entry_at (effect s (release kind.Receive 1)).0 1 0x100) circle-left ∙ ap
    (λ (s : Ipc). entry_at s 1 0x100) circle-died ∙ entry-after_death moved 1 1 0x100 ∙ simp rows
