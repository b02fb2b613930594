-- Worked examples of rights that are released: notices, and the death of ports.
use Rattle.std.specs.Prelude.{◌≡◌, ℕ, true, false, [], ◌∷◌, None, Some, option_map, refl}
use Rattle.std.proofs.Common.{ap, ◌∙◌}
use Rattle.std.specs.FinMap as finmap
use Rattle.ipc_model.specs.declared.entry.Entry.{Entry}
use Rattle.ipc_model.specs.declared.entry.Entry.TheVariants.{Port, SendOnce, Dead}
use Rattle.ipc_model.specs.declared.message.Message.{Message}
use Rattle.ipc_model.specs.declared.message.RightKind.TheVariants as kind
use Rattle.ipc_model.specs.declared.port.PortState.{PortState}
use Rattle.ipc_model.specs.calls.Actions.{Action, deallocated, destroyed, modified, port_request_set}
use Rattle.ipc_model.specs.state.Circular.{is_circular}
use Rattle.ipc_model.specs.effects.Effects.{release, notify, effect, after_death}
use Rattle.ipc_model.specs.messages.Items.{items_of}
use Rattle.ipc_model.specs.messages.Notices.{notice_message}
use Rattle.ipc_model.specs.messages.Notices as notice
use Rattle.ipc_model.specs.state.Placed.{placed, send_once_count}
use Rattle.ipc_model.specs.calls.PortCalls.{minus_one, target_of_port}
use Rattle.ipc_model.specs.messages.Receiving.{received_encoding, without_oldest}
use Rattle.ipc_rows.specs.RowRules.{rows, entry-after_death}
use Rattle.ipc_rows.specs.RowStates.{rights_to, names_of, in_space_1, with_queue, live, queue_of, message_count}
use Rattle.ipc_model.specs.messages.Sending.{sent}
use Rattle.ipc_model.specs.state.Ipc.{Ipc, new_port, type_of, entry_at}

-- a message that carries a receive right, sent by a send right
abbrev pub carrying : ℕ → Message
carrying serial =
    record {
      destination = kind.Send;
      reply = None;
      id = 9;
      complex = true;
      rights = live kind.Receive serial ∷ [];
      body = 16 ∷ 32 ∷ 1 ∷ 16 ∷ 0 ∷ 0 ∷ 0 ∷ 0 ∷ [];
    }

-- A port's receive right is sent to the port itself; two send references stay with the name.
abbrev pub own_way : Ipc
own_way = in_space_1 ((0x100, rights_to 1 false 2) ∷ []) ((1, new_port) ∷ [])

-- the message would carry the right to its own queue: it is destroyed, with its destination and its right
pub own_way-circular : (sent (record { message = carrying 1; port = 1; state = own_way; notices = [] })).1
    ≡ release kind.Send 1 ∷ release kind.Receive 1 ∷ []
unfolding sent is_circular
own_way-circular = simp rows

pub own_way-not_queued : message_count
    (sent (record { message = carrying 1; port = 1; state = own_way; notices = [] })).0 1 ≡ Some 0
unfolding sent is_circular
own_way-not_queued = simp rows

-- the name still holds a send right, so nothing follows the destination's release
pub own_way-first : effect own_way (release kind.Send 1) ≡ (own_way, [])
unfolding effect placed
own_way-first = simp rows

-- the port dies, and its name is a dead name with as many references
own_way_1-died : (effect own_way (release kind.Receive 1)).0 ≡ after_death own_way 1
unfolding effect
own_way_1-died = simp rows

pub own_way-dead : entry_at (effect own_way (release kind.Receive 1)).0 1 0x100 ≡ Some (Dead 2)
own_way-dead = ap (λ s. entry_at s 1 0x100) own_way_1-died ∙ entry-after_death own_way 1 1 0x100 ∙ simp rows

pub own_way-gone : finmap.get (effect own_way (release kind.Receive 1)).0.ports 1 ≡ None
unfolding effect
own_way-gone = simp rows

-- The receive right of port 1 waits in port 2's queue; that of port 2 is then sent to port 1, by the send right that
-- stays under 0x100. Each would carry the other.
abbrev pub two_ways : Ipc
two_ways = in_space_1 ((0x100, rights_to 1 false 1) ∷ []) ((1, new_port) ∷ (2, with_queue (carrying 1 ∷ [])) ∷ [])

pub two_ways-circular : (sent (record { message = carrying 2; port = 1; state = two_ways; notices = [] })).1
    ≡ release kind.Send 1 ∷ release kind.Receive 2 ∷ []
unfolding sent is_circular
two_ways-circular = simp rows

pub two_ways-first : effect two_ways (release kind.Send 1) ≡ (two_ways, [])
unfolding effect placed
two_ways-first = simp rows

-- the death of port 2 releases the right that its message carries, and then port 1 dies
pub two_ways-second : (effect two_ways (release kind.Receive 2)).1 ≡ release kind.Receive 1 ∷ []
unfolding effect
two_ways-second = simp rows

pub two_ways-second_port : finmap.get (effect two_ways (release kind.Receive 2)).0.ports 2 ≡ None
unfolding effect
two_ways-second_port = simp rows

two_ways_2-died : (effect two_ways (release kind.Receive 2)).0 ≡ after_death two_ways 2
unfolding effect
two_ways_2-died = simp rows

pub two_ways-left : entry_at (effect two_ways (release kind.Receive 2)).0 1 0x100 ≡ Some (rights_to 1 false 1)
two_ways-left = ap (λ s. entry_at s 1 0x100) two_ways_2-died ∙ entry-after_death two_ways 2 1 0x100 ∙ simp rows

abbrev pub one_way : Ipc
one_way = in_space_1 ((0x100, rights_to 1 false 1) ∷ []) ((1, new_port) ∷ [])

one_way_1-died : (effect one_way (release kind.Receive 1)).0 ≡ after_death one_way 1
unfolding effect
one_way_1-died = simp rows

pub two_ways-third : entry_at (effect one_way (release kind.Receive 1)).0 1 0x100 ≡ Some (Dead 1)
two_ways-third = ap (λ s. entry_at s 1 0x100) one_way_1-died ∙ entry-after_death one_way 1 1 0x100 ∙ simp rows

pub two_ways-third_port : finmap.get (effect one_way (release kind.Receive 1)).0.ports 1 ≡ None
unfolding effect
two_ways-third_port = simp rows

-- Port 2 has a port-destroyed request, whose target is port 3. Its receive right waits in the queue of port 1, which
-- dies.
abbrev pub notified_of : PortState
notified_of = record new_port { port_destroyed_target = Some 3 }

abbrev pub to_be_notified : Ipc
to_be_notified =
    in_space_1 ((0x100, rights_to 3 true 0) ∷ [])
    ((1, with_queue (carrying 2 ∷ [])) ∷ (2, notified_of) ∷ (3, new_port) ∷ [])

pub notified-released : (effect to_be_notified (release kind.Receive 1)).1 ≡ release kind.Receive 2 ∷ []
unfolding effect
notified-released = simp rows

abbrev pub carrier_dead : Ipc
carrier_dead = in_space_1 ((0x100, rights_to 3 true 0) ∷ []) ((2, notified_of) ∷ (3, new_port) ∷ [])

-- the receive right goes to port 3 as a notice, and port 2 lives, without the request
pub notified-notice : queue_of (effect carrier_dead (release kind.Receive 2)).0 3
    ≡ Some (notice_message (notice.PortDestroyed 2) ∷ [])
unfolding effect is_circular
notified-notice = simp rows

pub notified-lives : finmap.get (effect carrier_dead (release kind.Receive 2)).0.ports 2 ≡ Some new_port
unfolding effect is_circular
notified-lives = simp rows

pub notified-received : received_encoding (notice_message (notice.PortDestroyed 2)) 0x100 0 (0x101 ∷ [])
    ≡ 0 ∷ 18 ∷ 0 ∷ 128 ∷ 32 ∷ 0 ∷ 0 ∷ 0 ∷ 0 ∷ 0 ∷ 0 ∷ 0 ∷ 0 ∷ 1 ∷ 0 ∷ 0 ∷ 0 ∷ 0 ∷ 0 ∷ 0 ∷ 69 ∷ 0 ∷ 0 ∷ 0 ∷ 16 ∷ 32 ∷ 1 ∷
    16 ∷ 1 ∷ 1 ∷ 0 ∷ 0 ∷ []
unfolding items_of
notified-received = refl

-- a request that would bring the right to its own queue: the port dies
abbrev pub tells_itself : Ipc
tells_itself = in_space_1 [] ((1, record new_port { port_destroyed_target = Some 1 }) ∷ [])

pub itself-dead : finmap.get (effect tells_itself (release kind.Receive 1)).0.ports 1 ≡ None
unfolding effect is_circular
itself-dead = simp rows

-- A name with a send reference and a dead-name request, whose target is port 2.
abbrev pub watched : Entry
watched = Port (record { port = 1; receive = false; send = 1; dead_name_target = Some 2 })

abbrev pub watching : Ipc
watching = in_space_1 ((0x100, watched) ∷ []) ((1, new_port) ∷ (2, new_port) ∷ [])

-- its port dies: a notice, and one more reference
pub watched-notice : (effect watching (release kind.Receive 1)).1 ≡ notify 2 (notice.DeadName 0x100) ∷ []
unfolding effect
watched-notice = simp rows

watching_1-died : (effect watching (release kind.Receive 1)).0 ≡ after_death watching 1
unfolding effect
watching_1-died = simp rows

pub watched-dead : entry_at (effect watching (release kind.Receive 1)).0 1 0x100 ≡ Some (Dead 2)
watched-dead = ap (λ s. entry_at s 1 0x100) watching_1-died ∙ entry-after_death watching 1 1 0x100 ∙ simp rows

pub watched-received : received_encoding (notice_message (notice.DeadName 0x100)) 0x101 0 []
    ≡ 0 ∷ 18 ∷ 0 ∷ 0 ∷ 32 ∷ 0 ∷ 0 ∷ 0 ∷ 0 ∷ 0 ∷ 0 ∷ 0 ∷ 1 ∷ 1 ∷ 0 ∷ 0 ∷ 0 ∷ 0 ∷ 0 ∷ 0 ∷ 72 ∷ 0 ∷ 0 ∷ 0 ∷ 15 ∷ 32 ∷ 1 ∷
    16 ∷ 0 ∷ 1 ∷ 0 ∷ 0 ∷ []
watched-received = refl

-- the notice stands in its target's queue
pub watched-queued : queue_of (effect watching (notify 2 (notice.DeadName 0x100))).0 2
    ≡ Some (notice_message (notice.DeadName 0x100) ∷ [])
unfolding effect
watched-queued = simp rows

-- the name is deallocated before: another notice, and the name is no longer in use
abbrev pub watched_deallocated : Action
watched_deallocated = deallocated watching 1 (names_of ((0x100, watched) ∷ [])) 0x100 watched

pub watched-deleted : watched_deallocated.effects ≡ release kind.Send 1 ∷ notify 2 (notice.PortDeleted 0x100) ∷ []
watched-deleted = refl

pub watched-unused : entry_at watched_deallocated.state 1 0x100 ≡ None
watched-unused = simp rows

pub watched-deleted_received : received_encoding (notice_message (notice.PortDeleted 0x100)) 0x101 0 []
    ≡ 0 ∷ 18 ∷ 0 ∷ 0 ∷ 32 ∷ 0 ∷ 0 ∷ 0 ∷ 0 ∷ 0 ∷ 0 ∷ 0 ∷ 1 ∷ 1 ∷ 0 ∷ 0 ∷ 0 ∷ 0 ∷ 0 ∷ 0 ∷ 65 ∷ 0 ∷ 0 ∷ 0 ∷ 15 ∷ 32 ∷ 1 ∷
    16 ∷ 0 ∷ 1 ∷ 0 ∷ 0 ∷ []
watched-deleted_received = refl

-- The target may be the port that dies: there is one more reference all the same, and the notice is dropped.
abbrev pub watched_by_itself : Entry
watched_by_itself = Port (record { port = 1; receive = false; send = 1; dead_name_target = Some 1 })

abbrev pub watching_itself : Ipc
watching_itself = in_space_1 ((0x100, watched_by_itself) ∷ []) ((1, new_port) ∷ [])

watching_itself_1-died : (effect watching_itself (release kind.Receive 1)).0 ≡ after_death watching_itself 1
unfolding effect
watching_itself_1-died = simp rows

pub by_itself-dead : entry_at (effect watching_itself (release kind.Receive 1)).0 1 0x100 ≡ Some (Dead 2)
by_itself-dead =
    ap (λ s. entry_at s 1 0x100) watching_itself_1-died ∙ entry-after_death watching_itself 1 1 0x100 ∙ simp rows

pub by_itself-notice : (effect watching_itself (release kind.Receive 1)).1 ≡ notify 1 (notice.DeadName 0x100) ∷ []
unfolding effect
by_itself-notice = simp rows

pub by_itself-dropped : effect (in_space_1 ((0x100, Dead 2) ∷ []) []) (notify 1 (notice.DeadName 0x100))
    ≡ (in_space_1 ((0x100, Dead 2) ∷ []) [], [])
unfolding effect
by_itself-dropped = simp rows

-- where the target died before, the request is gone
watching_2-died : (effect watching (release kind.Receive 2)).0 ≡ after_death watching 2
unfolding effect
watching_2-died = simp rows

pub target-gone : entry_at (effect watching (release kind.Receive 2)).0 1 0x100 ≡ Some (rights_to 1 false 1)
target-gone = ap (λ s. entry_at s 1 0x100) watching_2-died ∙ entry-after_death watching 2 1 0x100 ∙ simp rows

-- A new port from which no send right was made yet: a no-senders request with sync 1 is kept, and one with sync 0 is
-- answered at once.
abbrev pub new_one : Ipc
new_one = in_space_1 ((0x100, rights_to 1 true 0) ∷ []) ((1, new_port) ∷ [])

pub no_senders-kept : (port_request_set new_one 70 1 1 (Some 1)).1 ≡ []
unfolding placed
no_senders-kept = simp rows

pub no_senders-kept_target : option_map
    (λ (port : PortState). port.no_senders_target) (finmap.get (port_request_set new_one 70 1 1 (Some 1)).0.ports 1)
    ≡ Some (Some 1)
unfolding placed
no_senders-kept_target = simp rows

pub no_senders-at_once : (port_request_set new_one 70 0 1 (Some 1)).1 ≡ notify 1 (notice.NoSenders 0) ∷ []
unfolding placed
no_senders-at_once = simp rows

-- and then none is kept, even where there was one
abbrev pub asked : PortState
asked = record new_port { no_senders_target = Some 2 }

pub no_senders-none_kept : option_map
    (λ (port : PortState). port.no_senders_target)
    (finmap.get (port_request_set (in_space_1 [] ((1, asked) ∷ [])) 70 0 1 (Some 1)).0.ports 1) ≡ Some None
unfolding placed
no_senders-none_kept = simp rows

-- the former target comes back all the same
pub no_senders-former : target_of_port (in_space_1 [] ((1, asked) ∷ [])) 70 (Some 1) ≡ Some 2
no_senders-former = simp rows

-- the last send right of a port goes: its request is answered
abbrev pub last_sender : Ipc
last_sender =
    in_space_1 ((0x100, rights_to 1 true 0) ∷ [])
    ((1, record new_port { make_send_count = 1; no_senders_target = Some 1 }) ∷ [])

pub no_senders-notice : queue_of (effect last_sender (release kind.Send 1)).0 1
    ≡ Some (notice_message (notice.NoSenders 1) ∷ [])
unfolding effect placed
no_senders-notice = simp rows

pub no_senders-answered : option_map
    (λ (port : PortState). port.no_senders_target) (finmap.get (effect last_sender (release kind.Send 1)).0.ports 1)
    ≡ Some None
unfolding effect placed
no_senders-answered = simp rows

pub no_senders-received : received_encoding (notice_message (notice.NoSenders 1)) 0x100 0 []
    ≡ 0 ∷ 18 ∷ 0 ∷ 0 ∷ 32 ∷ 0 ∷ 0 ∷ 0 ∷ 0 ∷ 0 ∷ 0 ∷ 0 ∷ 0 ∷ 1 ∷ 0 ∷ 0 ∷ 0 ∷ 0 ∷ 0 ∷ 0 ∷ 70 ∷ 0 ∷ 0 ∷ 0 ∷ 2 ∷ 32 ∷ 1 ∷ 16
    ∷ 1 ∷ 0 ∷ 0 ∷ 0 ∷ []
no_senders-received = refl

-- a send right to the same port, which the message brought, keeps the count above zero
abbrev pub brought_sender : Ipc
brought_sender =
    in_space_1 ((0x100, rights_to 1 true 1) ∷ [])
    ((1, record new_port { make_send_count = 1; no_senders_target = Some 1 }) ∷ [])

pub no_senders-not_yet : effect brought_sender (release kind.Send 1) ≡ (brought_sender, [])
unfolding effect placed
no_senders-not_yet = simp rows

-- A name with the last send right and the receive right is destroyed: the send right goes first.
pub destroy-send_first : (destroyed brought_sender 1 (names_of ((0x100, rights_to 1 true 1) ∷ [])) 0x100
    (rights_to 1 true 1)).effects ≡ release kind.Send 1 ∷ release kind.Receive 1 ∷ []
destroy-send_first = refl

-- its release is answered before the port dies, so the notice goes out
abbrev pub last_rights : Ipc
last_rights =
    in_space_1 [] ((1, record new_port { make_send_count = 1; no_senders_target = Some 2 }) ∷ (2, new_port) ∷ [])

pub destroy-notice : queue_of (effect last_rights (release kind.Send 1)).0 2
    ≡ Some (notice_message (notice.NoSenders 1) ∷ [])
unfolding effect placed
destroy-notice = simp rows

-- A send-once right that isn't used: its name goes, and a notice is sent by it, which holds the right.
abbrev pub unused : Ipc
unused = in_space_1 ((0x100, rights_to 1 true 0) ∷ (0x101, SendOnce 1 None) ∷ []) ((1, new_port) ∷ [])

pub once-destroyed : (destroyed unused 1 (names_of ((0x100, rights_to 1 true 0) ∷ (0x101, SendOnce 1 None) ∷ [])) 0x101
    (SendOnce 1 None)).effects ≡ release kind.SendOnce 1 ∷ []
once-destroyed = refl

pub once-notice : queue_of (effect new_one (release kind.SendOnce 1)).0 1 ≡ Some (notice_message notice.SendOnce ∷ [])
unfolding effect
once-notice = simp rows

pub once-counted : send_once_count (effect new_one (release kind.SendOnce 1)).0 1 ≡ 1
unfolding effect placed
once-counted = simp rows

pub once-received : received_encoding (notice_message notice.SendOnce) 0x100 0 []
    ≡ 0 ∷ 18 ∷ 0 ∷ 0 ∷ 24 ∷ 0 ∷ 0 ∷ 0 ∷ 0 ∷ 0 ∷ 0 ∷ 0 ∷ 0 ∷ 1 ∷ 0 ∷ 0 ∷ 0 ∷ 0 ∷ 0 ∷ 0 ∷ 71 ∷ 0 ∷ 0 ∷ 0 ∷ []
once-received = refl

abbrev pub once_waits : Ipc
once_waits = in_space_1 ((0x100, rights_to 1 true 0) ∷ []) ((1, with_queue (notice_message notice.SendOnce ∷ [])) ∷ [])

pub once-counted_after : send_once_count (without_oldest once_waits 1) 1 ≡ 0
unfolding placed
once-counted_after = simp rows

-- the receive right goes while there is a send-once right: a dead name with one reference, and no notice
pub once-port_gone : (modified unused 1 (names_of ((0x100, rights_to 1 true 0) ∷ (0x101, SendOnce 1 None) ∷ [])) 0x100
    (rights_to 1 true 0) 1 minus_one).effects ≡ release kind.Receive 1 ∷ []
once-port_gone = refl

unused_1-died : (effect unused (release kind.Receive 1)).0 ≡ after_death unused 1
unfolding effect
unused_1-died = simp rows

pub once-dead : entry_at (effect unused (release kind.Receive 1)).0 1 0x101 ≡ Some (Dead 1)
once-dead = ap (λ s. entry_at s 1 0x101) unused_1-died ∙ entry-after_death unused 1 1 0x101 ∙ simp rows

pub once-no_notice : (effect unused (release kind.Receive 1)).1 ≡ []
unfolding effect
once-no_notice = simp rows

pub once-dead_type : type_of (Dead 1) ≡ 0x100000
once-dead_type = refl
