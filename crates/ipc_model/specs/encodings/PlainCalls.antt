-- Plain calls and their replies in bytes, with one canonical encoding each.
use Rattle.std.specs.Prelude.{◌≡◌, ℕ, ◌+◌, ◌^◌, ◌%◌, ◌<◌, ◌≤◌, Bool, true, false, IsTrue, List, [], ◌++◌, length, All, flat_map, MatchBool, if◌then◌else◌}
use Rattle.codes.specs.declared.call_number.TheConstants.{MACH_PORT_NAMES, MACH_PORT_TYPE, MACH_PORT_ALLOCATE, MACH_PORT_GET_REFS, MACH_PORT_GET_RECEIVE_STATUS, MACH_PORT_GET_SET_STATUS, MACH_PORT_REQUEST_NOTIFICATION, MACH_PORT_EXTRACT_RIGHT, MACH_MSG, SPACE_CREATE}
use Rattle.codes.specs.KernReturn.{number_of}
use Rattle.codes.specs.declared.kern_return.KernReturn.{KernReturn}
use Rattle.codes.specs.declared.limits.TheConstants.{MAX_MESSAGE_SIZE}
use Rattle.codes.specs.declared.name.TheConstants.{MACH_PORT_DEAD, MACH_PORT_NULL}
use Rattle.ipc_model.specs.declared.plain_call.PlainCall.{PlainCall}
use Rattle.ipc_model.specs.declared.plain_call.PlainCall.TheVariants as call
use Rattle.ipc_model.specs.declared.plain_reply.NamedType.{NamedType}
use Rattle.ipc_model.specs.declared.plain_reply.ReceiveStatus.{ReceiveStatus}
use Rattle.ipc_model.specs.declared.plain_reply.PlainReply.{PlainReply}
use Rattle.ipc_model.specs.declared.plain_reply.PlainReply.TheVariants as reply
use Rattle.ipc_model.specs.rights.Dispositions.{number_of_kind}
use Rattle.ipc_model.specs.messages.Kept.{canonical_message}
use Rattle.ipc_model.specs.messages.Messages.{header_length}
use Rattle.ipc_model.specs.calls.PlainStep.{number_of_call, has_record, is_success}
use Rattle.words.specs.Words.{AreBytes, word}

-- the options of mach_msg: MACH_SEND_MSG, MACH_RCV_MSG, and MACH_RCV_LARGE along with the latter
abbrev pub send_option : ℕ
send_option = 1

abbrev pub receive_option : Bool → ℕ
receive_option large = if large then 0x802 else 2

abbrev pub number_of_bool : Bool → ℕ
number_of_bool b = if b then 1 else 0

-- The arguments of a call, each a word. mach_msg has its option, the greatest size, the name and a timeout, and after
-- them the message. What the send or the receive doesn't use is 0, and a receive that followed a wait has 1 for its
-- timeout.
abbrev pub arguments_encoding : PlainCall → List ℕ
arguments_encoding (call.Attach space) = word space
arguments_encoding call.Names = []
arguments_encoding (call.Type name) = word name
arguments_encoding (call.Rename from to) = word from ++ word to
arguments_encoding (call.AllocateName kind name) = word kind ++ word name
arguments_encoding (call.Allocate kind) = word kind
arguments_encoding (call.Destroy name) = word name
arguments_encoding (call.Deallocate name) = word name
arguments_encoding (call.GetRefs name kind) = word name ++ word kind
arguments_encoding (call.ModRefs name kind delta) = word name ++ (word kind ++ word delta)
arguments_encoding (call.SetQlimit name limit) = word name ++ word limit
arguments_encoding (call.SetMscount name count) = word name ++ word count
arguments_encoding (call.SetSeqno name seqno) = word name ++ word seqno
arguments_encoding (call.GetReceiveStatus name) = word name
arguments_encoding (call.GetSetStatus name) = word name
arguments_encoding (call.MoveMember member after) = word member ++ word after
arguments_encoding (call.RequestNotification name variant sync notify_name disposition) =
    word name ++ (word variant ++ (word sync ++ (word notify_name ++ word disposition)))
arguments_encoding (call.InsertRight name right_name disposition) = word name ++ (word right_name ++ word disposition)
arguments_encoding (call.ExtractRight name disposition) = word name ++ word disposition
arguments_encoding (call.Send message) = word send_option ++ (word 0 ++ (word 0 ++ (word 0 ++ message)))
arguments_encoding (call.Receive limit large name waited) =
    word (receive_option large) ++ (word limit ++ (word name ++ word (number_of_bool waited)))
arguments_encoding (call.SpaceCreate name disposition) = word name ++ word disposition
arguments_encoding call.SpaceDestroy = []

-- the content of a call's frame: its number and its arguments
unfoldable pub call_encoding : PlainCall → List ℕ
call_encoding c = word (number_of_call c) ++ arguments_encoding c

abbrev pub status_encoding : ReceiveStatus → List ℕ
status_encoding status =
    word status.set ++ (word status.sequence_number
    ++ (word status.make_send_count ++ (word status.limit ++ (word status.messages
    ++ (word status.send_once_count
    ++ (word (number_of_bool status.has_senders)
    ++ (word (number_of_bool status.has_port_destroyed_request)
    ++ word (number_of_bool status.has_no_senders_request))))))))

-- the call's number, the code 0, and the results
abbrev pub done_encoding : ℕ → List ℕ → List ℕ
done_encoding number results = word number ++ (word 0 ++ results)

-- The content of a reply's frame: the call's number, the code, and the results where the code is 0. mach_msg has its
-- results in any case.
unfoldable pub reply_encoding : PlainReply → List ℕ
reply_encoding (reply.Refused number code) = word number ++ word (number_of code)
reply_encoding (reply.Done number) = done_encoding number []
reply_encoding (reply.Names names) =
    done_encoding MACH_PORT_NAMES (word (length names) ++ flat_map
    (λ (n : NamedType). word n.name ++ word n.bits) names)
reply_encoding (reply.Type bits) = done_encoding MACH_PORT_TYPE (word bits)
reply_encoding (reply.Allocate name) = done_encoding MACH_PORT_ALLOCATE (word name)
reply_encoding (reply.References count) = done_encoding MACH_PORT_GET_REFS (word count)
reply_encoding (reply.ReceiveStatus status) = done_encoding MACH_PORT_GET_RECEIVE_STATUS (status_encoding status)
reply_encoding (reply.SetStatus members) =
    done_encoding MACH_PORT_GET_SET_STATUS (word (length members) ++ flat_map word members)
reply_encoding (reply.PreviousTarget name) = done_encoding MACH_PORT_REQUEST_NOTIFICATION (word name)
reply_encoding (reply.Extracted name kind) =
    done_encoding MACH_PORT_EXTRACT_RIGHT (word name ++ word (number_of_kind kind))
reply_encoding (reply.Message code size member message) =
    word MACH_MSG ++ (word (number_of code) ++ (word size ++ (word member ++ message)))
reply_encoding (reply.SpaceCreated space name) = done_encoding SPACE_CREATE (word space ++ word name)

-- the number of the call that a reply belongs to
abbrev pub number_of_reply : PlainReply → ℕ
number_of_reply (reply.Refused number code) = number
number_of_reply (reply.Done number) = number
number_of_reply (reply.Names names) = MACH_PORT_NAMES
number_of_reply (reply.Type bits) = MACH_PORT_TYPE
number_of_reply (reply.Allocate name) = MACH_PORT_ALLOCATE
number_of_reply (reply.References count) = MACH_PORT_GET_REFS
number_of_reply (reply.ReceiveStatus status) = MACH_PORT_GET_RECEIVE_STATUS
number_of_reply (reply.SetStatus members) = MACH_PORT_GET_SET_STATUS
number_of_reply (reply.PreviousTarget name) = MACH_PORT_REQUEST_NOTIFICATION
number_of_reply (reply.Extracted name kind) = MACH_PORT_EXTRACT_RIGHT
number_of_reply (reply.Message code size member message) = MACH_MSG
number_of_reply (reply.SpaceCreated space name) = SPACE_CREATE

-- a call as a record keeps it: a send with what is kept of its message
abbrev pub canonical_call : PlainCall → PlainCall
canonical_call (call.Send message) = call.Send (canonical_message message)
canonical_call c = c

-- the arguments are numbers of four bytes, and what is sent consists of bytes
abbrev pub FitsCall : PlainCall → Type 0
FitsCall (call.Attach space) = space < 2 ^ 32
FitsCall call.Names = Unit {0}
FitsCall (call.Type name) = name < 2 ^ 32
FitsCall (call.Rename from to) = (from < 2 ^ 32) × (to < 2 ^ 32)
FitsCall (call.AllocateName kind name) = (kind < 2 ^ 32) × (name < 2 ^ 32)
FitsCall (call.Allocate kind) = kind < 2 ^ 32
FitsCall (call.Destroy name) = name < 2 ^ 32
FitsCall (call.Deallocate name) = name < 2 ^ 32
FitsCall (call.GetRefs name kind) = (name < 2 ^ 32) × (kind < 2 ^ 32)
FitsCall (call.ModRefs name kind delta) = (name < 2 ^ 32) × (kind < 2 ^ 32) × (delta < 2 ^ 32)
FitsCall (call.SetQlimit name limit) = (name < 2 ^ 32) × (limit < 2 ^ 32)
FitsCall (call.SetMscount name count) = (name < 2 ^ 32) × (count < 2 ^ 32)
FitsCall (call.SetSeqno name seqno) = (name < 2 ^ 32) × (seqno < 2 ^ 32)
FitsCall (call.GetReceiveStatus name) = name < 2 ^ 32
FitsCall (call.GetSetStatus name) = name < 2 ^ 32
FitsCall (call.MoveMember member after) = (member < 2 ^ 32) × (after < 2 ^ 32)
FitsCall (call.RequestNotification name variant sync notify_name disposition) =
    (name < 2 ^ 32) × (variant < 2 ^ 32) × (sync < 2 ^ 32) × (notify_name < 2 ^ 32) × (disposition < 2 ^ 32)
FitsCall (call.InsertRight name right_name disposition) =
    (name < 2 ^ 32) × (right_name < 2 ^ 32) × (disposition < 2 ^ 32)
FitsCall (call.ExtractRight name disposition) = (name < 2 ^ 32) × (disposition < 2 ^ 32)
FitsCall (call.Send message) = AreBytes message
FitsCall (call.Receive limit large name waited) = (limit < 2 ^ 32) × (name < 2 ^ 32)
FitsCall (call.SpaceCreate name disposition) = (name < 2 ^ 32) × (disposition < 2 ^ 32)
FitsCall call.SpaceDestroy = Unit {0}

-- the results are numbers of four bytes, and a message consists of bytes
abbrev pub FitsReply : PlainReply → Type 0
FitsReply (reply.Refused number code) = number < 2 ^ 32
FitsReply (reply.Done number) = number < 2 ^ 32
FitsReply (reply.Names names) =
    (length names < 2 ^ 32) × All (λ (n : NamedType). (n.name < 2 ^ 32) × (n.bits < 2 ^ 32)) names
FitsReply (reply.Type bits) = bits < 2 ^ 32
FitsReply (reply.Allocate name) = name < 2 ^ 32
FitsReply (reply.References count) = count < 2 ^ 32
FitsReply (reply.ReceiveStatus status) =
    (status.set < 2 ^ 32) × (status.sequence_number < 2 ^ 32) × (status.make_send_count < 2 ^ 32)
    × (status.limit < 2 ^ 32) × (status.messages < 2 ^ 32) × (status.send_once_count < 2 ^ 32)
FitsReply (reply.SetStatus members) = (length members < 2 ^ 32) × All (λ name. name < 2 ^ 32) members
FitsReply (reply.PreviousTarget name) = name < 2 ^ 32
FitsReply (reply.Extracted name kind) = name < 2 ^ 32
FitsReply (reply.Message code size member message) = (size < 2 ^ 32) × (member < 2 ^ 32) × AreBytes message
FitsReply (reply.SpaceCreated space name) = (space < 2 ^ 32) × (name < 2 ^ 32)

-- the sizes that a message may have
abbrev pub IsMessageSize : ℕ → Type 0
IsMessageSize size = (header_length ≤ size) × (size ≤ MAX_MESSAGE_SIZE) × (size % 4 ≡ 0)

-- a send's message has such a size
abbrev pub IsWholeCall : PlainCall → Type 0
IsWholeCall (call.Send message) = IsMessageSize (length message)
IsWholeCall c = Unit {0}

-- A call in a record is in range, whole, and as a record keeps it.
pub record IsCanonicalCall (c : PlainCall) : Type 0 where
  pub fits : FitsCall c
  pub whole : IsWholeCall c
  pub kept : canonical_call c ≡ c

-- A record of this call has a reply without results. Calls that have no records count as such, and nothing asks it of
-- them.
abbrev pub records_no_results : PlainCall → Bool
records_no_results (call.Attach space) = true
records_no_results call.Names = true
records_no_results (call.Type name) = true
records_no_results (call.Rename from to) = true
records_no_results (call.AllocateName kind name) = true
records_no_results (call.Allocate kind) = false
records_no_results (call.Destroy name) = true
records_no_results (call.Deallocate name) = true
records_no_results (call.GetRefs name kind) = true
records_no_results (call.ModRefs name kind delta) = true
records_no_results (call.SetQlimit name limit) = true
records_no_results (call.SetMscount name count) = true
records_no_results (call.SetSeqno name seqno) = true
records_no_results (call.GetReceiveStatus name) = true
records_no_results (call.GetSetStatus name) = true
records_no_results (call.MoveMember member after) = true
records_no_results (call.RequestNotification name variant sync notify_name disposition) = false
records_no_results (call.InsertRight name right_name disposition) = true
records_no_results (call.ExtractRight name disposition) = false
records_no_results (call.Send message) = false
records_no_results (call.Receive limit large name waited) = false
records_no_results (call.SpaceCreate name disposition) = false
records_no_results call.SpaceDestroy = true

-- What a receive with this limit reports: the size of the message that it took out and the name of the port. It brings
-- the message, or nothing where the message was larger than the limit and was destroyed.
abbrev pub IsOfReceive : ℕ → KernReturn → ℕ → ℕ → List ℕ → Type 0
IsOfReceive limit code size member message =
    IsMessageSize size × (MACH_PORT_NULL < member) × (member < MACH_PORT_DEAD)
    × MatchBool (is_success code) ((size ≤ limit) × (length message ≡ size)) ((limit < size) × (message ≡ []))

-- The results that mach_msg brings. A send brings none.
abbrev pub Brings : PlainCall → KernReturn → ℕ → ℕ → List ℕ → Type 0
Brings (call.Send sent) code size member message = (size ≡ 0) × (member ≡ MACH_PORT_NULL) × (message ≡ [])
Brings (call.Receive limit large name waited) code size member message = IsOfReceive limit code size member message
Brings c code size member message = ⊥

-- the results that the reply to such a call has
abbrev pub HasItsResults : PlainCall → PlainReply → Type 0
HasItsResults c (reply.Done number) = records_no_results c ≡ true
HasItsResults c (reply.Message code size member message) = Brings c code size member message
HasItsResults c answer = Unit {0}

-- A reply in a record of this call is in range, of the call's number and with its results, and such that the call has a
-- record. Together that is this table, which the law `replies_by_call` of `ipc_laws` has as a definition. Numbers are
-- below 2 ^ 32, and a message is bytes.
--
--   call                                        reply in its record
--   Attach, Names, Type, GetRefs,               none: these calls have no records
--     GetReceiveStatus, GetSetStatus
--   Rename, AllocateName, Destroy, Deallocate,  Done with the call's number
--     ModRefs, SetQlimit, SetMscount,
--     SetSeqno, MoveMember, InsertRight,
--     SpaceDestroy
--   Allocate                                    Allocate
--   RequestNotification                         PreviousTarget
--   ExtractRight                                Extracted
--   SpaceCreate                                 SpaceCreated
--   Send                                        Message with code 0, size 0, member 0 and no message
--   Receive                                     Message with code 0, a message within the limit, its size, and the
--                                               name of a port
--   Receive without MACH_RCV_LARGE              also Message with MACH_RCV_TOO_LARGE, a size above the limit, the name
--                                               of a port and no message
--
-- A call that is refused has no record.
pub record IsRecordedReply (c : PlainCall) (answer : PlainReply) : Type 0 where
  pub fits : FitsReply answer
  pub of_one_call : number_of_reply answer ≡ number_of_call c
  pub results : HasItsResults c answer
  pub recorded : IsTrue (has_record c answer)
