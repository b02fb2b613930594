-- The lengths of frames: a call on names, ports and spaces fits in one, and so does its reply from a lawful state,
-- which has the call's number.
use Rattle.std.specs.Prelude.{◌≡◌, ◌≢◌, ℕ, ◌+◌, ◌*◌, ◌≤◌, suc, Bool, true, false, List, [], ◌∷◌, ◌++◌, length, map, filter, flat_map, Option, None, Some}
use Rattle.std.proofs.Common.{refl, sym, ap, subst, ◌∙◌, arith, length-append}
use Rattle.std.proofs.lemmas.List.Sums.{length-filter, count_by-le-length}
use Rattle.std.specs.FinMap as finmap
use Rattle.std.specs.FinMap.{len-entries}
use Rattle.codes.specs.declared.call_number.TheConstants.{ATTACH, MACH_PORT_NAMES, MACH_PORT_TYPE, MACH_PORT_RENAME, MACH_PORT_ALLOCATE_NAME, MACH_PORT_ALLOCATE, MACH_PORT_DESTROY, MACH_PORT_DEALLOCATE, MACH_PORT_GET_REFS, MACH_PORT_MOD_REFS, MACH_PORT_SET_QLIMIT, MACH_PORT_SET_MSCOUNT, MACH_PORT_SET_SEQNO, MACH_PORT_GET_RECEIVE_STATUS, MACH_PORT_GET_SET_STATUS, MACH_PORT_MOVE_MEMBER, MACH_PORT_REQUEST_NOTIFICATION, MACH_PORT_INSERT_RIGHT, MACH_PORT_EXTRACT_RIGHT, MACH_MSG, SPACE_CREATE, SPACE_DESTROY}
use Rattle.codes.specs.KernReturn.{number_of}
use Rattle.codes.specs.declared.kern_return.KernReturn.{KernReturn}
use Rattle.codes.specs.declared.limits.TheConstants.{MAX_NAMES}
use Rattle.ipc_model.specs.declared.plain_call.PlainCall.{PlainCall}
use Rattle.ipc_model.specs.declared.plain_call.PlainCall.TheVariants as call
use Rattle.ipc_model.specs.declared.plain_reply.NamedType.{NamedType}
use Rattle.ipc_model.specs.declared.plain_reply.ReceiveStatus.{ReceiveStatus}
use Rattle.ipc_model.specs.declared.plain_reply.PlainReply.{PlainReply}
use Rattle.ipc_model.specs.declared.plain_reply.PlainReply.TheVariants as reply
use Rattle.ipc_model.specs.declared.entry.Entry.{Entry}
use Rattle.ipc_model.specs.calls.Actions.{Done}
use Rattle.ipc_model.specs.rights.Dispositions.{number_of_kind}
use Rattle.ipc_model.specs.effects.Effects.{Effect}
use Rattle.ipc_model.specs.state.Lawful.{Lawful}
use Rattle.ipc_model.specs.calls.PortCalls.{tests_of}
use Rattle.ipc_model.specs.messages.Receiving.{without_message}
use Rattle.ipc_model.specs.state.Ipc.{Ipc, Names, is_member, members_of, type_of}
use Rattle.ipc_model.specs.calls.PlainStep.{ActsFrom, refused, number_of_call}
use Rattle.ipc_laws.specs.StepLaws.{Called}
use Rattle.ipc_model.specs.calls.Tests.{first_failing}
use Rattle.ipc_model.specs.encodings.PlainCalls.{call_encoding, reply_encoding, done_encoding, status_encoding, receive_option, number_of_bool, number_of_reply}
use Rattle.ipc_laws.specs.PortCallLaws.{as_called, answers_done, is_port_call, is_short, answer_number}
use Rattle.words.specs.WordLaws.{length-word}
use Rattle.words.specs.Words.{word}

-- a reply of at most this many bytes
pub record IsWithin (most : ℕ) (answer : PlainReply) : Type 0 where
  pub bytes : length (reply_encoding answer) ≤ most

pub within : (most : ℕ) (given answer : PlainReply) → answer ≡ given → IsWithin most given → IsWithin most answer
within most given answer is holds = subst (IsWithin most) (sym is) holds

-- The length of a reply, from the number of bytes of its results.
done_length : (number : ℕ) (results : List ℕ) → length (done_encoding number results) ≡ 8 + length results
done_length number results =
    omega (
      arith,
      length-append (word number) (word 0 ++ results),
      length-append (word 0) results,
      length-word number,
      length-word 0,
    )

two_words : (a b : ℕ) → length (word a ++ word b) ≡ 8
two_words a b = omega (arith, length-append (word a) (word b), length-word a, length-word b)

three_words : (a b c : ℕ) → length (word a ++ (word b ++ word c)) ≡ 12
three_words a b c = omega (arith, length-append (word a) (word b ++ word c), two_words b c, length-word a)

three_more : (a b c : ℕ) (rest : List ℕ) → length (word a ++ (word b ++ (word c ++ rest))) ≡ 12 + length rest
three_more a b c rest =
    omega (
      arith,
      length-append (word a) (word b ++ (word c ++ rest)),
      length-append (word b) (word c ++ rest),
      length-append (word c) rest,
      length-word a,
      length-word b,
      length-word c,
    )

nine_words : (a b c d e f g h i : ℕ)
    → length (word a ++ (word b ++ (word c ++ (word d ++ (word e ++ (word f ++ (word g ++ (word h ++ word i)))))))) ≡ 36
nine_words a b c d e f g h i =
    omega (
      arith,
      three_more a b c (word d ++ (word e ++ (word f ++ (word g ++ (word h ++ word i))))),
      three_more d e f (word g ++ (word h ++ word i)),
      three_words g h i,
    )

status_length : (status : ReceiveStatus) → length (status_encoding status) ≡ 36
status_length status =
    nine_words status.set status.sequence_number status.make_send_count status.limit status.messages
    status.send_once_count
    (number_of_bool status.has_senders) (number_of_bool status.has_port_destroyed_request)
    (number_of_bool status.has_no_senders_request)

pub short_within : (answer : PlainReply) → is_short answer ≡ true → IsWithin 44 answer
unfolding reply_encoding
short_within (reply.Refused number code) short = record { bytes = omega (arith, two_words number (number_of code)) }
short_within (reply.Done number) short = record { bytes = omega (arith, done_length number []) }
short_within (reply.Names names) short = absurd (cc short)
short_within (reply.Type bits) short =
    record { bytes = omega (arith, done_length MACH_PORT_TYPE (word bits), length-word bits) }
short_within (reply.Allocate name) short =
    record { bytes = omega (arith, done_length MACH_PORT_ALLOCATE (word name), length-word name) }
short_within (reply.References count) short =
    record { bytes = omega (arith, done_length MACH_PORT_GET_REFS (word count), length-word count) }
short_within (reply.ReceiveStatus status) short =
    record {
      bytes = omega (
        arith,
        done_length MACH_PORT_GET_RECEIVE_STATUS (status_encoding status),
        status_length status,
      );
    }
short_within (reply.SetStatus members) short = absurd (cc short)
short_within (reply.PreviousTarget name) short =
    record { bytes = omega (arith, done_length MACH_PORT_REQUEST_NOTIFICATION (word name), length-word name) }
short_within (reply.Extracted name kind) short =
    record {
      bytes = omega (
        arith,
        done_length MACH_PORT_EXTRACT_RIGHT (word name ++ word (number_of_kind kind)),
        two_words name (number_of_kind kind),
      );
    }
short_within (reply.Message code size member message) short = absurd (cc short)
short_within (reply.SpaceCreated space name) short =
    record { bytes = omega (arith, done_length SPACE_CREATE (word space ++ word name), two_words space name) }

wider : (less most : ℕ) (answer : PlainReply) → less ≤ most → IsWithin less answer → IsWithin most answer
wider less most answer le is = record { bytes = omega (arith, le, is.bytes) }

-- Lists of names and members.

flat_length : {A : Type 0} (n : ℕ) (f : A → List ℕ) → ((x : A) → length (f x) ≡ n) → (xs : List A)
    → length (flat_map f xs) ≡ n * length xs
flat_length n f each [] = omega arith
flat_length n f each (x ∷ xs) = omega (arith, length-append (f x) (flat_map f xs), each x, flat_length n f each xs)

map_length : {A B : Type 0} (f : A → B) (xs : List A) → length (map f xs) ≡ length xs
map_length f [] = refl
map_length f (x ∷ xs) = ap suc (map_length f xs)

filter_length : {A : Type 0} (p : A → Bool) (xs : List A) → length (filter p xs) ≤ length xs
filter_length p xs = omega (arith, length-filter p xs, count_by-le-length p xs)

named_length : (n : NamedType) → length (word n.name ++ word n.bits) ≡ 8
named_length n = two_words n.name n.bits

listed_within : (names : List NamedType) → length names ≤ MAX_NAMES → IsWithin 32780 (reply.Names names)
unfolding reply_encoding
listed_within names few =
    let pairs : List ℕ = flat_map (λ (n : NamedType). word n.name ++ word n.bits) names in
    record {
      bytes = omega (
        arith,
        done_length MACH_PORT_NAMES (word (length names) ++ pairs),
        length-append (word (length names)) pairs,
        length-word (length names),
        flat_length 8 (λ (n : NamedType). word n.name ++ word n.bits) named_length names,
        few,
      );
    }

members_within : (members : List ℕ) → length members ≤ MAX_NAMES → IsWithin 32780 (reply.SetStatus members)
unfolding reply_encoding
members_within members few =
    record {
      bytes = omega (
        arith,
        done_length MACH_PORT_GET_SET_STATUS (word (length members) ++ flat_map word members),
        length-append (word (length members)) (flat_map word members),
        length-word (length members),
        flat_length 4 word length-word members,
        few,
      );
    }

abbrev as_named : ℕ × Entry → NamedType
as_named e = record { name = e.0; bits = type_of e.1 }

few_named : (names : Names) → finmap.len names ≤ MAX_NAMES → length (map as_named (finmap.entries names)) ≤ MAX_NAMES
few_named names few = omega (arith, map_length as_named (finmap.entries names), len-entries names, few)

few_members : (state : Ipc) (names : Names) (set : ℕ) → finmap.len names ≤ MAX_NAMES
    → length (members_of state names set) ≤ MAX_NAMES
few_members state names set few =
    omega (
      arith,
      map_length (λ (e : ℕ × Entry). e.0) (filter (λ e. is_member state set e.1) (finmap.entries names)),
      filter_length (λ (e : ℕ × Entry). is_member state set e.1) (finmap.entries names),
      len-entries names,
      few,
    )

-- Replies.

-- the two calls whose replies are lists
abbrev is_listing : PlainCall → Bool
is_listing call.Names = true
is_listing (call.GetSetStatus name) = true
is_listing c = false

no_listing_names : (c : PlainCall) → is_listing c ≡ false → number_of_call c ≢ MACH_PORT_NAMES
no_listing_names call.Names is = absurd (cc is)
no_listing_names (call.GetSetStatus name) is = absurd (cc is)
no_listing_names c is = λ same. absurd (omega (arith, same))

no_listing_members : (c : PlainCall) → is_listing c ≡ false → number_of_call c ≢ MACH_PORT_GET_SET_STATUS
no_listing_members call.Names is = absurd (cc is)
no_listing_members (call.GetSetStatus name) is = absurd (cc is)
no_listing_members c is = λ same. absurd (omega (arith, same))

pub wide : (answer : PlainReply) → IsWithin 44 answer → IsWithin 32780 answer
wide answer is = wider 44 32780 answer (omega arith) is

short_done : (old : Ipc) (space : ℕ) (names : Names) (c : PlainCall) (answer : PlainReply) (new : Ipc) (effects : List Effect)
    → is_listing c ≡ false → Done old space names c answer new effects → IsWithin 32780 answer
short_done old space names c answer new effects is acts =
    wide answer (short_within answer
    ((answers_done old space names c answer new effects acts).short (no_listing_names c is) (no_listing_members c is)))

done_within : (old : Ipc) (space : ℕ) (names : Names) (c : PlainCall) (answer : PlainReply) (new : Ipc)
    (effects : List Effect) → finmap.len names ≤ MAX_NAMES → Done old space names c answer new effects
    → IsWithin 32780 answer
unfolding Done
done_within old space names call.Names answer new effects few acts =
    within 32780 _ answer acts.0 (listed_within _ (few_named names few))
done_within old space names (call.GetSetStatus name) answer new effects few acts =
    within 32780 _ answer acts.0 (members_within _ (few_members old names name few))
done_within old space names c answer new effects few acts =
    short_done old space names c answer new effects refl acts

called_within : (refusal : Option KernReturn) (old : Ipc) (space : ℕ) (names : Names) (c : PlainCall) (answer : PlainReply)
    (new : Ipc) (effects : List Effect) → finmap.len names ≤ MAX_NAMES
    → Called refusal old space names c answer new effects → IsWithin 32780 answer
called_within None old space names c answer new effects few acts =
    done_within old space names c answer new effects few acts
called_within (Some code) old space names c answer new effects few acts =
    within 32780 _ answer acts.0 (wide _ (short_within (reply.Refused (number_of_call c) code) refl))

message_within : (code : KernReturn) → IsWithin 44 (without_message code 0 0)
unfolding reply_encoding
message_within code =
    let results : List ℕ = word 0 ++ (word 0 ++ []) in
    record {
      bytes = omega (
        arith,
        length-append (word MACH_MSG) (word (number_of code) ++ results),
        length-append (word (number_of code)) results,
        length-append (word 0) (word 0 ++ []),
        length-append (word 0) [],
        length-word MACH_MSG,
        length-word (number_of code),
        length-word 0,
      );
    }

pub refused_within : (c : PlainCall) (code : KernReturn) → IsWithin 44 (refused c code)
refused_within (call.Send message) code = message_within code
refused_within (call.Receive limit large name waited) code = message_within code
refused_within c code = short_within (refused c code) refl

pub from_within : (o : Option Names) (old : Ipc) (space : ℕ) (c : PlainCall) (answer : PlainReply) (new : Ipc)
    (effects : List Effect) → finmap.get old.spaces space ≡ o → is_port_call c ≡ true → Lawful old
    → ActsFrom old space o c answer new effects → IsWithin 32780 answer
from_within None old space c answer new effects is port lawful acts =
    within 32780 _ answer acts.0 (wide _ (refused_within c _))
from_within (Some names) old space c answer new effects is port lawful acts =
    called_within (first_failing (tests_of old space names c)) old space names c answer new effects
    (lawful.spaces space names is).2.few (as_called c old space names answer new effects port acts)

-- A reply has the number of its call.

pub refused_number : (c : PlainCall) (code : KernReturn) → number_of_reply (refused c code) ≡ number_of_call c
refused_number (call.Send message) code = refl
refused_number (call.Receive limit large name waited) code = refl
refused_number c code = refl

pub from_number : (o : Option Names) (old : Ipc) (space : ℕ) (c : PlainCall) (answer : PlainReply) (new : Ipc)
    (effects : List Effect) → is_port_call c ≡ true → ActsFrom old space o c answer new effects
    → number_of_reply answer ≡ number_of_call c
from_number None old space c answer new effects port acts = ap number_of_reply acts.0 ∙ refused_number c _
from_number (Some names) old space c answer new effects port acts =
    answer_number old space names c answer new effects port acts

-- Calls.

one_word : (a : ℕ) → length (word a ++ []) ≡ 4
one_word a = omega (arith, length-append (word a) [], length-word a)

four_words : (a b c d : ℕ) → length (word a ++ (word b ++ (word c ++ word d))) ≡ 16
four_words a b c d =
    omega (arith, length-append (word a) (word b ++ (word c ++ word d)), three_words b c d, length-word a)

six_words : (a b c d e f : ℕ) → length (word a ++ (word b ++ (word c ++ (word d ++ (word e ++ word f))))) ≡ 24
six_words a b c d e f = omega (arith, three_more a b c (word d ++ (word e ++ word f)), three_words d e f)

-- a call of at most five arguments
pub arguments_within : (c : PlainCall) → is_port_call c ≡ true → length (call_encoding c) ≤ 24
unfolding call_encoding
arguments_within (call.Attach space) port = omega (arith, two_words ATTACH space)
arguments_within call.Names port = omega (arith, one_word MACH_PORT_NAMES)
arguments_within (call.Type name) port = omega (arith, two_words MACH_PORT_TYPE name)
arguments_within (call.Rename from to) port = omega (arith, three_words MACH_PORT_RENAME from to)
arguments_within (call.AllocateName kind name) port = omega (arith, three_words MACH_PORT_ALLOCATE_NAME kind name)
arguments_within (call.Allocate kind) port = omega (arith, two_words MACH_PORT_ALLOCATE kind)
arguments_within (call.Destroy name) port = omega (arith, two_words MACH_PORT_DESTROY name)
arguments_within (call.Deallocate name) port = omega (arith, two_words MACH_PORT_DEALLOCATE name)
arguments_within (call.GetRefs name kind) port = omega (arith, three_words MACH_PORT_GET_REFS name kind)
arguments_within (call.ModRefs name kind delta) port = omega (arith, four_words MACH_PORT_MOD_REFS name kind delta)
arguments_within (call.SetQlimit name limit) port = omega (arith, three_words MACH_PORT_SET_QLIMIT name limit)
arguments_within (call.SetMscount name count) port = omega (arith, three_words MACH_PORT_SET_MSCOUNT name count)
arguments_within (call.SetSeqno name seqno) port = omega (arith, three_words MACH_PORT_SET_SEQNO name seqno)
arguments_within (call.GetReceiveStatus name) port = omega (arith, two_words MACH_PORT_GET_RECEIVE_STATUS name)
arguments_within (call.GetSetStatus name) port = omega (arith, two_words MACH_PORT_GET_SET_STATUS name)
arguments_within (call.MoveMember member after) port = omega (arith, three_words MACH_PORT_MOVE_MEMBER member after)
arguments_within (call.RequestNotification name variant sync notify_name disposition) port =
    omega (arith, six_words MACH_PORT_REQUEST_NOTIFICATION name variant sync notify_name disposition)
arguments_within (call.InsertRight name right_name disposition) port =
    omega (arith, four_words MACH_PORT_INSERT_RIGHT name right_name disposition)
arguments_within (call.ExtractRight name disposition) port =
    omega (arith, three_words MACH_PORT_EXTRACT_RIGHT name disposition)
arguments_within (call.Send message) port = absurd (cc port)
arguments_within (call.Receive limit large name waited) port = absurd (cc port)
arguments_within (call.SpaceCreate name disposition) port = omega (arith, three_words SPACE_CREATE name disposition)
arguments_within call.SpaceDestroy port = omega (arith, one_word SPACE_DESTROY)

-- A send's frame, and those of a receive and of what it brings.
pub send_length : (message : List ℕ) → length (call_encoding (call.Send message)) ≡ 20 + length message
unfolding call_encoding
send_length message =
    let beyond : List ℕ = word 0 ++ (word 0 ++ message) in
    omega (
      arith,
      three_more MACH_MSG 1 0 beyond,
      length-append (word 0) (word 0 ++ message),
      length-append (word 0) message,
      length-word 0,
    )

pub receive_length : (limit name : ℕ) (large waited : Bool)
    → length (call_encoding (call.Receive limit large name waited)) ≡ 20
unfolding call_encoding
receive_length limit name large waited =
    omega (
      arith,
      three_more MACH_MSG (receive_option large) limit (word name ++ word (number_of_bool waited)),
      two_words name (number_of_bool waited),
    )

pub message_length : (code : KernReturn) (size member : ℕ) (message : List ℕ)
    → length (reply_encoding (reply.Message code size member message)) ≡ 16 + length message
unfolding reply_encoding
message_length code size member message =
    omega (
      arith,
      three_more MACH_MSG (number_of code) size (word member ++ message),
      length-append (word member) message,
      length-word member,
    )
