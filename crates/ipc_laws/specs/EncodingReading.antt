-- Calls and replies are read back from their bytes.
use Rattle.std.specs.Prelude.{◌≡◌, ℕ, zero, suc, ◌*◌, ◌^◌, ◌<◌, Bool, true, false, ◌==◌, ◌&&◌, ◌||◌, List, [], ◌∷◌, ◌++◌, length, drop, flat_map, All, if◌then◌else◌, refl}
use Rattle.std.proofs.Common.{◌∙◌, ap, arith}
use Rattle.words.specs.Numbers.{little_number}
use Rattle.codes.specs.KernReturn.{number_of}
use Rattle.codes.specs.declared.kern_return.KernReturn.{KernReturn}
use Rattle.codes.specs.declared.kern_return.KernReturn.TheVariants as code
use Rattle.ipc_model.specs.declared.plain_call.PlainCall.{PlainCall}
use Rattle.ipc_model.specs.declared.plain_call.PlainCall.TheVariants as call
use Rattle.ipc_model.specs.declared.plain_reply.NamedType.{NamedType}
use Rattle.ipc_model.specs.declared.plain_reply.ReceiveStatus.{ReceiveStatus}
use Rattle.ipc_model.specs.declared.plain_reply.PlainReply.{PlainReply}
use Rattle.ipc_model.specs.declared.plain_reply.PlainReply.TheVariants as reply
use Rattle.ipc_model.specs.declared.message.RightKind.TheVariants as kind
use Rattle.ipc_model.specs.messages.Items.{words_of}
use Rattle.ipc_model.specs.calls.PlainStep.{number_of_call, has_record, is_recorded}
use Rattle.ipc_model.specs.state.Lawful.{kind_of_number}
use Rattle.ipc_model.specs.encodings.PlainCalls.{arguments_encoding, reply_encoding, status_encoding, number_of_bool, FitsCall, FitsReply}
use Rattle.words.specs.WordLaws.{little_number-word}
use Rattle.words.specs.Words.{word}

-- the word at this place
abbrev word_at : ℕ → List ℕ → ℕ
word_at i bytes = little_number 4 (drop (4 * i) bytes)

-- a send has option 1, and its message after four words; otherwise it is a receive
abbrev mach_msg_encoded : List ℕ → PlainCall
mach_msg_encoded bytes =
    if word_at 0 bytes == 1 then call.Send (drop 16 bytes)
    else call.Receive (word_at 1 bytes) (word_at 0 bytes == 0x802) (word_at 2 bytes) (word_at 3 bytes == 1)

-- the calls that these arguments may encode, by their numbers
abbrev calls_encoded : List ℕ → List PlainCall
calls_encoded bytes =
    call.Attach (word_at 0 bytes)
    ∷ call.Names
    ∷ call.Type (word_at 0 bytes)
    ∷ call.Rename (word_at 0 bytes) (word_at 1 bytes)
    ∷ call.AllocateName (word_at 0 bytes) (word_at 1 bytes)
    ∷ call.Allocate (word_at 0 bytes)
    ∷ call.Destroy (word_at 0 bytes)
    ∷ call.Deallocate (word_at 0 bytes)
    ∷ call.GetRefs (word_at 0 bytes) (word_at 1 bytes)
    ∷ call.ModRefs (word_at 0 bytes) (word_at 1 bytes) (word_at 2 bytes)
    ∷ call.SetQlimit (word_at 0 bytes) (word_at 1 bytes)
    ∷ call.SetMscount (word_at 0 bytes) (word_at 1 bytes)
    ∷ call.SetSeqno (word_at 0 bytes) (word_at 1 bytes)
    ∷ call.GetReceiveStatus (word_at 0 bytes)
    ∷ call.GetSetStatus (word_at 0 bytes)
    ∷ call.MoveMember (word_at 0 bytes) (word_at 1 bytes)
    ∷ call.RequestNotification (word_at 0 bytes) (word_at 1 bytes) (word_at 2 bytes) (word_at 3 bytes) (word_at 4 bytes)
    ∷ call.InsertRight (word_at 0 bytes) (word_at 1 bytes) (word_at 2 bytes)
    ∷ call.ExtractRight (word_at 0 bytes) (word_at 1 bytes)
    ∷ mach_msg_encoded bytes
    ∷ call.SpaceCreate (word_at 0 bytes) (word_at 1 bytes)
    ∷ call.SpaceDestroy
    ∷ []

abbrev call_among : ℕ → List PlainCall → PlainCall
call_among n [] = call.Names
call_among zero (c ∷ calls) = c
call_among (suc n) (c ∷ calls) = call_among n calls

abbrev pub read_call : ℕ → List ℕ → PlainCall
read_call number bytes = call_among number (calls_encoded bytes)

-- a call is read back by its number and its arguments
pub call_back : (c : PlainCall) → FitsCall c → read_call (number_of_call c) (arguments_encoding c) ≡ c
call_back (call.Attach space) fits = λ i. call.Attach (little_number-word space [] fits i)
call_back call.Names fits = refl
call_back (call.Type name) fits = λ i. call.Type (little_number-word name [] fits i)
call_back (call.Rename from to) fits =
    λ i. call.Rename (little_number-word from (word to) fits.0 i) (little_number-word to [] fits.1 i)
call_back (call.AllocateName kind name) fits =
    λ i. call.AllocateName (little_number-word kind (word name) fits.0 i) (little_number-word name [] fits.1 i)
call_back (call.Allocate kind) fits = λ i. call.Allocate (little_number-word kind [] fits i)
call_back (call.Destroy name) fits = λ i. call.Destroy (little_number-word name [] fits i)
call_back (call.Deallocate name) fits = λ i. call.Deallocate (little_number-word name [] fits i)
call_back (call.GetRefs name kind) fits =
    λ i. call.GetRefs (little_number-word name (word kind) fits.0 i) (little_number-word kind [] fits.1 i)
call_back (call.ModRefs name kind delta) fits =
    λ i. call.ModRefs (little_number-word name (word kind ++ word delta) fits.0 i)
    (little_number-word kind (word delta) fits.1 i) (little_number-word delta [] fits.2 i)
call_back (call.SetQlimit name limit) fits =
    λ i. call.SetQlimit (little_number-word name (word limit) fits.0 i) (little_number-word limit [] fits.1 i)
call_back (call.SetMscount name count) fits =
    λ i. call.SetMscount (little_number-word name (word count) fits.0 i) (little_number-word count [] fits.1 i)
call_back (call.SetSeqno name seqno) fits =
    λ i. call.SetSeqno (little_number-word name (word seqno) fits.0 i) (little_number-word seqno [] fits.1 i)
call_back (call.GetReceiveStatus name) fits = λ i. call.GetReceiveStatus (little_number-word name [] fits i)
call_back (call.GetSetStatus name) fits = λ i. call.GetSetStatus (little_number-word name [] fits i)
call_back (call.MoveMember member after) fits =
    λ i. call.MoveMember (little_number-word member (word after) fits.0 i) (little_number-word after [] fits.1 i)
call_back (call.RequestNotification name variant sync notify_name disposition) fits =
    λ i. call.RequestNotification (little_number-word name
    (word variant ++ (word sync ++ (word notify_name ++ word disposition))) fits.0 i)
    (little_number-word variant (word sync ++ (word notify_name ++ word disposition)) fits.1 i)
    (little_number-word sync (word notify_name ++ word disposition) fits.2 i)
    (little_number-word notify_name (word disposition) fits.3 i)
    (little_number-word disposition [] fits.4 i)
call_back (call.InsertRight name right_name disposition) fits =
    λ i. call.InsertRight (little_number-word name (word right_name ++ word disposition) fits.0 i)
    (little_number-word right_name (word disposition) fits.1 i) (little_number-word disposition [] fits.2 i)
call_back (call.ExtractRight name disposition) fits =
    λ i. call.ExtractRight (little_number-word name (word disposition) fits.0 i)
    (little_number-word disposition [] fits.1 i)
call_back (call.Send message) fits = refl
call_back (call.Receive limit true name true) fits =
    λ i. call.Receive (little_number-word limit (word name ++ word 1) fits.0 i) true
    (little_number-word name (word 1) fits.1 i) true
call_back (call.Receive limit true name false) fits =
    λ i. call.Receive (little_number-word limit (word name ++ word 0) fits.0 i) true
    (little_number-word name (word 0) fits.1 i) false
call_back (call.Receive limit false name true) fits =
    λ i. call.Receive (little_number-word limit (word name ++ word 1) fits.0 i) false
    (little_number-word name (word 1) fits.1 i) true
call_back (call.Receive limit false name false) fits =
    λ i. call.Receive (little_number-word limit (word name ++ word 0) fits.0 i) false
    (little_number-word name (word 0) fits.1 i) false
call_back (call.SpaceCreate name disposition) fits =
    λ i. call.SpaceCreate (little_number-word name (word disposition) fits.0 i)
    (little_number-word disposition [] fits.1 i)
call_back call.SpaceDestroy fits = refl

pub number-fits : (c : PlainCall) → number_of_call c < 2 ^ 32
number-fits (call.Attach space) = omega arith
number-fits call.Names = omega arith
number-fits (call.Type name) = omega arith
number-fits (call.Rename from to) = omega arith
number-fits (call.AllocateName kind name) = omega arith
number-fits (call.Allocate kind) = omega arith
number-fits (call.Destroy name) = omega arith
number-fits (call.Deallocate name) = omega arith
number-fits (call.GetRefs name kind) = omega arith
number-fits (call.ModRefs name kind delta) = omega arith
number-fits (call.SetQlimit name limit) = omega arith
number-fits (call.SetMscount name count) = omega arith
number-fits (call.SetSeqno name seqno) = omega arith
number-fits (call.GetReceiveStatus name) = omega arith
number-fits (call.GetSetStatus name) = omega arith
number-fits (call.MoveMember member after) = omega arith
number-fits (call.RequestNotification name variant sync notify_name disposition) = omega arith
number-fits (call.InsertRight name right_name disposition) = omega arith
number-fits (call.ExtractRight name disposition) = omega arith
number-fits (call.Send message) = omega arith
number-fits (call.Receive limit large name waited) = omega arith
number-fits (call.SpaceCreate name disposition) = omega arith
number-fits call.SpaceDestroy = omega arith

-- a code is the one of its number
abbrev code_among : ℕ → List KernReturn → KernReturn
code_among n [] = code.Success
code_among n (first ∷ codes) = if number_of first == n then first else code_among n codes

abbrev all_codes : List KernReturn
all_codes =
    code.Success ∷ code.NoSpace ∷ code.InvalidArgument ∷ code.Failure ∷ code.ResourceShortage ∷ code.NoAccess ∷
    code.NotInSet ∷
    code.NameExists ∷ code.InvalidName
    ∷ code.InvalidTask ∷ code.InvalidRight ∷ code.InvalidValue ∷ code.UrefsOverflow ∷ code.InvalidCapability ∷
    code.RightExists ∷ code.SendInvalidDest ∷ code.SendTimedOut
    ∷ code.SendMsgTooSmall ∷ code.SendInvalidReply ∷ code.SendInvalidRight ∷ code.SendInvalidMemory ∷ code.SendNoBuffer
    ∷ code.SendInvalidType ∷ code.SendInvalidHeader ∷ code.RcvInvalidName
    ∷ code.RcvTimedOut ∷ code.RcvTooLarge ∷ code.RcvPortChanged ∷ code.RcvPortDied ∷ code.RcvInSet ∷
    code.RcvHeaderErrorKernel ∷ code.RcvHeaderErrorSpace
    ∷ []

abbrev code_of : ℕ → KernReturn
code_of n = code_among n all_codes

code_back : (c : KernReturn) → code_of (number_of c) ≡ c
code_back code.Success = refl
code_back code.NoSpace = refl
code_back code.InvalidArgument = refl
code_back code.Failure = refl
code_back code.ResourceShortage = refl
code_back code.NoAccess = refl
code_back code.NotInSet = refl
code_back code.NameExists = refl
code_back code.InvalidName = refl
code_back code.InvalidTask = refl
code_back code.InvalidRight = refl
code_back code.InvalidValue = refl
code_back code.UrefsOverflow = refl
code_back code.InvalidCapability = refl
code_back code.RightExists = refl
code_back code.SendInvalidDest = refl
code_back code.SendTimedOut = refl
code_back code.SendMsgTooSmall = refl
code_back code.SendInvalidReply = refl
code_back code.SendInvalidRight = refl
code_back code.SendInvalidMemory = refl
code_back code.SendNoBuffer = refl
code_back code.SendInvalidType = refl
code_back code.SendInvalidHeader = refl
code_back code.RcvInvalidName = refl
code_back code.RcvTimedOut = refl
code_back code.RcvTooLarge = refl
code_back code.RcvPortChanged = refl
code_back code.RcvPortDied = refl
code_back code.RcvInSet = refl
code_back code.RcvHeaderErrorKernel = refl
code_back code.RcvHeaderErrorSpace = refl

code-fits : (c : KernReturn) → number_of c < 2 ^ 32
code-fits code.Success = omega arith
code-fits code.NoSpace = omega arith
code-fits code.InvalidArgument = omega arith
code-fits code.Failure = omega arith
code-fits code.ResourceShortage = omega arith
code-fits code.NoAccess = omega arith
code-fits code.NotInSet = omega arith
code-fits code.NameExists = omega arith
code-fits code.InvalidName = omega arith
code-fits code.InvalidTask = omega arith
code-fits code.InvalidRight = omega arith
code-fits code.InvalidValue = omega arith
code-fits code.UrefsOverflow = omega arith
code-fits code.InvalidCapability = omega arith
code-fits code.RightExists = omega arith
code-fits code.SendInvalidDest = omega arith
code-fits code.SendTimedOut = omega arith
code-fits code.SendMsgTooSmall = omega arith
code-fits code.SendInvalidReply = omega arith
code-fits code.SendInvalidRight = omega arith
code-fits code.SendInvalidMemory = omega arith
code-fits code.SendNoBuffer = omega arith
code-fits code.SendInvalidType = omega arith
code-fits code.SendInvalidHeader = omega arith
code-fits code.RcvInvalidName = omega arith
code-fits code.RcvTimedOut = omega arith
code-fits code.RcvTooLarge = omega arith
code-fits code.RcvPortChanged = omega arith
code-fits code.RcvPortDied = omega arith
code-fits code.RcvInSet = omega arith
code-fits code.RcvHeaderErrorKernel = omega arith
code-fits code.RcvHeaderErrorSpace = omega arith

-- the names and types that this many pairs of words encode
abbrev pairs_of : ℕ → List ℕ → List NamedType
pairs_of zero bytes = []
pairs_of (suc n) bytes =
    record { name = little_number 4 bytes; bits = little_number 4 (drop 4 bytes) } ∷ pairs_of n (drop 8 bytes)

abbrev pairs_text : List NamedType → List ℕ
pairs_text names = flat_map (λ (n : NamedType). word n.name ++ word n.bits) names

-- what holds of each element holds of the first and of the others
pub all_head : {X : Type 0} (P : X → Type 0) (x : X) (xs : List X) → All P (x ∷ xs) → P x
all_head P x xs all = all 0 x (omega arith)

pub all_tail : {X : Type 0} (P : X → Type 0) (x : X) (xs : List X) → All P (x ∷ xs) → All P xs
all_tail P x xs all k d less = all (suc k) d (omega (arith, less))

abbrev FitsPair : NamedType → Type 0
FitsPair n = (n.name < 2 ^ 32) × (n.bits < 2 ^ 32)

abbrev FitsWord : ℕ → Type 0
FitsWord n = n < 2 ^ 32

pairs_back : (names : List NamedType) → All FitsPair names → pairs_of (length names) (pairs_text names) ≡ names
pairs_back [] fits = refl
pairs_back (n ∷ names) fits =
    let first = all_head FitsPair n names fits in
    let name = little_number-word n.name (word n.bits ++ pairs_text names) first.0 in
    let bits = little_number-word n.bits (pairs_text names) first.1 in
    let others = pairs_back names (all_tail FitsPair n names fits) in
    λ i. record { name = name i; bits = bits i } ∷ others i

words_back : (members : List ℕ) → All FitsWord members → words_of (length members) (flat_map word members) ≡ members
words_back [] fits = refl
words_back (name ∷ members) fits =
    let first = little_number-word name (flat_map word members) (all_head FitsWord name members fits) in
    let others = words_back members (all_tail FitsWord name members fits) in
    λ i. first i ∷ others i

-- a yes or no by its number
bool_back : (b : Bool) (rest : List ℕ) → (little_number 4 (word (number_of_bool b) ++ rest) == 1) ≡ b
bool_back true rest = refl
bool_back false rest = refl

abbrev status_in : List ℕ → ReceiveStatus
status_in bytes = record {
  set = word_at 0 bytes;
  sequence_number = word_at 1 bytes;
  make_send_count = word_at 2 bytes;
  limit = word_at 3 bytes;
  messages = word_at 4 bytes;
  send_once_count = word_at 5 bytes;
  has_senders = word_at 6 bytes == 1;
  has_port_destroyed_request = word_at 7 bytes == 1;
  has_no_senders_request = word_at 8 bytes == 1;
}

status_back : (status : ReceiveStatus) → FitsReply (reply.ReceiveStatus status)
    → status_in (status_encoding status) ≡ status
status_back status fits =
    let flag_3 = word (number_of_bool status.has_no_senders_request) in
    let flags_2 = word (number_of_bool status.has_port_destroyed_request) ++ flag_3 in
    let flags = word (number_of_bool status.has_senders) ++ flags_2 in
    let after_4 = word status.send_once_count ++ flags in
    let after_3 = word status.messages ++ after_4 in
    let after_2 = word status.limit ++ after_3 in
    let after_1 = word status.make_send_count ++ after_2 in
    let set = little_number-word status.set (word status.sequence_number ++ after_1) fits.0 in
    let sequence_number = little_number-word status.sequence_number after_1 fits.1 in
    let make_send_count = little_number-word status.make_send_count after_2 fits.2 in
    let limit = little_number-word status.limit after_3 fits.3 in
    let messages = little_number-word status.messages after_4 fits.4 in
    let send_once_count = little_number-word status.send_once_count flags fits.5 in
    let senders = bool_back status.has_senders flags_2 in
    let destroyed = bool_back status.has_port_destroyed_request flag_3 in
    let no_senders = bool_back status.has_no_senders_request [] in
    λ i. record {
      set = set i;
      sequence_number = sequence_number i;
      make_send_count = make_send_count i;
      limit = limit i;
      messages = messages i;
      send_once_count = send_once_count i;
      has_senders = senders i;
      has_port_destroyed_request = destroyed i;
      has_no_senders_request = no_senders i;
    }

-- the replies that these bytes may encode, by the numbers of their calls, if there are results
abbrev replies_encoded : List ℕ → List PlainReply
replies_encoded bytes =
    reply.Done 0
    ∷ reply.Names (pairs_of (word_at 2 bytes) (drop 12 bytes))
    ∷ reply.Type (word_at 2 bytes)
    ∷ reply.Done 3
    ∷ reply.Done 4
    ∷ reply.Allocate (word_at 2 bytes)
    ∷ reply.Done 6
    ∷ reply.Done 7
    ∷ reply.References (word_at 2 bytes)
    ∷ reply.Done 9
    ∷ reply.Done 10
    ∷ reply.Done 11
    ∷ reply.Done 12
    ∷ reply.ReceiveStatus (status_in (drop 8 bytes))
    ∷ reply.SetStatus (words_of (word_at 2 bytes) (drop 12 bytes))
    ∷ reply.Done 15
    ∷ reply.PreviousTarget (word_at 2 bytes)
    ∷ reply.Done 17
    ∷ reply.Extracted (word_at 2 bytes) (kind_of_number (word_at 3 bytes))
    ∷ reply.Message (code_of (word_at 1 bytes)) (word_at 2 bytes) (word_at 3 bytes) (drop 16 bytes)
    ∷ reply.SpaceCreated (word_at 2 bytes) (word_at 3 bytes)
    ∷ []

abbrev reply_among : ℕ → List PlainReply → PlainReply
reply_among n [] = reply.Done n
reply_among zero (r ∷ replies) = r
reply_among (suc n) (r ∷ replies) = reply_among n replies

abbrev is_nothing : List ℕ → Bool
is_nothing [] = true
is_nothing (b ∷ bytes) = false

abbrev pub read_reply : List ℕ → PlainReply
read_reply bytes =
    if is_nothing (drop 8 bytes) then reply.Done (word_at 0 bytes)
    else reply_among (word_at 0 bytes) (replies_encoded bytes)

no_record : (b : Bool) → (b && (false || false)) ≡ true → ⊥
no_record true is = cc
no_record false is = cc

-- A reply to a call that has a record is read back by its bytes.
pub reply_back : (c : PlainCall) (r : PlainReply) → FitsReply r → has_record c r ≡ true → read_reply (reply_encoding r) ≡ r
unfolding reply_encoding
reply_back c (reply.Refused number code) fits recorded = absurd (no_record (is_recorded c) recorded)
reply_back c (reply.Done number) fits recorded = ap (λ (n : ℕ). reply.Done n) (little_number-word number (word 0) fits)
reply_back c (reply.Names names) fits recorded =
    let count = little_number-word (length names) (pairs_text names) fits.0 in
    ap (λ (n : ℕ). reply.Names (pairs_of n (pairs_text names))) count ∙ ap
    (λ (ns : List NamedType). reply.Names ns) (pairs_back names fits.1)
reply_back c (reply.Type bits) fits recorded = ap (λ (n : ℕ). reply.Type n) (little_number-word bits [] fits)
reply_back c (reply.Allocate name) fits recorded = ap (λ (n : ℕ). reply.Allocate n) (little_number-word name [] fits)
reply_back c (reply.References count) fits recorded =
    ap (λ (n : ℕ). reply.References n) (little_number-word count [] fits)
reply_back c (reply.ReceiveStatus status) fits recorded =
    ap (λ (s : ReceiveStatus). reply.ReceiveStatus s) (status_back status fits)
reply_back c (reply.SetStatus members) fits recorded =
    let count = little_number-word (length members) (flat_map word members) fits.0 in
    ap (λ (n : ℕ). reply.SetStatus (words_of n (flat_map word members))) count ∙ ap
    (λ (ns : List ℕ). reply.SetStatus ns) (words_back members fits.1)
reply_back c (reply.PreviousTarget name) fits recorded =
    ap (λ (n : ℕ). reply.PreviousTarget n) (little_number-word name [] fits)
reply_back c (reply.Extracted name kind.Receive) fits recorded =
    ap (λ (n : ℕ). reply.Extracted n kind.Receive) (little_number-word name (word 16) fits)
reply_back c (reply.Extracted name kind.Send) fits recorded =
    ap (λ (n : ℕ). reply.Extracted n kind.Send) (little_number-word name (word 17) fits)
reply_back c (reply.Extracted name kind.SendOnce) fits recorded =
    ap (λ (n : ℕ). reply.Extracted n kind.SendOnce) (little_number-word name (word 18) fits)
reply_back c (reply.Message code size member message) fits recorded =
    let number =
    ap code_of (little_number-word (number_of code) (word size ++ (word member ++ message)) (code-fits code))
    ∙ code_back code in
    let sizes = little_number-word size (word member ++ message) fits.0 in
    let members = little_number-word member message fits.1 in
    λ i. reply.Message (number i) (sizes i) (members i) message
reply_back c (reply.SpaceCreated space name) fits recorded =
    λ i. reply.SpaceCreated (little_number-word space (word name) fits.0 i) (little_number-word name [] fits.1 i)
