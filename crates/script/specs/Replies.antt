-- Reading replies.
use Rattle.std.specs.Prelude.{◌≡◌, ◌≢◌, ℕ, Bool, true, false, ◌==◌, ◌||◌, not, IsTrue, List, [], ◌∷◌, find, Option, None, Some, Ok, codes, if◌then◌else◌}
use Rattle.std.specs.Str.{bytes_eq}
use Rattle.codes.specs.declared.call_number.TheConstants.{MACH_PORT_NAMES, MACH_PORT_TYPE, MACH_PORT_ALLOCATE, MACH_PORT_GET_REFS, MACH_PORT_GET_RECEIVE_STATUS, MACH_PORT_GET_SET_STATUS, MACH_PORT_REQUEST_NOTIFICATION, MACH_PORT_EXTRACT_RIGHT, MACH_MSG, SPACE_CREATE, NUMBERED}
use Rattle.codes.specs.declared.kern_return.KernReturn.{KernReturn}
use Rattle.codes.specs.declared.kern_return.KernReturn.TheVariants.{Success}
use Rattle.codes.specs.KernReturn.{all_codes}
use Rattle.ipc_model.specs.declared.plain_reply.NamedType.{NamedType}
use Rattle.ipc_model.specs.declared.plain_reply.ReceiveStatus.{ReceiveStatus}
use Rattle.ipc_model.specs.declared.plain_reply.PlainReply.{PlainReply}
use Rattle.ipc_model.specs.declared.plain_reply.PlainReply.TheVariants as reply
use Rattle.ipc_model.specs.declared.call.Call.{Call}
use Rattle.ipc_model.specs.declared.call.Call.TheVariants.{Plain, Numbered, Unnumberable}
use Rattle.ipc_model.specs.declared.reply.Reply.{Reply}
use Rattle.ipc_model.specs.declared.reply.Reply.TheVariants as variants
use Rattle.ipc_model.specs.calls.PlainStep.{number_of_call}
use Rattle.ipc_model.specs.encodings.PlainCalls.{number_of_reply}
use Rattle.ipc_model.specs.declared.message.RightKind.{RightKind}
use Rattle.ipc_model.specs.declared.message.RightKind.TheVariants as right
use Rattle.script.specs.declared.vocabulary.kind.Kind.{Kind}
use Rattle.script.specs.declared.vocabulary.kind.Kind.TheVariants.{Hexadecimal, Decimal}
use Rattle.script.specs.vocabulary.Codes.{code_word}
use Rattle.script.specs.Messages.{message_at}
use Rattle.script.specs.declared.fault.Expected.TheVariants as expected
use Rattle.script.specs.Reading.{Reading, ◌>>=◌, stop, wanted, value_at, label_at, labelled_at, optional_at, last}

unfoldable pub yes_or_no_at : List (List ℕ) → Reading (Bool × List (List ℕ))
yes_or_no_at words = elim (label_at (codes "yes") words) [
  | Some rest ↦ Ok (true, rest)
  | None ↦ wanted expected.YesOrNo words (label_at (codes "no") words) >>= λ rest. Ok (false, rest)
]

unfoldable pub answer_at : List ℕ → List (List ℕ) → Reading (Bool × List (List ℕ))
answer_at label words = wanted expected.Label words (label_at label words) >>= λ rest. yes_or_no_at rest

unfoldable pub kind_at : List (List ℕ) → Reading (RightKind × List (List ℕ))
kind_at words = elim (label_at (codes "receive") words) [
  | Some rest ↦ Ok (right.Receive, rest)
  | None ↦ elim (label_at (codes "send") words) [
    | Some rest ↦ Ok (right.Send, rest)
    | None ↦ wanted expected.RightKind words (label_at (codes "send_once") words) >>= λ rest. Ok (right.SendOnce, rest)
  ]
]

unfoldable pub counts_at : List (List ℕ) → Reading (ReceiveStatus × List (List ℕ))
counts_at words = do
  set ← labelled_at (codes "set") Hexadecimal words
  seqno ← labelled_at (codes "seqno") Decimal set.1
  mscount ← labelled_at (codes "mscount") Decimal seqno.1
  qlimit ← labelled_at (codes "qlimit") Decimal mscount.1
  messages ← labelled_at (codes "messages") Decimal qlimit.1
  send_once ← labelled_at (codes "send_once") Decimal messages.1
  Ok (
    record {
      set = set.0;
      sequence_number = seqno.0;
      make_send_count = mscount.0;
      limit = qlimit.0;
      messages = messages.0;
      send_once_count = send_once.0;
      has_senders = false;
      has_port_destroyed_request = false;
      has_no_senders_request = false;
    },
    send_once.1,
  )

unfoldable pub status_at : List (List ℕ) → Reading (ReceiveStatus × List (List ℕ))
status_at words = do
  counts ← counts_at words
  senders ← answer_at (codes "senders") counts.1
  port_destroyed ← answer_at (codes "port_destroyed") senders.1
  no_senders ← answer_at (codes "no_senders") port_destroyed.1
  Ok (
    record counts.0 {
      has_senders = senders.0;
      has_port_destroyed_request = port_destroyed.0;
      has_no_senders_request = no_senders.0;
    },
    no_senders.1,
  )

abbrev pub in_front_of : {X : Type 0} → X → Reading (List X) → Reading (List X)
in_front_of x read = read >>= λ xs. Ok (x ∷ xs)

-- a name and its type, if a word is left
unfoldable pub named_at : List (List ℕ) → Reading (Option (NamedType × List (List ℕ)))
named_at [] = Ok None
named_at (word ∷ words) =
    value_at Hexadecimal (word ∷ words) >>= λ n. value_at Hexadecimal n.1 >>= λ b. Ok
    (Some (record { name = n.0; bits = b.0 }, b.1))

unfoldable pub member_at : List (List ℕ) → Reading (Option (ℕ × List (List ℕ)))
member_at [] = Ok None
member_at (word ∷ words) = value_at Hexadecimal (word ∷ words) >>= λ n. Ok (Some (n.0, n.1))

-- all words, in pairs
unfoldable pub names_at : List (List ℕ) → Reading (List NamedType)
names_at [] = Ok []
names_at (word ∷ []) = value_at Hexadecimal (word ∷ []) >>= λ n. stop expected.Number []
names_at (word ∷ second ∷ words) =
    value_at Hexadecimal (word ∷ second ∷ words) >>= λ n. value_at Hexadecimal (second ∷ words) >>= λ b. in_front_of
    (record { name = n.0; bits = b.0 }) (names_at words)

unfoldable pub members_at : List (List ℕ) → Reading (List ℕ)
members_at [] = Ok []
members_at (word ∷ words) = value_at Hexadecimal (word ∷ words) >>= λ n. in_front_of n.0 (members_at words)

unfoldable pub received_at : List (List ℕ) → Reading (List ℕ × List (List ℕ))
received_at words = elim (label_at (codes "message") words) [ None ↦ Ok ([], words) | Some rest ↦ message_at rest ]

unfoldable pub message_reply_at : KernReturn → List (List ℕ) → Reading PlainReply
message_reply_at code words = do
  size ← optional_at (codes "size") Decimal words
  member ← optional_at (codes "member") Hexadecimal size.1
  message ← received_at member.1
  last (reply.Message code size.0 member.0 message.0, message.1)

unfoldable pub last_value : Kind → List (List ℕ) → Reading ℕ
last_value k words = value_at k words >>= λ n. last n

unfoldable pub extracted_at : List (List ℕ) → Reading PlainReply
extracted_at words = do
  name ← value_at Hexadecimal words
  kind ← kind_at name.1
  last (reply.Extracted name.0 kind.0, kind.1)

unfoldable pub space_created_at : List (List ℕ) → Reading PlainReply
space_created_at words = do
  space ← labelled_at (codes "space") Decimal words
  name ← labelled_at (codes "name") Hexadecimal space.1
  last (reply.SpaceCreated space.0 name.0, name.1)

unfoldable pub last_status_at : List (List ℕ) → Reading PlainReply
last_status_at words = status_at words >>= λ status. last (reply.ReceiveStatus status.0, status.1)

-- the results of a call with this number
unfoldable pub results_at : ℕ → List (List ℕ) → Reading PlainReply
results_at n words =
    if n == MACH_PORT_NAMES then (names_at words >>= λ names. Ok (reply.Names names))
    else if n == MACH_PORT_TYPE then (last_value Hexadecimal words >>= λ bits. Ok (reply.Type bits))
    else if n == MACH_PORT_ALLOCATE then (last_value Hexadecimal words >>= λ name. Ok (reply.Allocate name))
    else if n == MACH_PORT_GET_REFS then (last_value Decimal words >>= λ count. Ok (reply.References count))
    else if n == MACH_PORT_GET_RECEIVE_STATUS then last_status_at words
    else if n == MACH_PORT_GET_SET_STATUS then (members_at words >>= λ members. Ok (reply.SetStatus members))
    else if n == MACH_PORT_REQUEST_NOTIFICATION
    then (last_value Hexadecimal words >>= λ name. Ok (reply.PreviousTarget name))
    else if n == MACH_PORT_EXTRACT_RIGHT then extracted_at words
    else if n == MACH_MSG then message_reply_at Success words
    else if n == SPACE_CREATE then space_created_at words
    else stop expected.End words

-- a call with this number has results, which its line must contain
abbrev pub has_results : ℕ → Bool
has_results n =
    n == MACH_PORT_NAMES || n == MACH_PORT_TYPE || n == MACH_PORT_ALLOCATE || n == MACH_PORT_GET_REFS ||
    n == MACH_PORT_GET_RECEIVE_STATUS || n == MACH_PORT_GET_SET_STATUS || n == MACH_PORT_REQUEST_NOTIFICATION ||
    n == MACH_PORT_EXTRACT_RIGHT || n == SPACE_CREATE || n == NUMBERED

-- the reply of a line that contains none
unfoldable pub silence : ℕ → List (List ℕ) → Reading PlainReply
silence n words =
    if has_results n then stop expected.Results words else if n == MACH_MSG then Ok (reply.Message Success 0 0 [])
    else Ok (reply.Done n)

unfoldable pub refusal_at : ℕ → List (List ℕ) → Reading PlainReply
refusal_at n [] = stop expected.Code []
refusal_at n (word ∷ words) =
    wanted expected.Code (word ∷ words) (find (λ code. bytes_eq (code_word code) word) all_codes) >>= λ code.
    if n == MACH_MSG then message_reply_at code words else last (reply.Refused n code, words)

-- the reply to a call with this number that isn't numbered; without results no `=` follows the call
unfoldable pub plain_reply_at : ℕ → List (List ℕ) → Reading PlainReply
plain_reply_at n [] = silence n []
plain_reply_at n (word ∷ words) =
    if bytes_eq word (codes "=")
    then (if has_results n || n == MACH_MSG then results_at n words else stop expected.End (word ∷ words))
    else if bytes_eq word (codes "!") then refusal_at n words
    else stop expected.Results (word ∷ words)

-- a refusal isn't of mach_msg, and a reply without results is neither to mach_msg nor to a call that has results
abbrev pub IsPlainOwn : PlainReply → Type 0
IsPlainOwn (reply.Refused number code) = number ≢ MACH_MSG
IsPlainOwn (reply.Done number) = IsTrue (not (has_results number || number == MACH_MSG))
IsPlainOwn answer = Unit {0}

unfoldable pub own_reply_at : ℕ → List (List ℕ) → Reading Reply
own_reply_at n words = plain_reply_at n words >>= λ r. Ok (variants.Plain r)

-- the request, and the reply to the numbered call with this number
unfoldable pub made_at : ℕ → List (List ℕ) → Reading Reply
made_at n words = do
  request ← value_at Decimal words
  r ← plain_reply_at n request.1
  Ok (variants.Numbered (record { request = request.0; reply = r }))

-- the reply of number 22 to a numbered call with this number: the call was made, or refused
unfoldable pub numbered_reply_at : ℕ → List (List ℕ) → Reading Reply
numbered_reply_at n words =
    elim (label_at (codes ":") words) [ None ↦ own_reply_at NUMBERED words | Some rest ↦ made_at n rest ]

-- the reply to a call
unfoldable pub reply_at : Call → List (List ℕ) → Reading Reply
reply_at (Plain c) words = own_reply_at (number_of_call c) words
reply_at (Numbered numbered) words = numbered_reply_at (number_of_call numbered.call) words
reply_at Unnumberable words = own_reply_at NUMBERED words

-- The same for all replies. The reply to a numbered call that was made contains a reply to the call itself. A repeated
-- reply is never read.
abbrev pub IsOwn : Reply → Type 0
IsOwn (variants.Plain answer) = IsPlainOwn answer
IsOwn (variants.Numbered answer) = IsPlainOwn answer.reply
IsOwn (variants.Repeated answer) = ⊥

-- The reply is one to this call.
abbrev pub IsOfCall : Call → Reply → Type 0
IsOfCall (Plain c) (variants.Plain answer) = number_of_reply answer ≡ number_of_call c
IsOfCall (Numbered numbered) (variants.Plain answer) = number_of_reply answer ≡ NUMBERED
IsOfCall (Numbered numbered) (variants.Numbered answer) =
    number_of_reply answer.reply ≡ number_of_call numbered.call
IsOfCall c answer = ⊥
