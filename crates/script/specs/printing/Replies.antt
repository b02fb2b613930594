-- The words of replies.
use Rattle.std.specs.Prelude.{ℕ, Bool, ◌==◌, ◌&&◌, List, [], ◌∷◌, ◌++◌, length, flat_map, map, codes, if◌then◌else◌}
use Rattle.codes.specs.declared.kern_return.KernReturn.{KernReturn}
use Rattle.codes.specs.declared.kern_return.KernReturn.TheVariants.{Success}
use Rattle.ipc_model.specs.declared.plain_reply.NamedType.{NamedType}
use Rattle.ipc_model.specs.declared.plain_reply.ReceiveStatus.{ReceiveStatus}
use Rattle.ipc_model.specs.declared.plain_reply.PlainReply.{PlainReply}
use Rattle.ipc_model.specs.declared.plain_reply.PlainReply.TheVariants as reply
use Rattle.ipc_model.specs.declared.reply.Reply.{Reply}
use Rattle.ipc_model.specs.declared.reply.Reply.TheVariants as variants
use Rattle.ipc_model.specs.declared.message.RightKind.{RightKind}
use Rattle.ipc_model.specs.declared.message.RightKind.TheVariants as right
use Rattle.script.specs.declared.vocabulary.kind.Kind.TheVariants.{Hexadecimal, Decimal}
use Rattle.script.specs.vocabulary.Codes.{code_word}
use Rattle.script.specs.printing.Calls.{name_word, count_word}
use Rattle.script.specs.printing.Messages.{message_words, optional_words}

unfoldable pub yes_or_no : Bool → List ℕ
yes_or_no b = if b then codes "yes" else codes "no"

abbrev pub kind_word : RightKind → List ℕ
kind_word right.Receive = codes "receive"
kind_word right.Send = codes "send"
kind_word right.SendOnce = codes "send_once"

abbrev pub place_words : ReceiveStatus → List (List ℕ)
place_words s = codes "set" ∷ name_word s.set ∷ codes "seqno" ∷ count_word s.sequence_number ∷ codes "mscount"
    ∷ count_word s.make_send_count ∷ []

abbrev pub queue_words : ReceiveStatus → List (List ℕ)
queue_words s = codes "qlimit" ∷ count_word s.limit ∷ codes "messages" ∷ count_word s.messages ∷ codes "send_once"
    ∷ count_word s.send_once_count ∷ []

unfoldable pub count_words : ReceiveStatus → List (List ℕ)
count_words s = place_words s ++ queue_words s

abbrev pub answers_words : ReceiveStatus → List (List ℕ)
answers_words s =
    codes "senders" ∷ yes_or_no s.has_senders ∷ codes "port_destroyed" ∷ yes_or_no s.has_port_destroyed_request
    ∷ codes "no_senders" ∷ yes_or_no s.has_no_senders_request ∷ []

unfoldable pub status_words : ReceiveStatus → List (List ℕ)
status_words s = count_words s ++ answers_words s

unfoldable pub names_words : List NamedType → List (List ℕ)
names_words names = flat_map (λ (n : NamedType). name_word n.name ∷ name_word n.bits ∷ []) names

unfoldable pub members_words : List ℕ → List (List ℕ)
members_words members = map name_word members

-- the code of a mach_msg, or nothing if it was done and the reply has nothing else
unfoldable pub outcome_words : KernReturn → Bool → List (List ℕ)
outcome_words Success silent = if silent then [] else codes "=" ∷ []
outcome_words code silent = codes "!" ∷ code_word code ∷ []

unfoldable pub received_words : List ℕ → List (List ℕ)
received_words [] = []
received_words (b ∷ message) = codes "message" ∷ message_words (b ∷ message)

unfoldable pub message_reply_words : KernReturn → ℕ → ℕ → List ℕ → List (List ℕ)
message_reply_words code size member message =
    outcome_words code (size == 0 && member == 0 && length message == 0) ++ optional_words (codes "size") Decimal size
    ++ optional_words (codes "member") Hexadecimal member ++ received_words message

-- the words of the results of a call that was done
abbrev pub result_words : PlainReply → List (List ℕ)
result_words (reply.Names names) = names_words names
result_words (reply.Type bits) = name_word bits ∷ []
result_words (reply.Allocate name) = name_word name ∷ []
result_words (reply.References count) = count_word count ∷ []
result_words (reply.ReceiveStatus status) = status_words status
result_words (reply.SetStatus members) = members_words members
result_words (reply.PreviousTarget name) = name_word name ∷ []
result_words (reply.Extracted name kind) = name_word name ∷ kind_word kind ∷ []
result_words (reply.SpaceCreated space name) = codes "space" ∷ count_word space ∷ codes "name" ∷ name_word name ∷ []
result_words answer = []

-- the words after a call that isn't numbered
abbrev pub plain_reply_words : PlainReply → List (List ℕ)
plain_reply_words (reply.Refused number code) = codes "!" ∷ code_word code ∷ []
plain_reply_words (reply.Done number) = []
plain_reply_words (reply.Message code size member message) = message_reply_words code size member message
plain_reply_words answer = codes "=" ∷ result_words answer

-- The words after a call. After a numbered call that was made these are a colon, the request, and the reply to the call
-- that is numbered.
abbrev pub reply_words : Reply → List (List ℕ)
reply_words (variants.Plain answer) = plain_reply_words answer
reply_words (variants.Numbered answer) = codes ":" ∷ count_word answer.request ∷ plain_reply_words answer.reply
reply_words (variants.Repeated answer) = codes ":" ∷ count_word answer.request ∷ plain_reply_words answer.reply
