-- Calls, replies and records in bytes, with one canonical encoding each.
use Rattle.std.specs.Prelude.{◌≡◌, ℕ, ◌+◌, ◌^◌, ◌<◌, ◌≤◌, IsTrue, List, [], ◌∷◌, ◌++◌, length}
use Rattle.codes.specs.declared.call_number.TheConstants.{NUMBERED}
use Rattle.codes.specs.declared.limits.TheConstants.{MAX_FRAME_CONTENT}
use Rattle.ipc_model.specs.calls.Step.{number_of_call, has_record}
use Rattle.ipc_model.specs.calls.PlainStep as plain
use Rattle.ipc_model.specs.declared.call.Call.{Call}
use Rattle.ipc_model.specs.declared.call.Call.TheVariants.{Plain, Numbered, Unnumberable}
use Rattle.ipc_model.specs.declared.record.Record.{Record}
use Rattle.ipc_model.specs.declared.reply.NumberedReply.{NumberedReply}
use Rattle.ipc_model.specs.declared.reply.Reply.{Reply}
use Rattle.ipc_model.specs.declared.reply.Reply.TheVariants as reply
use Rattle.ipc_model.specs.encodings.PlainCalls as plain_calls
use Rattle.ipc_model.specs.encodings.PlainCalls.{done_encoding}
use Rattle.words.specs.Words.{word, long_word, frame_encoding}

-- The content of a call's frame: its number and its arguments. Those of number 22 are the request, and then the number
-- and the arguments of the call that is numbered.
abbrev pub call_encoding : Call → List ℕ
call_encoding (Plain c) = plain_calls.call_encoding c
call_encoding (Numbered numbered) =
    word NUMBERED ++ (word numbered.request ++ plain_calls.call_encoding numbered.call)
call_encoding Unnumberable = word NUMBERED

-- The content of the frame of a reply to a numbered call, with the code 0: the request, and then the reply to the call
-- that is numbered.
abbrev pub numbered_encoding : NumberedReply → List ℕ
numbered_encoding answer = done_encoding NUMBERED (word answer.request ++ plain_calls.reply_encoding answer.reply)

-- the content of a reply's frame
abbrev pub reply_encoding : Reply → List ℕ
reply_encoding (reply.Plain answer) = plain_calls.reply_encoding answer
reply_encoding (reply.Numbered answer) = numbered_encoding answer
reply_encoding (reply.Repeated answer) = numbered_encoding answer

-- the number of the call that a reply belongs to
abbrev pub number_of_reply : Reply → ℕ
number_of_reply (reply.Plain answer) = plain_calls.number_of_reply answer
number_of_reply (reply.Numbered answer) = NUMBERED
number_of_reply (reply.Repeated answer) = NUMBERED

-- a call as a record keeps it: a send with what is kept of its message
abbrev pub canonical_call : Call → Call
canonical_call (Plain c) = Plain (plain_calls.canonical_call c)
canonical_call (Numbered numbered) =
    Numbered (record numbered { call = plain_calls.canonical_call numbered.call })
canonical_call Unnumberable = Unnumberable

abbrev pub canonical_record : Record → Record
canonical_record entry = record entry { call = canonical_call entry.call }

-- a record with its number in its epoch: the caller's space, the frame of the kept call, and the frame of the reply
unfoldable pub record_encoding : ℕ → Record → List ℕ
record_encoding number entry =
    long_word number ++ (word entry.space
    ++ (frame_encoding (call_encoding (canonical_call entry.call)) ++ frame_encoding (reply_encoding entry.reply)))

-- records that follow one another, numbered from n
abbrev pub records_encoding : ℕ → List Record → List ℕ
records_encoding n [] = []
records_encoding n (first ∷ records) = record_encoding n first ++ records_encoding (n + 1) records

-- the arguments are numbers of four bytes, and what is sent consists of bytes
abbrev pub FitsCall : Call → Type 0
FitsCall (Plain c) = plain_calls.FitsCall c
FitsCall (Numbered numbered) = (numbered.request < 2 ^ 32) × plain_calls.FitsCall numbered.call
FitsCall Unnumberable = Unit {0}

-- the results are numbers of four bytes, and a message consists of bytes
abbrev pub FitsNumbered : NumberedReply → Type 0
FitsNumbered answer = (answer.request < 2 ^ 32) × plain_calls.FitsReply answer.reply

abbrev pub FitsReply : Reply → Type 0
FitsReply (reply.Plain answer) = plain_calls.FitsReply answer
FitsReply (reply.Numbered answer) = FitsNumbered answer
FitsReply (reply.Repeated answer) = FitsNumbered answer

-- a send's message has a size that a message may have
abbrev pub IsWholeCall : Call → Type 0
IsWholeCall (Plain c) = plain_calls.IsWholeCall c
IsWholeCall (Numbered numbered) = plain_calls.IsWholeCall numbered.call
IsWholeCall Unnumberable = Unit {0}

-- A call in a record is in range, whole, and as a record keeps it.
pub record IsCanonicalCall (c : Call) : Type 0 where
  pub fits : FitsCall c
  pub whole : IsWholeCall c
  pub kept : canonical_call c ≡ c

-- The results that the reply to a call has. That to a numbered call has its request, and the reply to the call that is
-- numbered.
abbrev pub HasItsResults : Call → Reply → Type 0
HasItsResults (Plain c) (reply.Plain answer) = plain_calls.HasItsResults c answer
HasItsResults (Numbered numbered) (reply.Numbered answer) =
    (answer.request ≡ numbered.request)
    × (plain_calls.number_of_reply answer.reply ≡ plain.number_of_call numbered.call)
    × plain_calls.HasItsResults numbered.call answer.reply
HasItsResults c answer = Unit {0}

-- A reply in a record of this call is in range, of the call's number and with its results, and such that the call has a
-- record: for a plain call, a row of the table in `PlainCalls`, and for a numbered one, a row of the call that it
-- numbers. A call that is refused has no record.
pub record IsRecordedReply (c : Call) (answer : Reply) : Type 0 where
  pub fits : FitsReply answer
  pub of_one_call : number_of_reply answer ≡ number_of_call c
  pub results : HasItsResults c answer
  pub recorded : IsTrue (has_record c answer)

-- A record that a segment may hold: none of its two frames is too long.
pub record IsRecord (entry : Record) : Type 0 where
  pub space : entry.space < 2 ^ 32
  pub call : IsCanonicalCall entry.call
  pub reply : IsRecordedReply entry.call entry.reply
  pub frames : (length (call_encoding entry.call) ≤ MAX_FRAME_CONTENT)
      × (length (reply_encoding entry.reply) ≤ MAX_FRAME_CONTENT)
