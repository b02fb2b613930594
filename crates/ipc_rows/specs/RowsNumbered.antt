-- Worked examples of numbered calls: one that is made, asked for again, refused, and kept in a segment and an image.
use Rattle.std.specs.Prelude.{◌≡◌, ℕ, false, [], ◌∷◌, ◌++◌, length, refl}
use Rattle.std.specs.FinMap as finmap
use Rattle.codes.specs.declared.kern_return.KernReturn.TheVariants.{InvalidArgument, InvalidValue}
use Rattle.ipc_model.specs.calls.Actions.{Done, allocated}
use Rattle.ipc_model.specs.calls.PlainStep.{PlainStep}
use Rattle.ipc_model.specs.calls.PortCalls.{tests_of}
use Rattle.ipc_model.specs.calls.Step.{Step, has_record}
use Rattle.ipc_model.specs.declared.call.Call.{Call}
use Rattle.ipc_model.specs.declared.call.Call.TheVariants.{Numbered, Unnumberable}
use Rattle.ipc_model.specs.declared.plain_call.PlainCall.{PlainCall}
use Rattle.ipc_model.specs.declared.plain_call.PlainCall.TheVariants as call
use Rattle.ipc_model.specs.declared.plain_reply.PlainReply.{PlainReply}
use Rattle.ipc_model.specs.declared.plain_reply.PlainReply.TheVariants as reply
use Rattle.ipc_model.specs.declared.reply.NumberedReply.{NumberedReply}
use Rattle.ipc_model.specs.declared.reply.Reply.{Reply}
use Rattle.ipc_model.specs.declared.reply.Reply.TheVariants as upper
use Rattle.ipc_model.specs.effects.Effects.{settled}
use Rattle.ipc_model.specs.encodings.Encodings.{call_encoding, reply_encoding, record_encoding}
use Rattle.ipc_model.specs.encodings.Images.{image_encoding, image_encoding_of}
use Rattle.ipc_model.specs.encodings.PlainCalls as plain_calls
use Rattle.ipc_model.specs.state.Ipc.{opening_ipc}
use Rattle.ipc_model.specs.state.State.{State, opening_state}
use Rattle.ipc_model.specs.store.Store.{open_gate, closed_gate, segment_header, batch_encoding, batches_encoding}
use Rattle.ipc_rows.specs.RowRules.{rows}
use Rattle.ipc_rows.specs.RowStates.{answered}
use Rattle.ipc_rows.specs.RowsSteps.{allocate-step}
use Rattle.words.specs.Words.{frame_encoding}

-- a call and its reply under a number
abbrev pub asked_as : ℕ → PlainCall → Call
asked_as request c = Numbered (record { request = request; call = c })

abbrev pub kept_as : ℕ → PlainReply → NumberedReply
kept_as request r = record { request = request; reply = r }

abbrev pub answered_as : ℕ → PlainReply → Reply
answered_as request r = upper.Numbered (kept_as request r)

-- Space 1 of a new store allocates a receive right under the number 7, gets the name 0x100, and keeps this reply.
abbrev pub with_seven : State
with_seven = record {
  ipc = allocated opening_ipc 1 finmap.empty 1 0x100;
  kept = finmap.insert finmap.empty 1 (kept_as 7 (reply.Allocate 0x100));
}

pub seven-step : Step opening_state 1 (asked_as 7 (call.Allocate 1)) (answered_as 7 (reply.Allocate 0x100)) with_seven
unfolding Step
seven-step = simp rows (refl, allocate-step, refl)

-- its frame, and its reply's
pub seven-frame : frame_encoding (call_encoding (asked_as 7 (call.Allocate 1)))
    ≡ 0x10 ∷ 0 ∷ 0 ∷ 0 ∷ 0x16 ∷ 0 ∷ 0 ∷ 0 ∷ 7 ∷ 0 ∷ 0 ∷ 0 ∷ 5 ∷ 0 ∷ 0 ∷ 0 ∷ 1 ∷ 0 ∷ 0 ∷ 0 ∷ []
unfolding plain_calls.call_encoding
seven-frame = refl

pub seven-reply : frame_encoding (reply_encoding (answered_as 7 (reply.Allocate 0x100)))
    ≡ 0x18 ∷ 0 ∷ 0 ∷ 0 ∷ 0x16 ∷ 0 ∷ 0 ∷ 0 ∷ 0 ∷ 0 ∷ 0 ∷ 0 ∷ 7 ∷ 0 ∷ 0 ∷ 0 ∷ 5 ∷ 0 ∷ 0 ∷ 0 ∷ 0 ∷ 0 ∷ 0 ∷ 0
    ∷ 0 ∷ 1 ∷ 0 ∷ 0 ∷ []
unfolding plain_calls.reply_encoding
seven-reply = refl

-- asked for again it is answered the same, in the same bytes, without a record, and nothing changes
pub seven-again : Step with_seven 1 (asked_as 7 (call.Allocate 1))
    (upper.Repeated (kept_as 7 (reply.Allocate 0x100))) with_seven
unfolding Step
seven-again = simp rows (refl, refl)

pub seven-same_bytes : reply_encoding (upper.Repeated (kept_as 7 (reply.Allocate 0x100)))
    ≡ reply_encoding (answered_as 7 (reply.Allocate 0x100))
seven-same_bytes = refl

pub seven-no_record : has_record (asked_as 7 (call.Allocate 1)) (upper.Repeated (kept_as 7 (reply.Allocate 0x100)))
    ≡ false
seven-no_record = refl

-- whatever its arguments, if it has the same call number
pub seven-again_otherwise : Step with_seven 1 (asked_as 7 (call.Allocate 3))
    (upper.Repeated (kept_as 7 (reply.Allocate 0x100))) with_seven
unfolding Step
seven-again_otherwise = simp rows (refl, refl)

-- A segment of epoch 0 with this record has 90 bytes, and the image with the reply that the space keeps 126.
pub seven-segment : length (segment_header open_gate 0
    ++ (batches_encoding 0 ((record { space = 1; call = asked_as 7 (call.Allocate 1); reply = answered_as 7 (reply.Allocate 0x100) } ∷ []) ∷ [])
    ++ closed_gate ∷ [])) ≡ 90
unfolding batch_encoding record_encoding plain_calls.call_encoding plain_calls.reply_encoding
seven-segment = refl

pub seven-image : length (image_encoding with_seven) ≡ 126
unfolding image_encoding_of plain_calls.reply_encoding
seven-image = simp rows

-- A request below the last one, and the last one for a call of another number, are refused.
pub six-refused : Step with_seven 1 (asked_as 6 (call.Allocate 1)) (answered (reply.Refused 22 InvalidValue)) with_seven
unfolding Step
six-refused = simp rows (refl, refl)

pub six-frame : frame_encoding (reply_encoding (answered (reply.Refused 22 InvalidValue)))
    ≡ 8 ∷ 0 ∷ 0 ∷ 0 ∷ 0x16 ∷ 0 ∷ 0 ∷ 0 ∷ 0x12 ∷ 0 ∷ 0 ∷ 0 ∷ []
unfolding plain_calls.reply_encoding
six-frame = refl

pub none-refused : Step opening_state 1 (asked_as 0 (call.Allocate 1)) (answered (reply.Refused 22 InvalidValue)) opening_state
unfolding Step
none-refused = simp rows (refl, refl)

pub other-refused : Step with_seven 1 (asked_as 7 (call.Destroy 0x100)) (answered (reply.Refused 22 InvalidArgument))
    with_seven
unfolding Step
other-refused = simp rows (refl, refl)

-- A call that may not be numbered is refused, whatever its number.
pub unnumberable-refused : Step with_seven 1 Unnumberable (answered (reply.Refused 22 InvalidArgument)) with_seven
unfolding Step
unnumberable-refused = simp rows (refl, refl)

pub names-refused : Step with_seven 1 (asked_as 8 call.Names) (answered (reply.Refused 22 InvalidArgument)) with_seven
unfolding Step
names-refused = simp rows (refl, refl)

-- The call that is numbered may be refused itself. Then nothing is kept, and its number may be used again.
pub eight-refused : Step with_seven 1 (asked_as 8 (call.Allocate 2)) (answered_as 8 (reply.Refused 5 InvalidValue)) with_seven
unfolding Step PlainStep Done tests_of
eight-refused = simp rows (refl, (with_seven.ipc, [], (refl, refl, refl), settled), refl)

pub eight-frame : frame_encoding (reply_encoding (answered_as 8 (reply.Refused 5 InvalidValue)))
    ≡ 0x14 ∷ 0 ∷ 0 ∷ 0 ∷ 0x16 ∷ 0 ∷ 0 ∷ 0 ∷ 0 ∷ 0 ∷ 0 ∷ 0 ∷ 8 ∷ 0 ∷ 0 ∷ 0 ∷ 5 ∷ 0 ∷ 0 ∷ 0 ∷ 0x12 ∷ 0 ∷ 0 ∷ 0 ∷ []
unfolding plain_calls.reply_encoding
eight-frame = refl
