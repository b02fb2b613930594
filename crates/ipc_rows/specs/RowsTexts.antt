-- Worked examples of bytes: a state as an image has it, and a record.
use Rattle.std.specs.Prelude.{◌≡◌, ◌⊎◌, ℕ, zero, suc, ◌<◌, true, false, List, [], ◌∷◌, length, replicate, slice_index, refl}
use Rattle.std.proofs.Common.{ap, inl, inr, arith}
use Rattle.std.specs.FinMap as finmap
use Rattle.codes.specs.declared.store_version.StoreVersion.TheVariants.{One}
use Rattle.codes.specs.declared.kern_return.KernReturn.TheVariants.{Success, InvalidValue, RcvTooLarge}
use Rattle.ipc_model.specs.declared.call.Call.{Call}
use Rattle.ipc_model.specs.declared.plain_call.PlainCall.TheVariants as call
use Rattle.ipc_model.specs.declared.reply.Reply.{Reply}
use Rattle.ipc_model.specs.declared.plain_reply.PlainReply.TheVariants as reply
use Rattle.ipc_model.specs.declared.record.Record.{Record}
use Rattle.ipc_model.specs.messages.Kept.{canonical_message, used_bits}
use Rattle.ipc_model.specs.messages.Messages.{used_parts}
use Rattle.ipc_model.specs.encodings.Images.{image_encoding, image_encoding_of}
use Rattle.ipc_rows.specs.RowRules.{rows}
use Rattle.ipc_rows.specs.RowStates.{answered, asked, keeps_none, rights_to}
use Rattle.ipc_model.specs.state.Ipc.{new_port}
use Rattle.ipc_model.specs.state.State.{State}
use Rattle.ipc_model.specs.encodings.Encodings.{call_encoding, reply_encoding, record_encoding, IsRecord}
use Rattle.words.specs.Words.{AreBytes, frame_encoding}
use Rattle.ipc_model.specs.encodings.PlainCalls as plain_calls

-- after the first receive right was allocated
abbrev pub with_one_port : State
with_one_port = keeps_none (record {
  spaces = finmap.insert finmap.empty 1 (finmap.insert finmap.empty 0x100 (rights_to 1 true 0));
  ports = finmap.insert finmap.empty 1 new_port;
  next = 2;
})

-- in 98 bytes; after the space's number stands that of its last request, 0
pub one_port-image : image_encoding with_one_port
    ≡ 2 ∷ 0 ∷ 0 ∷ 0 ∷ 0 ∷ 0 ∷ 0 ∷ 0 ∷ 1 ∷ 0 ∷ 0 ∷ 0 ∷ 1 ∷ 0 ∷ 0 ∷ 0 ∷ 0 ∷ 0 ∷ 0 ∷ 0 ∷ 1 ∷ 0 ∷ 0 ∷ 0 ∷ 0 ∷ 1 ∷ 0 ∷ 0
    ∷ 1 ∷ 1 ∷ 0 ∷ 0 ∷ 0 ∷ 0 ∷ 0 ∷ 0 ∷ 0 ∷ 1 ∷ 0 ∷ 0 ∷ 0 ∷ 0 ∷ 0 ∷ 0 ∷ 0 ∷ 0 ∷ 0 ∷ 0 ∷ 0 ∷ 0 ∷ 1 ∷ 0 ∷ 0 ∷ 0 ∷ 1 ∷ 0
    ∷ 0 ∷ 0 ∷ 0 ∷ 0 ∷ 0 ∷ 0 ∷ 5 ∷ 0 ∷ 0 ∷ 0 ∷ 0 ∷ 0 ∷ 0 ∷ 0 ∷ 0 ∷ 0 ∷ 0 ∷ 0 ∷ 0 ∷ 0 ∷ 0 ∷ 0 ∷ 0 ∷ 0 ∷ 0 ∷ 0 ∷ 0 ∷ 0
    ∷ 0 ∷ 0 ∷ 0 ∷ 0 ∷ 0 ∷ 0 ∷ 0 ∷ 0 ∷ 0 ∷ 0 ∷ 0 ∷ 0 ∷ 0 ∷ 0 ∷ []
unfolding image_encoding_of
one_port-image = simp rows

-- and in version 1, in 94
pub one_port-image_of_version_one : image_encoding_of One with_one_port
    ≡ 2 ∷ 0 ∷ 0 ∷ 0 ∷ 0 ∷ 0 ∷ 0 ∷ 0 ∷ 1 ∷ 0 ∷ 0 ∷ 0 ∷ 1 ∷ 0 ∷ 0 ∷ 0 ∷ 1 ∷ 0 ∷ 0 ∷ 0 ∷ 0 ∷ 1 ∷ 0 ∷ 0 ∷ 1 ∷ 1 ∷ 0 ∷ 0
    ∷ 0 ∷ 0 ∷ 0 ∷ 0 ∷ 0 ∷ 1 ∷ 0 ∷ 0 ∷ 0 ∷ 0 ∷ 0 ∷ 0 ∷ 0 ∷ 0 ∷ 0 ∷ 0 ∷ 0 ∷ 0 ∷ 1 ∷ 0 ∷ 0 ∷ 0 ∷ 1 ∷ 0 ∷ 0 ∷ 0 ∷ 0 ∷ 0
    ∷ 0 ∷ 0 ∷ 5 ∷ 0 ∷ 0 ∷ 0 ∷ 0 ∷ 0 ∷ 0 ∷ 0 ∷ 0 ∷ 0 ∷ 0 ∷ 0 ∷ 0 ∷ 0 ∷ 0 ∷ 0 ∷ 0 ∷ 0 ∷ 0 ∷ 0 ∷ 0 ∷ 0 ∷ 0 ∷ 0 ∷ 0 ∷ 0
    ∷ 0 ∷ 0 ∷ 0 ∷ 0 ∷ 0 ∷ 0 ∷ 0 ∷ 0 ∷ 0 ∷ 0 ∷ []
unfolding image_encoding_of
one_port-image_of_version_one = simp rows

-- the frame that allocates a receive right, and the reply's
pub allocate-frame : frame_encoding (call_encoding (asked (call.Allocate 1)))
    ≡ 8 ∷ 0 ∷ 0 ∷ 0 ∷ 5 ∷ 0 ∷ 0 ∷ 0 ∷ 1 ∷ 0 ∷ 0 ∷ 0 ∷ []
unfolding plain_calls.call_encoding
allocate-frame = refl

pub allocated-frame : frame_encoding (reply_encoding (answered (reply.Allocate 0x100)))
    ≡ 12 ∷ 0 ∷ 0 ∷ 0 ∷ 5 ∷ 0 ∷ 0 ∷ 0 ∷ 0 ∷ 0 ∷ 0 ∷ 0 ∷ 0 ∷ 1 ∷ 0 ∷ 0 ∷ []
unfolding plain_calls.reply_encoding
allocated-frame = refl

-- the first record of an epoch
pub first-record : record_encoding 0 (record { space = 1; call = asked (call.Allocate 1); reply = answered (reply.Allocate 0x100) })
    ≡ 0 ∷ 0 ∷ 0 ∷ 0 ∷ 0 ∷ 0 ∷ 0 ∷ 0 ∷ 1 ∷ 0 ∷ 0 ∷ 0 ∷ 8 ∷ 0 ∷ 0 ∷ 0 ∷ 5 ∷ 0 ∷ 0 ∷ 0 ∷ 1 ∷ 0 ∷ 0 ∷ 0 ∷ 12 ∷ 0 ∷ 0 ∷ 0 ∷ 5
    ∷ 0 ∷ 0 ∷ 0 ∷ 0 ∷ 0 ∷ 0 ∷ 0 ∷ 0 ∷ 1 ∷ 0 ∷ 0 ∷ []
unfolding record_encoding plain_calls.call_encoding plain_calls.reply_encoding
first-record = refl

pub type-frame : frame_encoding (reply_encoding (answered (reply.Type 0x20000)))
    ≡ 12 ∷ 0 ∷ 0 ∷ 0 ∷ 2 ∷ 0 ∷ 0 ∷ 0 ∷ 0 ∷ 0 ∷ 0 ∷ 0 ∷ 0 ∷ 0 ∷ 2 ∷ 0 ∷ []
unfolding plain_calls.reply_encoding
type-frame = refl

-- a send of 28 bytes as it is kept, and its reply: mach_msg has its results in any case
pub send-frame : frame_encoding
    (call_encoding (asked (call.Send (19 ∷ 0 ∷ 0 ∷ 0 ∷ 0 ∷ 0 ∷ 0 ∷ 0 ∷ 0 ∷ 1 ∷ 0 ∷ 0 ∷ 0 ∷ 0 ∷ 0 ∷ 0 ∷ 0 ∷ 0 ∷ 0 ∷ 0 ∷ 7 ∷ 0 ∷
    0 ∷ 0 ∷ 68 ∷ 51 ∷ 34 ∷ 17 ∷ []))))
    ≡ 48 ∷ 0 ∷ 0 ∷ 0 ∷ 19 ∷ 0 ∷ 0 ∷ 0 ∷ 1 ∷ 0 ∷ 0 ∷ 0 ∷ 0 ∷ 0 ∷ 0 ∷ 0 ∷ 0 ∷ 0 ∷ 0 ∷ 0 ∷ 0 ∷ 0 ∷ 0 ∷ 0 ∷ 19 ∷ 0 ∷ 0 ∷ 0 ∷
    0 ∷ 0 ∷ 0 ∷ 0 ∷ 0 ∷ 1 ∷ 0 ∷ 0 ∷ 0 ∷ 0 ∷ 0 ∷ 0 ∷ 0 ∷ 0 ∷ 0 ∷ 0 ∷ 7 ∷ 0 ∷ 0 ∷ 0 ∷ 68 ∷ 51 ∷ 34 ∷ 17 ∷ []
unfolding plain_calls.call_encoding
send-frame = refl

pub sent-frame : frame_encoding (reply_encoding (answered (reply.Message Success 0 0 [])))
    ≡ 16 ∷ 0 ∷ 0 ∷ 0 ∷ 19 ∷ 0 ∷ 0 ∷ 0 ∷ 0 ∷ 0 ∷ 0 ∷ 0 ∷ 0 ∷ 0 ∷ 0 ∷ 0 ∷ 0 ∷ 0 ∷ 0 ∷ 0 ∷ []
unfolding plain_calls.reply_encoding
sent-frame = refl

-- a receive with limit 28, and the message that it brings
pub receive-frame : frame_encoding (call_encoding (asked (call.Receive 28 false 0x100 false)))
    ≡ 20 ∷ 0 ∷ 0 ∷ 0 ∷ 19 ∷ 0 ∷ 0 ∷ 0 ∷ 2 ∷ 0 ∷ 0 ∷ 0 ∷ 28 ∷ 0 ∷ 0 ∷ 0 ∷ 0 ∷ 1 ∷ 0 ∷ 0 ∷ 0 ∷ 0 ∷ 0 ∷ 0 ∷ []
unfolding plain_calls.call_encoding
receive-frame = refl

pub received-frame : frame_encoding
    (reply_encoding (answered (reply.Message Success 28 0x100
    (0 ∷ 17 ∷ 0 ∷ 0 ∷ 28 ∷ 0 ∷ 0 ∷ 0 ∷ 0 ∷ 0 ∷ 0 ∷ 0 ∷ 0 ∷ 1 ∷ 0 ∷ 0 ∷ 0 ∷ 0 ∷ 0 ∷ 0 ∷ 7 ∷ 0 ∷ 0 ∷ 0 ∷ 68 ∷ 51 ∷ 34
    ∷ 17 ∷ []))))
    ≡ 44 ∷ 0 ∷ 0 ∷ 0 ∷ 19 ∷ 0 ∷ 0 ∷ 0 ∷ 0 ∷ 0 ∷ 0 ∷ 0 ∷ 28 ∷ 0 ∷ 0 ∷ 0 ∷ 0 ∷ 1 ∷ 0 ∷ 0 ∷ 0 ∷ 17 ∷ 0 ∷ 0 ∷ 28 ∷ 0 ∷ 0 ∷ 0
    ∷ 0 ∷ 0 ∷ 0 ∷ 0 ∷ 0 ∷ 1 ∷ 0 ∷ 0 ∷ 0 ∷ 0 ∷ 0 ∷ 0 ∷ 7 ∷ 0 ∷ 0 ∷ 0 ∷ 68 ∷ 51 ∷ 34 ∷ 17 ∷ []
unfolding plain_calls.reply_encoding
received-frame = refl

-- a refusal has no results
pub refused-frame : frame_encoding (reply_encoding (answered (reply.Refused 5 InvalidValue)))
    ≡ 8 ∷ 0 ∷ 0 ∷ 0 ∷ 5 ∷ 0 ∷ 0 ∷ 0 ∷ 18 ∷ 0 ∷ 0 ∷ 0 ∷ []
unfolding plain_calls.reply_encoding
refused-frame = refl

-- no names
pub names-frame : frame_encoding (reply_encoding (answered (reply.Names [])))
    ≡ 12 ∷ 0 ∷ 0 ∷ 0 ∷ 1 ∷ 0 ∷ 0 ∷ 0 ∷ 0 ∷ 0 ∷ 0 ∷ 0 ∷ 0 ∷ 0 ∷ 0 ∷ 0 ∷ []
unfolding plain_calls.reply_encoding
names-frame = refl

-- the masks of a header's words, byte by byte
pub used_bits-bytes : used_bits
    ≡ 255 ∷ 255 ∷ 0 ∷ 128 ∷ 0 ∷ 0 ∷ 0 ∷ 0 ∷ 255 ∷ 255 ∷ 255 ∷ 255 ∷ 255 ∷ 255 ∷ 255 ∷ 255 ∷ 0 ∷ 0 ∷ 0 ∷ 0 ∷ []
used_bits-bytes = refl

-- A send of 28 bytes with bits, a size and a sequence number that a send ignores: its record has 0 in place of them.

abbrev raw_send : List ℕ
raw_send =
    19 ∷ 0 ∷ 255 ∷ 127 ∷ 9 ∷ 9 ∷ 9 ∷ 9 ∷ 0 ∷ 1 ∷ 0 ∷ 0 ∷ 0 ∷ 0 ∷ 0 ∷ 0 ∷ 9 ∷ 9 ∷ 9 ∷ 9 ∷ 7 ∷ 0 ∷ 0 ∷ 0 ∷ 68 ∷ 51 ∷ 34 ∷
    17 ∷ []

abbrev kept_send : List ℕ
kept_send =
    19 ∷ 0 ∷ 0 ∷ 0 ∷ 0 ∷ 0 ∷ 0 ∷ 0 ∷ 0 ∷ 1 ∷ 0 ∷ 0 ∷ 0 ∷ 0 ∷ 0 ∷ 0 ∷ 0 ∷ 0 ∷ 0 ∷ 0 ∷ 7 ∷ 0 ∷ 0 ∷ 0 ∷ 68 ∷ 51 ∷ 34 ∷ 17 ∷
    []

abbrev of_send : List ℕ → Reply → Record
of_send message answer = record { space = 1; call = asked (call.Send message); reply = answer }

-- bytes, one by one
abbrev Few : List ℕ → Type 0
Few [] = Unit {0}
Few (b ∷ bytes) = (b < 256) × Few bytes

few_bytes : (bytes : List ℕ) → Few bytes → AreBytes bytes
few_bytes [] few i = omega arith
few_bytes (b ∷ bytes) few zero = few.0
few_bytes (b ∷ bytes) few (suc i) = few_bytes bytes few.1 i

pub raw_send-kept : canonical_message raw_send ≡ kept_send
unfolding canonical_message
raw_send-kept = refl

-- they differ only in what a send ignores
pub raw_send-parts : used_parts raw_send ≡ used_parts kept_send
raw_send-parts = refl

pub raw_send-record : record_encoding 0 (of_send raw_send (answered (reply.Message Success 0 0 [])))
    ≡ record_encoding 0 (of_send kept_send (answered (reply.Message Success 0 0 [])))
unfolding record_encoding canonical_message
raw_send-record = refl

pub kept_send-is_record : IsRecord (of_send kept_send (answered (reply.Message Success 0 0 [])))
unfolding canonical_message plain_calls.call_encoding plain_calls.reply_encoding
kept_send-is_record = record {
  space = omega arith;
  call =
      record {
        fits = λ i. few_bytes kept_send (
          omega arith,
          (
            omega arith,
            (
              omega arith,
              (
                omega arith,
                (
                  omega arith,
                  (
                    omega arith,
                    (
                      omega arith,
                      (
                        omega arith,
                        (
                          omega arith,
                          (
                            omega arith,
                            (
                              omega arith,
                              (
                                omega arith,
                                (
                                  omega arith,
                                  (
                                    omega arith,
                                    (
                                      omega arith,
                                      (
                                        omega arith,
                                        (
                                          omega arith,
                                          (
                                            omega arith,
                                            (
                                              omega arith,
                                              (
                                                omega arith,
                                                (
                                                  omega arith,
                                                  (
                                                    omega arith,
                                                    (
                                                      omega arith,
                                                      (
                                                        omega arith,
                                                        (
                                                          omega arith,
                                                          (
                                                            omega arith,
                                                            (
                                                              omega arith,
                                                              (omega arith, tt),
                                                            ),
                                                          ),
                                                        ),
                                                      ),
                                                    ),
                                                  ),
                                                ),
                                              ),
                                            ),
                                          ),
                                        ),
                                      ),
                                    ),
                                  ),
                                ),
                              ),
                            ),
                          ),
                        ),
                      ),
                    ),
                  ),
                ),
              ),
            ),
          ),
        ) i;
        whole = omega arith;
        kept = refl;
      };
  reply =
      record {
        fits = (omega arith, omega arith, λ i. omega arith);
        of_one_call = refl;
        results = (refl, refl, refl);
        recorded = refl;
      };
  frames = (omega arith, omega arith);
}

-- What is no record: a send that isn't as it is kept, one of a size that no message has, results that no call of its
-- number has, and a receive of another size, above its limit or destroyed within it, of an odd size, or of no name.

pub raw_send-no_record : (answer : Reply) → IsRecord (of_send raw_send answer) → ⊥
unfolding canonical_message plain_calls.call_encoding
raw_send-no_record answer is =
    absurd (omega (arith, ap (λ (c : Call). slice_index (call_encoding c) 22) is.call.kept))

pub short_send-no_record : (answer : Reply) → IsRecord (of_send (19 ∷ 0 ∷ 0 ∷ 0 ∷ []) answer) → ⊥
short_send-no_record answer is = absurd (omega (arith, is.call.whole.0))

-- a header followed by one byte
pub odd_send-no_record : (answer : Reply) → IsRecord (of_send (replicate 25 0) answer) → ⊥
odd_send-no_record answer is = absurd (omega (arith, is.call.whole.2))

-- the size next above the greatest, and the greatest for which a frame has room
pub large_send-no_record : (message : List ℕ) (answer : Reply) → (length message ≡ 8196) ⊎ (length message ≡ 65512)
    → IsRecord (of_send message answer) → ⊥
large_send-no_record message answer (inl long) is = absurd (omega (arith, long, is.call.whole.1))
large_send-no_record message answer (inr long) is = absurd (omega (arith, long, is.call.whole.1))

pub answered_send-no_record : IsRecord (of_send kept_send (answered (reply.Message Success 28 0 []))) → ⊥
answered_send-no_record is = absurd (omega (arith, is.reply.results.0))

pub done_allocation-no_record : IsRecord (record { space = 1; call = asked (call.Allocate 1); reply = answered (reply.Done 5) }) → ⊥
done_allocation-no_record is = cc is.reply.results

pub shorter_receive-no_record : IsRecord
    (record { space = 1; call = asked (call.Receive 32 false 0x100 false); reply = answered (reply.Message Success 32 0x100 kept_send) })
    → ⊥
shorter_receive-no_record is = absurd (omega (arith, is.reply.results.3.1))

pub receive_above_limit-no_record : IsRecord
    (record { space = 1; call = asked (call.Receive 24 false 0x100 false); reply = answered (reply.Message Success 28 0x100 kept_send) })
    → ⊥
receive_above_limit-no_record is = absurd (omega (arith, is.reply.results.3.0))

pub nameless_receive-no_record : IsRecord
    (record { space = 1; call = asked (call.Receive 28 false 0x100 false); reply = answered (reply.Message Success 28 0 kept_send) }) → ⊥
nameless_receive-no_record is = absurd (omega (arith, is.reply.results.1))

pub odd_size-no_record : IsRecord
    (record { space = 1; call = asked (call.Receive 24 false 0x100 false); reply = answered (reply.Message RcvTooLarge 30 0x100 []) }) → ⊥
odd_size-no_record is = absurd (omega (arith, is.reply.results.0.2))

pub destroyed_within_limit-no_record : IsRecord
    (record { space = 1; call = asked (call.Receive 28 false 0x100 false); reply = answered (reply.Message RcvTooLarge 28 0x100 []) }) → ⊥
destroyed_within_limit-no_record is = absurd (omega (arith, is.reply.results.3.0))

pub destroyed_with_bytes-no_record : IsRecord
    (record {
      space = 1;
      call = asked (call.Receive 24 false 0x100 false);
      reply = answered (reply.Message RcvTooLarge 28 0x100 kept_send);
    }) → ⊥
destroyed_with_bytes-no_record is = absurd (omega (arith, ap length is.reply.results.3.1))
