-- A worked example of a segment in bytes, in both versions.
use Rattle.std.specs.Prelude.{◌≡◌, ℕ, List, [], ◌∷◌, ◌++◌, length, refl}
use Rattle.codes.specs.StoreVersion.{version_number}
use Rattle.codes.specs.declared.store_version.StoreVersion.{StoreVersion}
use Rattle.codes.specs.declared.store_version.StoreVersion.TheVariants.{One, Two}
use Rattle.ipc_model.specs.declared.plain_call.PlainCall.TheVariants as call
use Rattle.ipc_model.specs.declared.plain_reply.PlainReply.TheVariants as reply
use Rattle.ipc_model.specs.declared.record.Record.{Record}
use Rattle.ipc_model.specs.store.Store.{open_gate, closed_gate, segment_header, segment_header_of, batch_encoding, batches_encoding}
use Rattle.ipc_model.specs.encodings.Encodings.{record_encoding}
use Rattle.ipc_rows.specs.RowStates.{answered, asked}
use Rattle.ipc_model.specs.encodings.PlainCalls as plain_calls

-- space 1 allocated a receive right, and got the name 0x100
abbrev pub first_allocation : Record
first_allocation = record { space = 1; call = asked (call.Allocate 1); reply = answered (reply.Allocate 0x100) }

-- A segment of epoch 0 with one batch of this record, and a closed gate after it, in 70 bytes. Its byte 1 is the
-- version's number; else both versions have the same bytes.
abbrev pub first_segment_of : StoreVersion → List ℕ
first_segment_of version =
    0x5a ∷ version_number version ∷ 0 ∷ 0 ∷ 0 ∷ 0 ∷ 0 ∷ 0 ∷ 0 ∷ 0 ∷ 0 ∷ 0 ∷ 0 ∷ 0 ∷ 0 ∷ 0
    ∷ 0x5a ∷ 1 ∷ 0 ∷ 0 ∷ 0 ∷ 0x28 ∷ 0 ∷ 0 ∷ 0 ∷ 0 ∷ 0 ∷ 0 ∷ 0
    ∷ 0 ∷ 0 ∷ 0 ∷ 0 ∷ 0 ∷ 0 ∷ 0 ∷ 0 ∷ 1 ∷ 0 ∷ 0 ∷ 0
    ∷ 8 ∷ 0 ∷ 0 ∷ 0 ∷ 5 ∷ 0 ∷ 0 ∷ 0 ∷ 1 ∷ 0 ∷ 0 ∷ 0
    ∷ 0x0c ∷ 0 ∷ 0 ∷ 0 ∷ 5 ∷ 0 ∷ 0 ∷ 0 ∷ 0 ∷ 0 ∷ 0 ∷ 0 ∷ 0 ∷ 1 ∷ 0 ∷ 0
    ∷ 0 ∷ []

-- and as it is written
abbrev pub first_segment : List ℕ
first_segment = first_segment_of Two

pub segment_of-bytes : (version : StoreVersion) → segment_header_of version open_gate 0
    ++ (batches_encoding 0 ((first_allocation ∷ []) ∷ []) ++ closed_gate ∷ []) ≡ first_segment_of version
unfolding batch_encoding record_encoding plain_calls.call_encoding plain_calls.reply_encoding
segment_of-bytes version = refl

pub segment-bytes : segment_header open_gate 0
    ++ (batches_encoding 0 ((first_allocation ∷ []) ∷ []) ++ closed_gate ∷ []) ≡ first_segment
segment-bytes = segment_of-bytes Two

pub segment-of_version_one : segment_header_of One open_gate 0
    ++ (batches_encoding 0 ((first_allocation ∷ []) ∷ []) ++ closed_gate ∷ []) ≡ first_segment_of One
segment-of_version_one = segment_of-bytes One

pub segment-length : (version : StoreVersion) → length (first_segment_of version) ≡ 70
segment-length version = refl
