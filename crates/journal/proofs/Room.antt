-- A record is added if there is room for the longest one.
use Rattle.std.proofs.Common.{◌≡◌, ℕ, ◌+◌, ◌<◌, ◌≤◌, List, ◌++◌, length, Result, Ok, Err, OnOk, OnErr, arith}
use Rattle.codes.specs.declared.limits.TheConstants.{MAX_FRAME_CONTENT}
use Rattle.ipc_laws.specs.BatchLaws.{length-record_encoding}
use Rattle.ipc_model.specs.declared.call.Call.{Call}
use Rattle.ipc_model.specs.declared.record.Record.{Record}
use Rattle.ipc_model.specs.declared.reply.Reply.{Reply}
use Rattle.ipc_model.specs.encodings.Encodings.{call_encoding, reply_encoding, record_encoding}
use Rattle.journal.specs.declared.batch.TheConstants.{MOST_OF_RECORD}

abbrev pub entry_of : ℕ → Call → Reply → Record
entry_of space c answer = record { space = space; call = c; reply = answer }

pub longest : (number : ℕ) (entry : Record) → length (call_encoding entry.call) ≤ MAX_FRAME_CONTENT
    → length (reply_encoding entry.reply) ≤ MAX_FRAME_CONTENT → length (record_encoding number entry) ≤ MOST_OF_RECORD
longest number entry short short_too = omega (arith, length-record_encoding number entry, short, short_too)

-- an operation that fails only without room doesn't fail
with_room : {T E P : Type 0} (result : Result T E) (room more : ℕ) → more ≤ room → OnErr result (room < more)
    → OnOk result P → P
with_room (Ok x) room more fits full ok = ok
with_room (Err e) room more fits full ok = absurd (omega (arith, full, fits))

pub added : {T E : Type 0} (result : Result T E) (number : ℕ) (entry : Record) (front new : List ℕ) (long room : ℕ)
    → length (call_encoding entry.call) ≤ MAX_FRAME_CONTENT → length (reply_encoding entry.reply) ≤ MAX_FRAME_CONTENT
    → long + MOST_OF_RECORD ≤ room → OnErr result (room < long + length (record_encoding number entry))
    → OnOk result (new ≡ front ++ record_encoding number entry) → new ≡ front ++ record_encoding number entry
added result number entry front new long room short short_too fits full ok =
    with_room result room (long + length (record_encoding number entry))
    (omega (arith, longest number entry short short_too, fits)) full ok
