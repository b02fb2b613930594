use Rattle.std.proofs.Common.{arith, sym, ◌∙◌}
use Rattle.ipc_laws.specs.RecordEncodings.{kept_apart}
use Rattle.ipc_model.specs.encodings.Encodings.{call_encoding, reply_encoding}
use Rattle.record.proofs.read.take_record.Goals as goal

pub returns-in_default-clause-only : goal.returns-in_default-clause-only
returns-in_default-clause-only c = λ number entry rest fits is_record is.
    absurd (c.in_default.ensures.only number entry.space (call_encoding entry.call)
    (reply_encoding entry.reply) rest fits is_record.space (omega (arith, is_record.frames.0))
    (omega (arith, is_record.frames.1)) (is ∙ kept_apart number entry rest is_record.call.kept))

pub returns-in_default-2-clause-only : goal.returns-in_default-2-clause-only
returns-in_default-2-clause-only c = λ number entry rest fits is_record is.
    let parts =
    c.in-Some.ensures.only number entry.space (call_encoding entry.call)
    (reply_encoding entry.reply) rest fits is_record.space (omega (arith, is_record.frames.0))
    (omega (arith, is_record.frames.1)) (is ∙ kept_apart number entry rest is_record.call.kept) in
    let same = c.in_ok-record.ensures.only entry is_record (sym parts.1) parts.2 parts.3 in
    absurd (cc (same, c.in_default-2.is))

pub returns-clause-only : goal.returns-clause-only
returns-clause-only c = λ number entry rest fits is_record is.
    let parts =
    c.in-Some.ensures.only number entry.space (call_encoding entry.call)
    (reply_encoding entry.reply) rest fits is_record.space (omega (arith, is_record.frames.0))
    (omega (arith, is_record.frames.1)) (is ∙ kept_apart number entry rest is_record.call.kept) in
    let same = c.in_ok-record.ensures.only entry is_record (sym parts.1) parts.2 parts.3 in
    (parts.0, cc (same, c.in-Some-2.is), parts.4)
