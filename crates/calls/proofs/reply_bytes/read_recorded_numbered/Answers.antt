use Rattle.ipc_model.specs.encodings.PlainCalls.{reply_encoding}
use Rattle.calls.proofs.reply_bytes.read_recorded_numbered.Goals as goal

pub returns-in_default-clause-only : goal.returns-in_default-clause-only
returns-in_default-clause-only c = λ answer is same.
    absurd (c.in_default.ensures.only answer.request (reply_encoding answer.reply) is.fits.0 same)
