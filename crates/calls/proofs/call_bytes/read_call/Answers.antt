use Rattle.std.proofs.Common.{length, ap, arith}
use Rattle.calls.proofs.RequestLaws.{long_call}
use Rattle.calls.proofs.call_bytes.read_call.Goals as goal

pub returns-in_default-clause-only : goal.returns-in_default-clause-only
returns-in_default-clause-only c = λ call kept is.
    absurd (omega (arith, ap length is, long_call call, c.in_default.ensures.none))
