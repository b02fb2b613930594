use Rattle.std.proofs.Common.{rules}
use Rattle.kernel.proofs.messages.send.Goals as goal

pub returns-in-Err-Refused-clause-acts : goal.returns-in-Err-Refused-clause-acts
returns-in-Err-Refused-clause-acts c = search rules
