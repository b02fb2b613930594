use Rattle.recover.proofs.Gates.{append_keeps_gate}
use Rattle.recover.proofs.laws.append_keeps_gate.Goals as goal

pub returns : goal.returns
returns c = append_keeps_gate
