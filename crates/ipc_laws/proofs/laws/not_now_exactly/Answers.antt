use Rattle.ipc_laws.specs.WorldLaws.{not_now_exactly}
use Rattle.ipc_laws.proofs.laws.not_now_exactly.Goals as goal

pub returns : goal.returns
returns c = not_now_exactly
