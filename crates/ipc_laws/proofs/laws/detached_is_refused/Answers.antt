use Rattle.ipc_laws.specs.DetachedLaws.{detached_is_refused}
use Rattle.ipc_laws.proofs.laws.detached_is_refused.Goals as goal

pub returns : goal.returns
returns c = detached_is_refused
