use Rattle.ipc_laws.specs.DetachedLaws.{gone_is_refused}
use Rattle.ipc_laws.proofs.laws.gone_is_refused.Goals as goal

pub returns : goal.returns
returns c = gone_is_refused
