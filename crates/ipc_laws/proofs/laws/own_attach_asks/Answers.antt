use Rattle.ipc_laws.specs.DetachedLaws.{own_attach_asks}
use Rattle.ipc_laws.proofs.laws.own_attach_asks.Goals as goal

pub returns : goal.returns
returns c = own_attach_asks
