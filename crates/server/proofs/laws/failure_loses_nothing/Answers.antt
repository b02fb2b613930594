use Rattle.server.proofs.Crashing.{lost_nothing}
use Rattle.server.proofs.laws.failure_loses_nothing.Goals as goal

pub returns : goal.returns
returns g c = lost_nothing g.D.Disk.honest g.D.Disk.view
