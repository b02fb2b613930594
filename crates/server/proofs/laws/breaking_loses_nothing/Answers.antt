use Rattle.server.proofs.Crashing.{broken_nothing}
use Rattle.server.proofs.laws.breaking_loses_nothing.Goals as goal

pub returns : goal.returns
returns g c = broken_nothing g.D.Disk.honest g.D.Disk.view
