use Rattle.server.proofs.Crashing.{stored_whole}
use Rattle.server.proofs.laws.answered_is_stored.Goals as goal

pub returns : goal.returns
returns g c = stored_whole g.D.Disk.honest g.D.Disk.view
