use Rattle.server.proofs.Crashing.{stored_frame}
use Rattle.server.proofs.laws.frame_is_stored.Goals as goal

pub returns : goal.returns
returns g c = stored_frame g.D.Disk.honest g.D.Disk.view
