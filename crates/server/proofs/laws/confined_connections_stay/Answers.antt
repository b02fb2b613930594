use Rattle.server.proofs.Staying.{confined_stay}
use Rattle.server.proofs.laws.confined_connections_stay.Goals as goal

pub returns : goal.returns
returns g c = confined_stay g.D.Disk.honest g.D.Disk.view
