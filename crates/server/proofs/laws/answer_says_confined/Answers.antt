use Rattle.server.proofs.Staying.{says_confined}
use Rattle.server.proofs.laws.answer_says_confined.Goals as goal

pub returns : goal.returns
returns g c = says_confined g.D.Disk.honest g.D.Disk.view
