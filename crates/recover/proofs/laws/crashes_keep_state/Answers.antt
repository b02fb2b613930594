use Rattle.recover.proofs.Crashes.{crashes_keep_state}
use Rattle.recover.proofs.laws.crashes_keep_state.Goals as goal

pub returns : goal.returns
returns g c = λ honest. crashes_keep_state g.D.Disk.view (g.met.D.Disk.lasts honest)
