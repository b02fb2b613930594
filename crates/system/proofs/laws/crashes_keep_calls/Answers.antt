use Rattle.system.proofs.Crashes.{calls_kept, least_kept}
use Rattle.system.proofs.laws.crashes_keep_calls.Goals as goal

pub returns-clause-calls : goal.returns-clause-calls
returns-clause-calls g c =
    λ honest base world k. calls_kept g.D.Disk.view (g.met.D.Disk.lasts honest) base world k

pub returns-clause-least : goal.returns-clause-least
returns-clause-least g c =
    λ honest base least world. least_kept g.D.Disk.view (g.met.D.Disk.lasts honest) base world least
