use Rattle.std.proofs.Common.{subst, sym}
use Rattle.ipc_model.specs.world.World.{acknowledged}
use Rattle.system.specs.Core.{StandsFor, StandsFrom, SystemValue}
use Rattle.system.proofs.Simulation.{left_acknowledged}
use Rattle.system.proofs.system.System.into_disk.Goals as goal

pub returns-clause-reopens : goal.returns-clause-reopens
returns-clause-reopens g c = λ honest base world stands.
    let system : SystemValue g.row.D.Denot = record {
      core = c.self.inside.core;
      store = c.self.inside.store;
      out = c.self.inside.out;
      receipt = c.self.inside.receipt;
      finished = c.self.inside.finished;
      finished_first = c.self.inside.finished_first;
      tickets = c.self.inside.tickets;
    } in
    subst (λ (d : g.row.D.Denot). StandsFrom base (acknowledged world) world (g.D.Disk.view d).seen)
    (sym c.into_disk.ensures)
    (left_acknowledged g.D.Disk.honest g.D.Disk.view base world system
    (subst (λ (v : SystemValue g.row.D.Denot). StandsFor g.D.Disk.honest g.D.Disk.view base world v)
    (sym c.self.view_is) stands) honest (g.D.Disk.view system.store.disk).seen
    (g.met.D.Disk.lasts honest system.store.disk))
