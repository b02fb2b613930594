use Rattle.std.proofs.Common.{◌≡◌, ◌≤◌, length, take, vec_len, vec_capacity}
use Rattle.ipc_model.specs.state.State.{State}
use Rattle.ipc_model.specs.world.World.{World}
use Rattle.system.specs.Core.{RunsThrough, StandsFor}
use Rattle.system.specs.Counting.{counted_events}
use Rattle.system.proofs.system.System.run.Given as goal

-- the events so far were run, there is room for what the others answer, and the device counted the failures that they
-- report
abbrev pub invariant-loop-event : goal.invariant-loop-event
invariant-loop-event g l =
    ((base : State) (world : World) → StandsFor g.D.Disk.honest g.D.Disk.view base world l.initial.self
    → RunsThrough g.D.Disk.honest g.D.Disk.view base world
    (take l.event-index l.events) l.outcomes.items l.initial.self l.self)
    × (vec_len l.outcomes ≡ l.event-index) × (length l.events ≤ vec_capacity l.outcomes)
    × (g.D.Disk.failed_calls l.self.store.disk
    ≡ counted_events l.outcomes.items (g.D.Disk.failed_calls l.initial.self.store.disk))
