use Rattle.std.proofs.Common.{ap}
use Rattle.ipc_state.specs.Members.{no_members}
use Rattle.spaces.specs.Slots.{TrackedSpaces}
use Rattle.spaces.specs.Passed.{Tracked}
use Rattle.ipc_state.proofs.state.IpcState.new.Goals as goal

pub invariant_of-result : goal.invariant_of-result
invariant_of-result c = (
  no_members c.new.result.before c.new-2.result.before.ports c.new-3.result.before
      (ap (λ (s : TrackedSpaces). s.before) c.new.ensures) (ap (λ (t : Tracked (Unit {0})). t.before) c.new-3.ensures),
  no_members c.new.result.current c.new-2.result.current.ports c.new-3.result.current
      (ap (λ (s : TrackedSpaces). s.current) c.new.ensures)
      (ap (λ (t : Tracked (Unit {0})). t.current) c.new-3.ensures),
)
