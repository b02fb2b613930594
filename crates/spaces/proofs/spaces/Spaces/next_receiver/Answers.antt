use Rattle.std.proofs.Common.{ap, subst}
use Rattle.spaces.specs.Indexes.{IsNextAt, next_at}
use Rattle.spaces.specs.Slots.{SpaceMap, TrackedSpaces}
use Rattle.ipc_model.specs.state.Ipc.{received_port}
use Rattle.spaces.proofs.spaces.Spaces.next_receiver.Goals as goal

pub returns : goal.returns
returns c =
    subst (λ (s : SpaceMap). IsNextAt received_port s c.args.port c.args.from c.next.result)
    (ap (λ (t : TrackedSpaces). t.current) c.self.view_is)
    (next_at received_port c.self.inside.table.current c.self.inside.indexes.receivers.current c.args.port c.args.from
    c.next.result c.self.invariant.1.received c.next.ensures)
