use Rattle.std.proofs.Common.{ap, subst}
use Rattle.spaces.specs.Indexes.{IsNextAt, next_at}
use Rattle.spaces.specs.Slots.{SpaceMap, TrackedSpaces}
use Rattle.ipc_model.specs.state.Ipc.{request_of}
use Rattle.spaces.proofs.spaces.Spaces.next_requester.Goals as goal

pub returns : goal.returns
returns c =
    subst (λ (s : SpaceMap). IsNextAt request_of s c.args.port c.args.from c.next.result)
    (ap (λ (t : TrackedSpaces). t.current) c.self.view_is)
    (next_at request_of c.self.inside.table.current c.self.inside.indexes.requesters.current c.args.port c.args.from
    c.next.result c.self.invariant.1.requested c.next.ensures)
