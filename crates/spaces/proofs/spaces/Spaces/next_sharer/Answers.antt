use Rattle.std.proofs.Common.{ap, subst}
use Rattle.spaces.specs.Indexes.{IsNextAt, next_at}
use Rattle.spaces.specs.Slots.{SpaceMap, TrackedSpaces}
use Rattle.spaces.specs.Looking.{port_shared}
use Rattle.spaces.proofs.spaces.Spaces.next_sharer.Goals as goal

pub returns : goal.returns
returns c =
    subst (λ (s : SpaceMap). IsNextAt port_shared s c.args.port c.args.from c.next.result)
    (ap (λ (t : TrackedSpaces). t.current) c.self.view_is)
    (next_at port_shared c.self.inside.table.current c.self.inside.indexes.sharers.current c.args.port c.args.from
    c.next.result c.self.invariant.1.held c.next.ensures)
