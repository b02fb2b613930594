use Rattle.std.proofs.Common.{subst}
use Rattle.spaces.specs.NextSpace.{IsNextSpace}
use Rattle.spaces.specs.Slots.{TrackedSpaces}
use Rattle.spaces.proofs.table.SpaceTable.next_space.Goals as goal

pub returns : goal.returns
returns c =
    subst (λ (t : TrackedSpaces). IsNextSpace t.current c.args.from c.next_there.result) c.self.view_is
    c.next_there.ensures
