use Rattle.port_space.proofs.Standing.{new_stand}
use Rattle.port_space.proofs.space.PortSpace.new.Goals as goal

pub invariant_of-result : goal.invariant_of-result
invariant_of-result c = let stand = new_stand c.new.result c.new.ensures in (stand.before, stand.current)
