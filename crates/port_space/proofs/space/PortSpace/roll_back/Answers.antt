use Rattle.port_space.proofs.Standing.{rolled_back_stand}
use Rattle.port_space.proofs.space.PortSpace.roll_back.Goals as goal

pub invariant_of-self : goal.invariant_of-self
invariant_of-self c =
    let stand = rolled_back_stand c.self.inside.tables c.roll_back.new.self c.self.invariant.0 c.roll_back.ensures in
    (stand.before, stand.current)
