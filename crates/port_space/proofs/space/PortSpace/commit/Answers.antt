use Rattle.port_space.proofs.Standing.{committed_stand}
use Rattle.port_space.proofs.space.PortSpace.commit.Goals as goal

pub invariant_of-self : goal.invariant_of-self
invariant_of-self c =
    let stand = committed_stand c.self.inside.tables c.commit.new.self c.self.invariant.1 c.commit.ensures in
    (stand.before, stand.current)
