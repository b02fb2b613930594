use Rattle.std.proofs.Common.{arith}
use Rattle.port_space.proofs.Standing.{removed_stands, same_stands}
use Rattle.port_space.proofs.space.PortSpace.remove.Goals as goal

pub invariant_of-self : goal.invariant_of-self
invariant_of-self c = (
  same_stands c.self.inside.tables c.remove.new.self c.in-Ok.ensures.before c.self.invariant.0,
  removed_stands c.self.inside.tables c.remove.new.self c.args.name
      (omega arith) c.self.invariant.1 c.in-Ok.ensures.ok,
)
