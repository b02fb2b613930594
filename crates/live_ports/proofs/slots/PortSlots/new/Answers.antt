use Rattle.live_ports.proofs.Slabbed.{nothing_keyed, nothing_stands}
use Rattle.live_ports.proofs.slots.PortSlots.new.Goals as goal

pub invariant_of-result : goal.invariant_of-result
invariant_of-result c = nothing_keyed c.new.result c.new-2.result c.new.ensures.empty c.new-2.ensures

pub returns : goal.returns
returns c = nothing_stands c.new.result c.new-2.result c.new-2.ensures
