use Rattle.std.proofs.Common.{refl}
use Rattle.live_ports.specs.Tables.{before_of, current_of}
use Rattle.live_ports.proofs.Slotted.{nothing_marked, nothing_there}
use Rattle.live_ports.proofs.tables.Tables.new.Goals as goal

pub returns : goal.returns
returns c = record {
  before = nothing_there before_of c.new.result c.new.ensures;
  current = nothing_there current_of c.new.result c.new.ensures;
  touched = nothing_marked c.new.result c.new-2.result.items c.new.ensures;
  count = refl;
  next = refl;
  count_before = refl;
  next_before = refl;
}
