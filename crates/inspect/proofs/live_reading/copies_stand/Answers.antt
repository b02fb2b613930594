use Rattle.inspect.proofs.live_reading.Standing.{stands}
use Rattle.inspect.proofs.live_reading.copies_stand.Goals as goal

pub returns : goal.returns
returns c = stands
