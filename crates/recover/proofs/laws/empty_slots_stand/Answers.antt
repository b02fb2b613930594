use Rattle.recover.proofs.Crashes.{empty_stand}
use Rattle.recover.proofs.laws.empty_slots_stand.Goals as goal

pub returns : goal.returns
returns c = empty_stand
