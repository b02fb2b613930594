use Rattle.std.proofs.Common.{rules}
use Rattle.store_half.proofs.store_half.StoreHalf.roll_open.Goals as goal

pub returns-in_default-roll_open-clause-faults : goal.returns-in_default-roll_open-clause-faults
returns-in_default-roll_open-clause-faults g c = search rules

pub returns-clause-done : goal.returns-clause-done
returns-clause-done g c = search rules

pub invariant_of-self-2 : goal.invariant_of-self-2
invariant_of-self-2 g c = search rules
