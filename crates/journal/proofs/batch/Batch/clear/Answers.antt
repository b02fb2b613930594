use Rattle.journal.proofs.Whole.{none_whole}
use Rattle.journal.proofs.batch.Batch.clear.Goals as goal

pub invariant_of-self : goal.invariant_of-self
invariant_of-self c = none_whole c.clear.new.self.items c.clear.ensures.items
