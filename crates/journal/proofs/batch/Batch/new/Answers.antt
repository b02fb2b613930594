use Rattle.journal.proofs.Whole.{none_whole}
use Rattle.journal.proofs.batch.Batch.new.Goals as goal

pub invariant_of-result : goal.invariant_of-result
invariant_of-result c = none_whole c.new.result.items c.new.ensures.items
