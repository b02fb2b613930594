use Rattle.port_indexes.specs.Counts.{none_positive}
use Rattle.port_indexes.proofs.counts.PairCounts.new.Goals as goal

pub invariant_of-result : goal.invariant_of-result
invariant_of-result c =
    (none_positive c.new.result.before (cc c.new.ensures), none_positive c.new.result.current (cc c.new.ensures))
