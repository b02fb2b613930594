use Rattle.std.proofs.Common.{◌≡◌, length}
use Rattle.ports.specs.Counting.{carriers_more, rights_more}
use Rattle.ports.proofs.rights.add_body.Given as goal

abbrev pub invariant-loop-carried : goal.invariant-loop-carried
invariant-loop-carried l = record {
  counts : rights_more l.counts.current l.rest ≡ rights_more l.fn.counts.current l.rights;
  carriers : carriers_more l.carriers.current l.queue l.rest ≡ carriers_more l.fn.carriers.current l.queue l.rights;
  before : l.counts.before ≡ l.fn.counts.before;
  carriers_before : l.carriers.before ≡ l.fn.carriers.before;
}

abbrev pub decreases-loop-carried : goal.decreases-loop-carried
decreases-loop-carried l = length l.rest
