use Rattle.std.proofs.Common.{◌≡◌, length, map}
use Rattle.live_ports.specs.Seen.{lives_in, seen_right}
use Rattle.ports.specs.Counting.{carriers_fewer, rights_fewer}
use Rattle.ports.proofs.burials.subtract_body.Given as goal

abbrev pub invariant-loop-carried : goal.invariant-loop-carried
invariant-loop-carried l = record {
  counts : rights_fewer l.counts.current (map (seen_right (lives_in l.ports.current.ports)) l.rest)
      ≡ rights_fewer l.fn.counts.current (map (seen_right (lives_in l.ports.current.ports)) l.rights);
  carriers : carriers_fewer l.carriers.current l.queue (map (seen_right (lives_in l.ports.current.ports)) l.rest)
      ≡ carriers_fewer l.fn.carriers.current l.queue (map (seen_right (lives_in l.ports.current.ports)) l.rights);
  before : l.counts.before ≡ l.fn.counts.before;
  carriers_before : l.carriers.before ≡ l.fn.carriers.before;
}

abbrev pub decreases-loop-carried : goal.decreases-loop-carried
decreases-loop-carried l = length l.rest
