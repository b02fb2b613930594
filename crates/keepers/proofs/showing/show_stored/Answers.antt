use Rattle.std.proofs.Common.{arith}
use Rattle.keepers.proofs.showing.show_stored.Goals as goal

pub returns-clause-left : goal.returns-clause-left
returns-clause-left g c = λ honest slots may.
    let left = c.covers.ensures.left honest slots may in
    (left.0, omega (arith, left.1, c.stored-known.ensures.stored), left.2, left.3)
