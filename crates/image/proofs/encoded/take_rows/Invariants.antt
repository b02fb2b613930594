use Rattle.image.specs.Taking.{TakenSoFar}
use Rattle.image.proofs.encoded.take_rows.Given as goal

abbrev pub invariant-loop : goal.invariant-loop
invariant-loop g l =
    TakenSoFar (g.T.Encoded.encoding l.fn.version) g.T.Encoded.fits l.fn.bytes l.fn.count l.rows.items l.rest l.counter
