-- At an exit with a fault, clauses about `Ok` hold trivially.
use Rattle.std.proofs.Common.{Result, Ok, Err, OnOk}
use Rattle.std.specs.Prelude.{IsErrAnd}

pub none_at_fault : {T E : Type 0} (P : Type 0) (Q : E → Type 0) (r : Result T E) → IsErrAnd r Q → OnOk r P
none_at_fault P Q (Ok v) is = absurd is
none_at_fault P Q (Err f) is = tt
