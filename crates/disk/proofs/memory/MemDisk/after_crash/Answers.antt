use Rattle.std.proofs.Common.{sym, subst}
use Rattle.std.specs.Prelude.{Result, Ok, Err, IfOk}
use Rattle.disk.specs.Moments.{MayLeave}
use Rattle.disk.specs.Memory.{memory_view}
use Rattle.disk.proofs.memory.MemDisk.after_crash.Goals as goal

if_ok : {T E : Type 0} (r : Result T E) (P Q : T → Type 0) → IfOk r P → ((v : T) → P v → Q v) → IfOk r Q
if_ok (Ok v) P Q p f = f v p
if_ok (Err e) P Q p f = p

pub returns-clause-left : goal.returns-clause-left
returns-clause-left c =
    if_ok c.holding.result _ _ c.holding.ensures
    (λ disk rest. subst (MayLeave (memory_view c.args.self)) (sym rest.seen) c.in_ok-left.ensures)
