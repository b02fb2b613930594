use Rattle.std.proofs.Common.{sym, subst}
use Rattle.server.specs.Keeping.{IsHeld}
use Rattle.server.proofs.Keeping.{kept_held}
use Rattle.server.proofs.alone.Alone.into_disk.Goals as goal

pub returns-clause-held : goal.returns-clause-held
returns-clause-held g c =
    rw (← c.self.view_is) (λ honest unfailed.
    let system = c.self.inside.system in
    subst (λ d. IsHeld (g.D.Disk.view d) system.core.kernel) (sym c.into_disk.ensures.disk)
    (kept_held g.D.Disk.view system.store system.core.kernel ((c.self.invariant unfailed).1 honest)))
