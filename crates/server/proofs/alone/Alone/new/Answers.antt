use Rattle.std.proofs.Common.{refl, sym, subst}
use Rattle.system.specs.Passed.{Keeps}
use Rattle.server.proofs.Keeping.{kept_held}
use Rattle.server.proofs.alone.Alone.new.Goals as goal

pub returns-clause-held : goal.returns-clause-held
returns-clause-held g c = λ honest.
    let system = c.new.result in
    let stored = c.new.ensures.stands.kept honest refl in
    kept_held g.D.Disk.view system.store system.core.kernel (
      stored.mid,
      subst (Keeps (g.D.Disk.view system.store.disk) system.store.segment system.store.checkpoint
          stored.mid) (sym stored.after) stored.kept,
    )
