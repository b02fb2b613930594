use Rattle.std.proofs.Common.{◌≡◌, ◌<◌, None, arith, subst, sym}
use Rattle.std.specs.FinMap as map
use Rattle.codes.specs.declared.limits.TheConstants.{MAX_NAMES}
use Rattle.ipc_model.specs.declared.entry.Entry.{Entry}
use Rattle.tracked_map.specs.Tracked.{Tracked}
use Rattle.port_space.proofs.Standing.{put_stands, same_stands, small_bounded}
use Rattle.port_space.proofs.space.PortSpace.put.Goals as goal

pub put-requires : goal.put-requires
put-requires c =
    record {
      small = small_bounded c.self.inside.tables.names.current c.self.invariant.1.bounded;
      free = c.self.invariant.1.free;
    }

pub invariant_of-self : goal.invariant_of-self
invariant_of-self c =
    let room =
    subst (λ (t : Tracked Entry). map.get t.current c.args.name ≡ None → map.len t.current < MAX_NAMES)
    (sym c.self.view_is) c.requires.room in (
      same_stands c.self.inside.tables c.put.new.self c.in-Ok.ensures.before c.self.invariant.0,
      put_stands c.self.inside.tables c.put.new.self c.args.name c.args.entry
          (omega arith) c.requires.few room c.self.invariant.1 c.in-Ok.ensures.ok,
    )
