use Rattle.std.proofs.Common.{ℕ, None, sym, subst}
use Rattle.live_ports.specs.Recent.{AreRecent, IsLast, IsNoted}
use Rattle.live_ports.specs.Slabbed.{Keys}
use Rattle.live_ports.proofs.Recency.{removed_last, removed_recent}
use Rattle.live_ports.proofs.keys.SerialKeys.remove.Goals as goal

pub invariant_of-self : goal.invariant_of-self
invariant_of-self c =
    let inside = c.self.inside in
    let noting =
    subst (λ (place : ℕ). IsNoted None place inside.recent.items c.note.new.recent.items) c.place.ensures
    c.note.ensures in (
      subst (λ (keys : Keys). AreRecent c.note.new.recent.items keys) (sym c.remove.ensures.removed)
          (removed_recent inside.recent.items c.note.new.recent.items inside.keys c.args.serial c.self.invariant.0
          noting),
      subst (λ (keys : Keys). IsLast inside.last keys) (sym c.remove.ensures.removed)
          (removed_last inside.last c.args.serial inside.keys c.self.invariant.1),
    )
