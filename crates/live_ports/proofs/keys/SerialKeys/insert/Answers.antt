use Rattle.std.proofs.Common.{ℕ, sym, subst, arith}
use Rattle.live_ports.specs.Recent.{AreRecent, IsLast, IsNoted}
use Rattle.live_ports.specs.Slabbed.{Keys}
use Rattle.live_ports.proofs.Recency.{inserted_last, inserted_recent}
use Rattle.live_ports.proofs.keys.SerialKeys.insert.Goals as goal

pub invariant_of-self-2 : goal.invariant_of-self-2
invariant_of-self-2 c =
    let inside = c.self.inside in
    let noting =
    subst (λ (place : ℕ). IsNoted c.noted.result place c.make_places.new.recent.items c.note.new.recent.items)
    c.place.ensures c.note.ensures in (
      subst (λ (keys : Keys). AreRecent c.note.new.recent.items keys) (sym c.in_ok-insert.ensures.ok)
          (inserted_recent inside.recent.items c.make_places.new.recent.items c.note.new.recent.items inside.keys
          c.args.serial c.args.key c.noted.result c.self.invariant.0 c.make_places.ensures noting c.noted.ensures),
      subst (λ (keys : Keys). IsLast c.max-self-inside.result keys) (sym c.in_ok-insert.ensures.ok)
          (inserted_last inside.last c.max-self-inside.result c.args.serial c.args.key inside.keys
          (omega (arith, c.max-self-inside.ensures)) (omega (arith, c.max-self-inside.ensures)) c.self.invariant.1),
    )
