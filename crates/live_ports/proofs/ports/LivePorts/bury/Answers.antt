use Rattle.std.proofs.Common.{◌≡◌, sym, subst, ◌-◌, ◌∙◌, ap, arith}
use Rattle.std.specs.FinMap as map
use Rattle.ipc_model.specs.effects.Effects.{map_values}
use Rattle.live_ports.specs.PortTable.{TrackedPorts}
use Rattle.live_ports.specs.Seen.{Ports, as_seen, queue_after_death}
use Rattle.live_ports.specs.SeenLaws.{lives_seen, seen_dead, seen_removed}
use Rattle.live_ports.specs.Tables.{former_ports, present_ports}
use Rattle.live_ports.proofs.Standing.{now_stands, now_view, removed_sound, some_count}
use Rattle.live_ports.proofs.ports.LivePorts.bury.Goals as goal

pub bury-requires-clause-some : goal.bury-requires-clause-some
bury-requires-clause-some c =
    some_count (present_ports c.self.inside.tables.slots) c.self.inside.tables.count c.self.inside.tables.next
    c.args.serial c.self.invariant.current
    (lives_seen (present_ports c.self.inside.tables.slots) c.args.serial ∙ sym c.contains.ensures
    ∙ c.if-not-contains.false)

pub invariant_of-self : goal.invariant_of-self
invariant_of-self c =
    now_stands c.self.inside.tables c.bury.new.self
    (map.remove (present_ports c.self.inside.tables.slots) c.args.serial)
    (c.self.inside.tables.count - 1) c.self.inside.tables.next c.self.invariant c.in-Ok.ensures.before
    c.in-Ok.ensures.ok (removed_sound
    (present_ports c.self.inside.tables.slots) c.self.inside.tables.count c.self.inside.tables.next
    c.args.serial (lives_seen (present_ports c.self.inside.tables.slots) c.args.serial
    ∙ sym c.contains.ensures ∙ c.if-not-contains.false) c.self.invariant.current) (omega arith)

pub returns-in-Ok-clause-ok : goal.returns-in-Ok-clause-ok
returns-in-Ok-clause-ok c =
    now_view c.self.inside.tables c.bury.new.self (map.remove (present_ports c.self.inside.tables.slots) c.args.serial)
    (map_values (queue_after_death c.args.serial)
    (map.remove (as_seen (present_ports c.self.inside.tables.slots)) c.args.serial))
    (c.self.inside.tables.count - 1) c.self.inside.tables.next c.in-Ok.ensures.before c.in-Ok.ensures.ok
    (seen_removed (present_ports c.self.inside.tables.slots) c.args.serial) ∙ ap
    (λ (t : TrackedPorts). record {
      before = t.before;
      current = record {
        ports = map_values (queue_after_death c.args.serial)
            (map.remove t.current.ports c.args.serial);
        next = t.current.next;
      };
    }) c.self.view_is

pub returns-then-not-contains-clause-ok : goal.returns-then-not-contains-clause-ok
returns-then-not-contains-clause-ok c =
    let tables = c.self.inside.tables in
    let raw = present_ports tables.slots in
    subst (λ (t : TrackedPorts). t
    ≡ record {
      before = t.before;
      current = record {
        ports = map_values (queue_after_death c.args.serial)
            (map.remove t.current.ports c.args.serial);
        next = t.current.next;
      };
    }) c.self.view_is
    (ap (λ (m : Ports). record {
      before = record {
        ports = as_seen (former_ports tables.slots);
        next = tables.next_before;
      };
      current = record { ports = m; next = tables.next };
    })
    (seen_dead raw c.args.serial (sym c.contains.ensures ∙ c.if-not-contains.true)))
