use Rattle.std.proofs.Common.{sym, ◌∙◌, ap, subst, arith}
use Rattle.live_ports.specs.Changed.{changed, with_message}
use Rattle.live_ports.specs.PortTable.{TrackedPorts}
use Rattle.live_ports.specs.Seen.{as_seen, AreLive}
use Rattle.live_ports.specs.SeenLaws.{seen_pushed}
use Rattle.live_ports.specs.Tables.{present_ports}
use Rattle.live_ports.proofs.Standing.{now_stands, now_view, pushed_sound}
use Rattle.live_ports.proofs.ports.LivePorts.push.Goals as goal

pub invariant_of-self : goal.invariant_of-self
invariant_of-self c =
    now_stands c.self.inside.tables c.push.new.self
    (changed (present_ports c.self.inside.tables.slots) c.args.serial (with_message c.args.message))
    c.self.inside.tables.count c.self.inside.tables.next c.self.invariant c.in-Ok.ensures.before
    c.in-Ok.ensures.ok (pushed_sound
    (present_ports c.self.inside.tables.slots) c.self.inside.tables.count c.self.inside.tables.next
    c.args.serial c.args.message (subst
    (λ (t : TrackedPorts). AreLive t.current.ports c.args.message)
    (sym c.self.view_is) c.requires) c.in-Ok.ensures.room c.self.invariant.current)
    (omega arith)

pub returns-in-Ok-clause-ok : goal.returns-in-Ok-clause-ok
returns-in-Ok-clause-ok c =
    now_view c.self.inside.tables c.push.new.self
    (changed (present_ports c.self.inside.tables.slots) c.args.serial (with_message c.args.message))
    (changed (as_seen (present_ports c.self.inside.tables.slots)) c.args.serial (with_message c.args.message))
    c.self.inside.tables.count c.self.inside.tables.next c.in-Ok.ensures.before c.in-Ok.ensures.ok
    (seen_pushed (present_ports c.self.inside.tables.slots) c.args.serial c.args.message
    (subst (λ (t : TrackedPorts). AreLive t.current.ports c.args.message)
    (sym c.self.view_is) c.requires)) ∙ ap
    (λ (t : TrackedPorts). record {
      before = t.before;
      current = record {
        ports = changed t.current.ports c.args.serial
            (with_message c.args.message);
        next = t.current.next;
      };
    }) c.self.view_is
