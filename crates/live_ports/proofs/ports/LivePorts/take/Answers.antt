use Rattle.std.proofs.Common.{◌∙◌, ap, arith}
use Rattle.live_ports.specs.Changed.{changed, without_first}
use Rattle.live_ports.specs.PortTable.{TrackedPorts}
use Rattle.live_ports.specs.Seen.{as_seen}
use Rattle.live_ports.specs.SeenLaws.{seen_taken}
use Rattle.live_ports.specs.Tables.{present_ports}
use Rattle.live_ports.proofs.Standing.{now_stands, now_view, taken_sound}
use Rattle.live_ports.proofs.ports.LivePorts.take.Goals as goal

pub invariant_of-self : goal.invariant_of-self
invariant_of-self c =
    now_stands c.self.inside.tables c.take.new.self
    (changed (present_ports c.self.inside.tables.slots) c.args.serial without_first) c.self.inside.tables.count
    c.self.inside.tables.next c.self.invariant c.in-Ok.ensures.before c.in-Ok.ensures.ok
    (taken_sound (present_ports c.self.inside.tables.slots) c.self.inside.tables.count
    c.self.inside.tables.next c.args.serial c.self.invariant.current) (omega arith)

pub returns-in-Ok-clause-ok : goal.returns-in-Ok-clause-ok
returns-in-Ok-clause-ok c =
    now_view c.self.inside.tables c.take.new.self
    (changed (present_ports c.self.inside.tables.slots) c.args.serial without_first)
    (changed (as_seen (present_ports c.self.inside.tables.slots)) c.args.serial without_first)
    c.self.inside.tables.count c.self.inside.tables.next c.in-Ok.ensures.before c.in-Ok.ensures.ok
    (seen_taken (present_ports c.self.inside.tables.slots) c.args.serial) ∙ ap
    (λ (t : TrackedPorts). record {
      before = t.before;
      current = record {
        ports = changed t.current.ports c.args.serial without_first;
        next = t.current.next;
      };
    }) c.self.view_is
