use Rattle.std.proofs.Common.{refl, ◌∙◌, ap, arith}
use Rattle.live_ports.specs.Changed.{changed, with_numbers}
use Rattle.live_ports.specs.PortTable.{TrackedPorts}
use Rattle.live_ports.specs.Seen.{as_seen}
use Rattle.live_ports.specs.SeenLaws.{seen_changed}
use Rattle.live_ports.specs.Tables.{present_ports}
use Rattle.live_ports.proofs.Standing.{now_stands, now_view, numbers_sound}
use Rattle.live_ports.proofs.ports.LivePorts.set_numbers.Goals as goal

pub invariant_of-self : goal.invariant_of-self
invariant_of-self c =
    now_stands c.self.inside.tables c.set_numbers.new.self
    (changed (present_ports c.self.inside.tables.slots) c.args.serial (with_numbers c.args.numbers))
    c.self.inside.tables.count c.self.inside.tables.next c.self.invariant c.in-Ok.ensures.before
    c.in-Ok.ensures.ok (numbers_sound
    (present_ports c.self.inside.tables.slots) c.self.inside.tables.count c.self.inside.tables.next
    c.args.serial c.args.numbers c.self.invariant.current) (omega arith)

pub returns-in-Ok-clause-ok : goal.returns-in-Ok-clause-ok
returns-in-Ok-clause-ok c =
    now_view c.self.inside.tables c.set_numbers.new.self
    (changed (present_ports c.self.inside.tables.slots) c.args.serial (with_numbers c.args.numbers))
    (changed (as_seen (present_ports c.self.inside.tables.slots)) c.args.serial (with_numbers c.args.numbers))
    c.self.inside.tables.count c.self.inside.tables.next c.in-Ok.ensures.before c.in-Ok.ensures.ok
    (seen_changed (present_ports c.self.inside.tables.slots) c.args.serial (with_numbers c.args.numbers)
    (with_numbers c.args.numbers) (λ _. refl)) ∙ ap
    (λ (t : TrackedPorts). record {
      before = t.before;
      current = record {
        ports = changed t.current.ports c.args.serial
            (with_numbers c.args.numbers);
        next = t.current.next;
      };
    }) c.self.view_is
