use Rattle.std.proofs.Common.{◌+◌, ◌∙◌, ap, arith}
use Rattle.std.specs.FinMap as map
use Rattle.ipc_model.specs.state.Ipc.{new_port}
use Rattle.live_ports.specs.PortTable.{TrackedPorts}
use Rattle.live_ports.specs.Seen.{as_seen}
use Rattle.live_ports.specs.SeenLaws.{len_seen, seen_added}
use Rattle.live_ports.specs.Tables.{former_ports, present_ports}
use Rattle.live_ports.proofs.Standing.{added_sound, none_at, now_stands, now_view}
use Rattle.live_ports.proofs.ports.LivePorts.add.Goals as goal

pub add-requires-clause-unborn : goal.add-requires-clause-unborn
add-requires-clause-unborn c =
    none_at (former_ports c.self.inside.tables.slots) c.self.inside.tables.count_before c.self.inside.tables.next_before
    c.self.inside.tables.next c.self.invariant.before c.self.invariant.ascends

pub add-requires-clause-room : goal.add-requires-clause-room
add-requires-clause-room c =
    (omega (
      arith,
      c.self.invariant.current.counted,
      len_seen (present_ports c.self.inside.tables.slots),
      ap (λ (t : TrackedPorts). map.len t.current.ports) c.self.view_is,
      c.requires.room,
    ))

pub invariant_of-self : goal.invariant_of-self
invariant_of-self c =
    now_stands c.self.inside.tables c.add.new.self
    (map.insert (present_ports c.self.inside.tables.slots) c.self.inside.tables.next new_port)
    (c.self.inside.tables.count + 1)
    (c.self.inside.tables.next + 1) c.self.invariant c.in-Ok.ensures.before c.in-Ok.ensures.ok
    (added_sound (present_ports c.self.inside.tables.slots) c.self.inside.tables.count
    c.self.inside.tables.next c.self.invariant.current
    (omega (
      arith,
      c.self.invariant.current.counted,
      len_seen (present_ports c.self.inside.tables.slots),
      ap (λ (t : TrackedPorts). map.len t.current.ports) c.self.view_is,
      c.requires.room,
    ))) (omega arith)

pub returns-in-Ok-clause-ok : goal.returns-in-Ok-clause-ok
returns-in-Ok-clause-ok c =
    now_view c.self.inside.tables c.add.new.self
    (map.insert (present_ports c.self.inside.tables.slots) c.self.inside.tables.next new_port)
    (map.insert (as_seen (present_ports c.self.inside.tables.slots)) c.self.inside.tables.next new_port)
    (c.self.inside.tables.count + 1)
    (c.self.inside.tables.next + 1) c.in-Ok.ensures.before c.in-Ok.ensures.ok
    (seen_added (present_ports c.self.inside.tables.slots) c.self.inside.tables.next
    c.self.invariant.current.below) ∙ ap
    (λ (t : TrackedPorts). record {
      before = t.before;
      current = record {
        ports = map.insert t.current.ports t.current.next new_port;
        next = t.current.next + 1;
      };
    }) c.self.view_is
