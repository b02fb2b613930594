use Rattle.std.proofs.Common.{◌≤◌, refl, ◌∙◌, ap, arith}
use Rattle.live_ports.specs.PortTable.{TrackedPorts}
use Rattle.live_ports.specs.Seen.{as_seen}
use Rattle.live_ports.specs.Tables.{present_ports}
use Rattle.live_ports.proofs.Standing.{later_sound, now_stands, now_view}
use Rattle.live_ports.proofs.ports.LivePorts.set_next_serial.Goals as goal

pub invariant_of-self : goal.invariant_of-self
invariant_of-self c =
    let tables = c.self.inside.tables in
    let past : tables.next ≤ c.args.serial =
    omega (arith, ap (λ (t : TrackedPorts). t.current.next) c.self.view_is, c.requires) in
    now_stands tables c.set_next_serial.new.self
    (present_ports tables.slots) tables.count c.args.serial c.self.invariant c.set_next_serial.ensures.before
    c.set_next_serial.ensures.ok
    (later_sound (present_ports tables.slots) tables.count tables.next c.args.serial c.self.invariant.current past) past

pub returns : goal.returns
returns c =
    let tables = c.self.inside.tables in
    now_view tables c.set_next_serial.new.self (present_ports tables.slots)
    (as_seen (present_ports tables.slots)) tables.count c.args.serial c.set_next_serial.ensures.before
    c.set_next_serial.ensures.ok refl
    ∙ ap (λ (t : TrackedPorts). record t { current = record t.current { next = c.args.serial } }) c.self.view_is
