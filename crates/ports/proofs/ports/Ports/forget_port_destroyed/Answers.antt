use Rattle.std.proofs.Common.{◌<◌, ap, sym, ◌∙◌, subst}
use Rattle.ipc_model.specs.effects.Effects.{map_values}
use Rattle.ipc_model.specs.state.Ipc.{is_number}
use Rattle.live_ports.specs.PortTable.{TrackedPorts}
use Rattle.ports.specs.Indexes.{destroyed_of, target_at}
use Rattle.ports.specs.Requests.{destroyed_cleared, destroyed_forgotten, all_forgotten, cleared_fewer, cleared_passed, cleared_settles, none_requests, forgets_destroyed, requests, table_is}
use Rattle.ports.proofs.ports.Ports.forget_port_destroyed.Goals as goal

pub loop-other-smaller : goal.loop-other-smaller
loop-other-smaller c =
    subst (λ (t : TrackedPorts). requests destroyed_of c.args.target t.current.ports
    < requests destroyed_of c.args.target c.loop-other.self.current.ports)
    (sym c.in_ok-clear_port_destroyed.ensures.ok)
    (cleared_fewer destroyed_of destroyed_cleared (destroyed_forgotten c.args.target) c.args.target
    (forgets_destroyed c.args.target) c.loop-other.self.current.ports c.in-Some.other c.in-Some.ensures.next.0)

pub loop-other-preserved : goal.loop-other-preserved
loop-other-preserved c = record {
  settles =
      ap (λ (t : TrackedPorts). map_values (destroyed_forgotten c.args.target) t.current.ports)
      c.in_ok-clear_port_destroyed.ensures.ok
      ∙ cleared_settles destroyed_of destroyed_cleared (destroyed_forgotten c.args.target) c.args.target
      (forgets_destroyed c.args.target) c.loop-other.self.current.ports c.in-Some.other c.in-Some.ensures.next.0
      ∙ c.loop-other.invariant.settles;
  before = ap (λ (t : TrackedPorts). t.before) c.in_ok-clear_port_destroyed.ensures.ok ∙ c.loop-other.invariant.before;
  next =
      ap (λ (t : TrackedPorts). t.current.next) c.in_ok-clear_port_destroyed.ensures.ok ∙ c.loop-other.invariant.next;
  passed =
      λ q less. ap (λ (t : TrackedPorts). is_number (target_at destroyed_of t.current.ports q) c.args.target)
      c.in_ok-clear_port_destroyed.ensures.ok
      ∙ cleared_passed destroyed_of destroyed_cleared (destroyed_forgotten c.args.target) c.args.target
      (forgets_destroyed c.args.target) c.loop-other.self.current.ports c.loop-other.at c.in-Some.other
      c.loop-other.invariant.passed c.in-Some.ensures.next.1 q less;
}

pub returns-clause-ok : goal.returns-clause-ok
returns-clause-ok c =
    table_is c.args.self.now c.loop-other.self _ c.loop-other.invariant.before c.loop-other.invariant.next
    (sym (all_forgotten destroyed_of destroyed_cleared (destroyed_forgotten c.args.target) c.args.target
    (forgets_destroyed c.args.target) c.loop-other.self.current.ports
    (none_requests destroyed_of destroyed_cleared (destroyed_forgotten c.args.target) c.args.target
    (forgets_destroyed c.args.target) c.loop-other.self.current.ports c.loop-other.at
    c.loop-other.invariant.passed c.in_default.ensures.next)) ∙ c.loop-other.invariant.settles)
