use Rattle.std.proofs.Common.{sym, subst}
use Rattle.live_ports.specs.PortTable.{TrackedPorts}
use Rattle.ports.specs.Requests.{buried_is, disconnected_is, disconnected_untargeted, IsUntargeted}
use Rattle.ports.proofs.ports.Ports.bury.Goals as goal

pub bury_queue-requires : goal.bury_queue-requires
bury_queue-requires c =
    let done =
    disconnected_is c.args.self.now c.forget_no_senders.new.self c.forget_port_destroyed.new.self
    c.clear_requests.new.self c.args.serial c.in_ok-forget_no_senders.ensures.ok
    c.in_ok-forget_port_destroyed.ensures.ok c.in_ok-clear_requests.ensures.ok in
    subst (λ (t : TrackedPorts). IsUntargeted c.args.serial t.current.ports) (sym done)
    (disconnected_untargeted c.args.serial c.args.self.now.current.ports)

pub returns-clause-ok : goal.returns-clause-ok
returns-clause-ok c =
    let done =
    disconnected_is c.args.self.now c.forget_no_senders.new.self c.forget_port_destroyed.new.self
    c.clear_requests.new.self c.args.serial c.in_ok-forget_no_senders.ensures.ok
    c.in_ok-forget_port_destroyed.ensures.ok c.in_ok-clear_requests.ensures.ok in
    buried_is c.args.self.now c.clear_requests.new.self c.bury_queue.new.self c.args.serial done
    c.in_ok-bury_queue.ensures.ok
