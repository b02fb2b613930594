use Rattle.std.proofs.Common.{ℕ, subst}
use Rattle.ipc_state.specs.Waking.{IsPortListed}
use Rattle.waiting.specs.Places.{Named, names}
use Rattle.ipc_state.proofs.Covering.{later_or, more_more, more_port, next_off}
use Rattle.ipc_state.proofs.waking.name_ports.Goals as goal

pub loop-serial-preserved-in-Ok : goal.loop-serial-preserved-in-Ok
loop-serial-preserved-in-Ok c =
    let listed : Named → ℕ → Type 0 =
    λ p n. IsPortListed (names p) c.args.spaces.now.current c.args.ports.now.current.ports n in (
      more_more c.args.places.now c.loop-serial.places c.name_port.new.places c.loop-serial.invariant.0
          c.name_port.ensures.kept,
      next_off (listed c.name_port.new.places) c.changed_serials-rest.result.now c.loop-serial.rest.now
          c.in-Some.before.now c.in-Some.serial.now c.in-Some.ensures.cases.0
          (subst (listed c.name_port.new.places) (c.in-Ok.ensures.1) c.name_port.ensures.listed)
          (later_or (listed c.loop-serial.places)
          (listed c.name_port.new.places) c.changed_serials-rest.result.now c.loop-serial.rest.now
          (λ n is. more_port c.loop-serial.places c.name_port.new.places c.args.spaces.now.current
          c.args.ports.now.current.ports n c.name_port.ensures.kept is) c.loop-serial.invariant.1),
    )
