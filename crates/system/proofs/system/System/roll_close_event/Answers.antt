use Rattle.ipc_model.specs.declared.plain_reply.PlainReply.TheVariants.{Done}
use Rattle.ipc_model.specs.declared.reply.Reply.TheVariants as reply
use Rattle.system.specs.declared.event.Event.TheVariants as event
use Rattle.system.specs.declared.event.Outcome.TheVariants as outcome
use Rattle.std.proofs.Common.{inl, inr, refl, sym, subst}
use Rattle.ipc_model.specs.world.World as world
use Rattle.store_fault.specs.declared.fault.StoreFault.{StoreFault}
use Rattle.store_fault.specs.declared.fault.StoreFault.TheVariants.{Device, Failed}
use Rattle.system.specs.Core.{Steps}
use Rattle.system.proofs.Calls.{match_false, match_true}
use Rattle.system.proofs.Checkpoints.{failed_step, shows_no_roll_close, shows_roll_close, shows_roll_close_fails}
use Rattle.system.proofs.Simulation.{steps_of}
use Rattle.system.proofs.system.System.roll_close_event.Goals as goal

pub returns-in-Ok-true-clause-steps : goal.returns-in-Ok-true-clause-steps
returns-in-Ok-true-clause-steps g c = λ base w stands.
    steps_of g.D.Disk.honest g.D.Disk.view base w event.RollClose outcome.Done
    (reply.Plain (Done 0)) c.args.self.now c.roll_close.new.self
    (shows_roll_close g.D.Disk.honest g.D.Disk.view base w c.args.self.now c.roll_close.new.self stands
    (match_true _ _ c.in-Ok-true.field-0 c.in-Ok-true.field-0-test c.in-Ok-true.ensures.done)
    c.roll_close.ensures.rest)

pub returns-in-Ok-false-clause-steps : goal.returns-in-Ok-false-clause-steps
returns-in-Ok-false-clause-steps g c = λ base w stands.
    steps_of g.D.Disk.honest g.D.Disk.view base w event.RollClose outcome.NotNow
    (reply.Plain (Done 0)) c.args.self.now c.roll_close.new.self
    (shows_no_roll_close g.D.Disk.honest g.D.Disk.view base w c.args.self.now c.roll_close.new.self stands
    (match_false _ _ c.in-Ok-false.field-0 c.in-Ok-false.field-0-test c.in-Ok-false.ensures.done)
    c.roll_close.ensures.rest)

pub returns-in-Err-clause-steps : goal.returns-in-Err-clause-steps
returns-in-Err-clause-steps g c = λ base w stands.
    let Shown : StoreFault → Type 0 =
    λ f. Steps g.D.Disk.honest g.D.Disk.view base w event.RollClose
    (outcome.Store f) c.args.self.now c.roll_close.new.self in
    elim c.in-Err.ensures.faults as (λ _. Shown c.in-Err.fault) [
      | inl failed ↦ subst Shown (sym failed.0)
          (steps_of g.D.Disk.honest g.D.Disk.view base w event.RollClose (outcome.Store Failed)
          (reply.Plain (Done 0)) c.args.self.now c.roll_close.new.self
          (failed_step g.D.Disk.honest g.D.Disk.view base w world.roll_close c.args.self.now c.roll_close.new.self
          stands refl failed.1 c.roll_close.ensures.rest failed.2))
      | inr device ↦ subst Shown (sym device.0)
          (steps_of g.D.Disk.honest g.D.Disk.view base w event.RollClose (outcome.Store Device)
          (reply.Plain (Done 0)) c.args.self.now c.roll_close.new.self
          (shows_roll_close_fails g.D.Disk.honest g.D.Disk.view base w c.args.self.now c.roll_close.new.self stands
          device.1 c.roll_close.ensures.rest))
    ]
