use Rattle.ipc_model.specs.declared.plain_reply.PlainReply.TheVariants.{Done}
use Rattle.ipc_model.specs.declared.reply.Reply.TheVariants as reply
use Rattle.system.specs.declared.event.Event.TheVariants as event
use Rattle.system.specs.declared.event.Outcome.TheVariants as outcome
use Rattle.std.proofs.Common.{inl, inr, refl, sym, subst}
use Rattle.ipc_model.specs.world.World as world
use Rattle.store_fault.specs.declared.fault.StoreFault.{StoreFault}
use Rattle.store_fault.specs.declared.fault.StoreFault.TheVariants.{Device, Failed, NoMemory}
use Rattle.system.specs.Core.{Steps}
use Rattle.system.proofs.Calls.{match_false, match_true}
use Rattle.system.proofs.Checkpoints.{failed_step, shows_image_close, shows_image_close_fails, shows_no_image_close, shows_shortage}
use Rattle.system.proofs.Simulation.{steps_of}
use Rattle.system.proofs.system.System.image_close_event.Goals as goal

pub returns-in-Ok-true-clause-steps : goal.returns-in-Ok-true-clause-steps
returns-in-Ok-true-clause-steps g c = λ base w stands.
    steps_of g.D.Disk.honest g.D.Disk.view base w event.ImageClose outcome.Done
    (reply.Plain (Done 0)) c.args.self.now c.close_image.new.self
    (shows_image_close g.D.Disk.honest g.D.Disk.view base w c.args.self.now c.close_image.new.self stands
    (match_true _ _ c.in-Ok-true.field-0 c.in-Ok-true.field-0-test c.in-Ok-true.ensures.done)
    c.close_image.ensures.rest)

pub returns-in-Ok-false-clause-steps : goal.returns-in-Ok-false-clause-steps
returns-in-Ok-false-clause-steps g c = λ base w stands.
    steps_of g.D.Disk.honest g.D.Disk.view base w event.ImageClose outcome.NotNow
    (reply.Plain (Done 0)) c.args.self.now c.close_image.new.self
    (shows_no_image_close g.D.Disk.honest g.D.Disk.view base w c.args.self.now c.close_image.new.self stands
    (match_false _ _ c.in-Ok-false.field-0 c.in-Ok-false.field-0-test c.in-Ok-false.ensures.done)
    c.close_image.ensures.rest)

pub returns-in-Err-clause-steps : goal.returns-in-Err-clause-steps
returns-in-Err-clause-steps g c = λ base w stands.
    let Shown : StoreFault → Type 0 =
    λ f. Steps g.D.Disk.honest g.D.Disk.view base w event.ImageClose
    (outcome.Store f) c.args.self.now c.close_image.new.self in
    elim c.in-Err.ensures.faults as (λ _. Shown c.in-Err.fault) [
      | inl known ↦ elim known as (λ _. Shown c.in-Err.fault) [
        | inl failed ↦ subst Shown (sym failed.0)
            (steps_of g.D.Disk.honest g.D.Disk.view base w event.ImageClose (outcome.Store Failed)
            (reply.Plain (Done 0)) c.args.self.now c.close_image.new.self
            (failed_step g.D.Disk.honest g.D.Disk.view base w world.image_close c.args.self.now c.close_image.new.self
            stands refl failed.1 c.close_image.ensures.rest failed.2))
        | inr device ↦ subst Shown (sym device.0)
            (steps_of g.D.Disk.honest g.D.Disk.view base w event.ImageClose (outcome.Store Device)
            (reply.Plain (Done 0)) c.args.self.now c.close_image.new.self
            (shows_image_close_fails g.D.Disk.honest g.D.Disk.view base w c.args.self.now c.close_image.new.self stands
            device.1 c.close_image.ensures.rest))
      ]
      | inr short ↦ subst Shown (sym short.0)
          (steps_of g.D.Disk.honest g.D.Disk.view base w event.ImageClose (outcome.Store NoMemory)
          (reply.Plain (Done 0)) c.args.self.now c.close_image.new.self
          (shows_shortage g.D.Disk.honest g.D.Disk.view base w c.args.self.now c.close_image.new.self stands short.1
          short.2 c.close_image.ensures.rest short.3))
    ]
