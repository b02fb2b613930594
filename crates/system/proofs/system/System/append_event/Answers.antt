use Rattle.ipc_model.specs.declared.plain_reply.PlainReply.TheVariants.{Done}
use Rattle.ipc_model.specs.declared.reply.Reply.TheVariants as reply
use Rattle.system.specs.declared.event.Event.TheVariants as event
use Rattle.system.specs.declared.event.Outcome.TheVariants as outcome
use Rattle.std.proofs.Common.{inl, inr, refl, sym, subst}
use Rattle.ipc_model.specs.world.World as world
use Rattle.store_fault.specs.declared.fault.StoreFault.{StoreFault}
use Rattle.store_fault.specs.declared.fault.StoreFault.TheVariants.{Device, Failed}
use Rattle.system.specs.Core.{Steps}
use Rattle.system.proofs.Appending.{never_full, shows_append, shows_append_fails, shows_no_append}
use Rattle.system.proofs.Calls.{match_false, match_true}
use Rattle.system.proofs.Simulation.{shows_failed, steps_of}
use Rattle.system.proofs.system.System.append_event.Goals as goal

pub returns-in-Ok-true-clause-steps : goal.returns-in-Ok-true-clause-steps
returns-in-Ok-true-clause-steps g c = λ base w stands.
    steps_of g.D.Disk.honest g.D.Disk.view base w event.Append outcome.Done
    (reply.Plain (Done 0)) c.args.self.now c.append.new.self
    (shows_append g.D.Disk.honest g.D.Disk.view base w c.args.self.now c.append.new.self stands
    (match_true _ _ c.in-Ok-true.field-0 c.in-Ok-true.field-0-test c.in-Ok-true.ensures.done))

pub returns-in-Ok-false-clause-steps : goal.returns-in-Ok-false-clause-steps
returns-in-Ok-false-clause-steps g c = λ base w stands.
    let none = match_false _ _ c.in-Ok-false.field-0 c.in-Ok-false.field-0-test c.in-Ok-false.ensures.done in
    steps_of g.D.Disk.honest g.D.Disk.view base w event.Append outcome.NotNow
    (reply.Plain (Done 0)) c.args.self.now c.append.new.self
    (shows_no_append g.D.Disk.honest g.D.Disk.view base w c.args.self.now c.append.new.self stands none.0 none.1 none.2)

pub returns-in-Err-clause-steps : goal.returns-in-Err-clause-steps
returns-in-Err-clause-steps g c = λ base w stands.
    let Shown : StoreFault → Type 0 =
    λ f. Steps g.D.Disk.honest g.D.Disk.view base w event.Append
    (outcome.Store f) c.args.self.now c.append.new.self in
    elim c.in-Err.ensures.faults as (λ _. Shown c.in-Err.fault) [
      | inl failed ↦ subst Shown (sym failed.0)
          (steps_of g.D.Disk.honest g.D.Disk.view base w event.Append (outcome.Store Failed)
          (reply.Plain (Done 0)) c.args.self.now c.append.new.self
          (shows_failed g.D.Disk.honest g.D.Disk.view base w world.append c.args.self.now c.append.new.self stands refl
          failed.1 failed.2))
      | inr now ↦ elim now as (λ _. Shown c.in-Err.fault) [
        | inl device ↦ subst Shown (sym device.0)
            (steps_of g.D.Disk.honest g.D.Disk.view base w event.Append (outcome.Store Device)
            (reply.Plain (Done 0)) c.args.self.now c.append.new.self
            (shows_append_fails g.D.Disk.honest g.D.Disk.view base w c.args.self.now c.append.new.self stands device.1))
        | inr full ↦ absurd (never_full g.D.Disk.honest g.D.Disk.view base w c.args.self.now c.append.new.self stands
            full.1)
      ]
    ]
