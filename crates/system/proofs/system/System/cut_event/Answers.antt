use Rattle.ipc_model.specs.declared.plain_reply.PlainReply.TheVariants.{Done}
use Rattle.ipc_model.specs.declared.reply.Reply.TheVariants as reply
use Rattle.system.specs.declared.event.Event.TheVariants as event
use Rattle.system.specs.declared.event.Outcome.TheVariants as outcome
use Rattle.system.proofs.Calls.{match_false, match_true}
use Rattle.system.proofs.Checkpoints.{shows_cut, shows_cut_shortage, shows_no_cut}
use Rattle.system.proofs.Simulation.{steps_of}
use Rattle.system.proofs.system.System.cut_event.Goals as goal

pub returns-in-Ok-true-clause-steps : goal.returns-in-Ok-true-clause-steps
returns-in-Ok-true-clause-steps g c = λ base w stands.
    steps_of g.D.Disk.honest g.D.Disk.view base w event.Cut outcome.Done (reply.Plain (Done 0)) c.args.self.now c.cut.new.self
    (shows_cut g.D.Disk.honest g.D.Disk.view base w c.args.self.now c.cut.new.self stands
    (match_true _ _ c.in-Ok-true.field-0 c.in-Ok-true.field-0-test c.in-Ok-true.ensures.done))

pub returns-in-Ok-false-clause-steps : goal.returns-in-Ok-false-clause-steps
returns-in-Ok-false-clause-steps g c = λ base w stands.
    let none = match_false _ _ c.in-Ok-false.field-0 c.in-Ok-false.field-0-test c.in-Ok-false.ensures.done in
    steps_of g.D.Disk.honest g.D.Disk.view base w event.Cut outcome.NotNow (reply.Plain (Done 0)) c.args.self.now c.cut.new.self
    (shows_no_cut g.D.Disk.honest g.D.Disk.view base w c.args.self.now c.cut.new.self stands none.0 none.1)

pub returns-in-Err-clause-steps : goal.returns-in-Err-clause-steps
returns-in-Err-clause-steps g c = λ base w stands.
    steps_of g.D.Disk.honest g.D.Disk.view base w event.Cut outcome.NoMemory
    (reply.Plain (Done 0)) c.args.self.now c.cut.new.self
    (shows_cut_shortage g.D.Disk.honest g.D.Disk.view base w c.args.self.now c.cut.new.self stands
    c.in-Err.ensures.err.0 c.in-Err.ensures.err.1)
