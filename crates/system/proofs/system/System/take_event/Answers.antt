use Rattle.ipc_model.specs.declared.plain_reply.PlainReply.TheVariants.{Done}
use Rattle.ipc_model.specs.declared.reply.Reply.TheVariants as reply
use Rattle.system.specs.declared.event.Event.TheVariants as event
use Rattle.system.specs.declared.event.Outcome.TheVariants as outcome
use Rattle.system.proofs.Simulation.{shows_no_take, shows_take, steps_of}
use Rattle.system.proofs.system.System.take_event.Goals as goal

pub returns-then-take-clause-steps : goal.returns-then-take-clause-steps
returns-then-take-clause-steps g c = λ base w stands.
    steps_of g.D.Disk.honest g.D.Disk.view base w event.Take outcome.Done (reply.Plain (Done 0)) c.args.self.now c.take.new.self
    (shows_take g.D.Disk.honest g.D.Disk.view base w c.args.self.now c.take.new.self stands c.if-take.ensures.taken)

pub returns-clause-steps : goal.returns-clause-steps
returns-clause-steps g c = λ base w stands.
    steps_of g.D.Disk.honest g.D.Disk.view base w event.Take outcome.NotNow
    (reply.Plain (Done 0)) c.args.self.now c.take.new.self
    (shows_no_take g.D.Disk.honest g.D.Disk.view base w c.args.self.now c.take.new.self stands c.if-take.ensures.taken.0
    c.if-take.ensures.taken.1)
