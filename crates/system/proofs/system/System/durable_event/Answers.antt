use Rattle.ipc_model.specs.declared.plain_reply.PlainReply.TheVariants.{Done}
use Rattle.ipc_model.specs.declared.reply.Reply.TheVariants as reply
use Rattle.system.specs.declared.event.Event.TheVariants as event
use Rattle.system.specs.declared.event.Outcome.TheVariants as outcome
use Rattle.system.proofs.Simulation.{shows_durable, shows_no_durable, steps_of}
use Rattle.system.proofs.system.System.durable_event.Goals as goal

pub returns-then-durable-clause-steps : goal.returns-then-durable-clause-steps
returns-then-durable-clause-steps g c = λ base w stands.
    steps_of g.D.Disk.honest g.D.Disk.view base w event.Durable outcome.Done
    (reply.Plain (Done 0)) c.args.self.now c.durable.new.self
    (shows_durable g.D.Disk.honest g.D.Disk.view base w c.args.self.now c.durable.new.self stands c.if-durable.ensures)

pub returns-clause-steps : goal.returns-clause-steps
returns-clause-steps g c = λ base w stands.
    steps_of g.D.Disk.honest g.D.Disk.view base w event.Durable outcome.NotNow
    (reply.Plain (Done 0)) c.args.self.now c.durable.new.self
    (shows_no_durable g.D.Disk.honest g.D.Disk.view base w c.args.self.now c.durable.new.self stands
    c.if-durable.ensures.0 c.if-durable.ensures.1 c.if-durable.ensures.2)
