use Rattle.ipc_model.specs.declared.plain_reply.PlainReply.TheVariants.{Done}
use Rattle.ipc_model.specs.declared.reply.Reply.TheVariants as reply
use Rattle.system.specs.declared.event.Event.TheVariants as event
use Rattle.system.specs.declared.event.Outcome.TheVariants as outcome
use Rattle.system.proofs.Simulation.{shows_no_reply, shows_reply, steps_of}
use Rattle.system.proofs.system.System.reply_event.Goals as goal

pub returns-in-Some-clause-steps : goal.returns-in-Some-clause-steps
returns-in-Some-clause-steps g c = λ base w stands.
    steps_of g.D.Disk.honest g.D.Disk.view base w (event.Reply c.args.ticket) (outcome.Reply c.in-Some.reply)
    (reply.Plain (Done 0)) c.args.self.now c.reply.new.self
    (shows_reply g.D.Disk.honest g.D.Disk.view base w c.args.self.now c.reply.new.self c.args.ticket c.in-Some.reply
    stands c.in-Some.ensures.answered)

pub returns-in-None-clause-steps : goal.returns-in-None-clause-steps
returns-in-None-clause-steps g c = λ base w stands.
    steps_of g.D.Disk.honest g.D.Disk.view base w (event.Reply c.args.ticket) outcome.NotNow
    (reply.Plain (Done 0)) c.args.self.now c.reply.new.self
    (shows_no_reply g.D.Disk.honest g.D.Disk.view base w c.args.self.now c.reply.new.self c.args.ticket stands
    c.in-None.ensures.none.0 c.in-None.ensures.none.1)
