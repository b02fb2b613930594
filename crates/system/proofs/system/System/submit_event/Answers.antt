use Rattle.ipc_model.specs.declared.plain_reply.PlainReply.TheVariants.{Done}
use Rattle.ipc_model.specs.declared.reply.Reply.TheVariants as reply
use Rattle.system.specs.declared.event.Event.TheVariants as event
use Rattle.system.specs.declared.event.Outcome.TheVariants as outcome
use Rattle.std.proofs.Common.{Err, ap}
use Rattle.system.proofs.Simulation.{shows_full, shows_no_memory, shows_submit, steps_of}
use Rattle.system.proofs.system.System.submit_event.Goals as goal

pub returns-in-Ok-clause-steps : goal.returns-in-Ok-clause-steps
returns-in-Ok-clause-steps g c = λ base w stands.
    steps_of g.D.Disk.honest g.D.Disk.view base w (event.Submit c.args.space c.args.call.now)
    (outcome.Ticket c.in-Ok.number) c.in-Ok.ensures.given.ticket.answer c.args.self.now c.submit.new.self
    (shows_submit g.D.Disk.honest g.D.Disk.view base w c.args.self.now c.submit.new.self c.args.space c.args.call.now
    stands c.in-Ok.ensures.given)

pub returns-in-Err-EpochFull-clause-steps : goal.returns-in-Err-EpochFull-clause-steps
returns-in-Err-EpochFull-clause-steps g c = λ base w stands.
    steps_of g.D.Disk.honest g.D.Disk.view base w (event.Submit c.args.space c.args.call.now) outcome.EpochFull
    (reply.Plain (Done 0)) c.args.self.now c.submit.new.self
    (shows_full g.D.Disk.honest g.D.Disk.view base w c.args.self.now c.submit.new.self c.args.space c.args.call.now
    stands (c.in-Err-EpochFull.ensures.full (ap Err c.in-Err-EpochFull.field-0-is)) c.in-Err-EpochFull.ensures.err)

pub returns-in-Err-NoMemory-clause-steps : goal.returns-in-Err-NoMemory-clause-steps
returns-in-Err-NoMemory-clause-steps g c = λ base w stands.
    steps_of g.D.Disk.honest g.D.Disk.view base w (event.Submit c.args.space c.args.call.now) outcome.NoMemory
    (reply.Plain (Done 0)) c.args.self.now c.submit.new.self
    (shows_no_memory g.D.Disk.honest g.D.Disk.view base w c.args.self.now c.submit.new.self c.args.space c.args.call.now
    stands c.in-Err-NoMemory.ensures.err)
