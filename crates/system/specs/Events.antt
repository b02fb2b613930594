-- The events and outcomes of a core, as the abstract specification has them.
use Rattle.ipc_model.specs.declared.reply.Reply.{Reply}
use Rattle.ipc_model.specs.store.Faults as fault
use Rattle.ipc_model.specs.world.World as world
use Rattle.store_fault.specs.declared.fault.StoreFault.{StoreFault}
use Rattle.store_fault.specs.declared.fault.StoreFault.TheVariants.{Device, Full, Damaged, NoMemory, Failed, Version}
use Rattle.system.specs.declared.event.Event.{Event}
use Rattle.system.specs.declared.event.Event.TheVariants as event
use Rattle.system.specs.declared.event.Outcome.{Outcome}
use Rattle.system.specs.declared.event.Outcome.TheVariants as outcome

abbrev pub event_of : Event → world.Event
event_of (event.Submit space call) = world.submit space call
event_of event.Take = world.take_batch
event_of event.Append = world.append
event_of event.Durable = world.durable
event_of (event.Reply ticket) = world.ask_reply ticket
event_of event.Cut = world.cut
event_of event.RollClose = world.roll_close
event_of event.RollHead = world.roll_head
event_of event.RollOpen = world.roll_open
event_of event.ImageClose = world.image_close
event_of event.Piece = world.piece
event_of event.Finish = world.finish

abbrev pub fault_of : StoreFault → fault.StoreFault
fault_of Device = fault.device
fault_of Full = fault.full
fault_of Damaged = fault.damaged
fault_of NoMemory = fault.no_memory
fault_of Failed = fault.failed
fault_of Version = fault.version

-- An outcome, where a ticket that was given keeps this reply.
abbrev pub outcome_of : Outcome → Reply → world.Outcome
outcome_of (outcome.Ticket number) kept = world.given kept
outcome_of (outcome.Reply answer) kept = world.replied answer
outcome_of outcome.Done kept = world.done
outcome_of outcome.NotNow kept = world.not_now
outcome_of outcome.EpochFull kept = world.epoch_full
outcome_of (outcome.Store fault) kept = world.store (fault_of fault)
outcome_of outcome.NoMemory kept = world.no_memory
