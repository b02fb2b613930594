-- What is in hand after a send.
use Rattle.std.specs.Prelude.{◌≡◌, true}
use Rattle.ipc_model.specs.calls.Step.{succeeded}
use Rattle.calls.specs.declared.request.Request.{Request}
use Rattle.calls.specs.declared.request.Request.TheVariants as request
use Rattle.ipc_model.specs.declared.call.Call.{Call}
use Rattle.ipc_model.specs.declared.reply.Reply.{Reply}
use Rattle.frame_service.specs.Asking.{AsksOne, is_sent}
use Rattle.frame_service.specs.declared.asking.PendingFrame.TheVariants.{Settled}
use Rattle.frame_service.specs.declared.asking.Ready.{Ready}
use Rattle.frame_service.specs.declared.asking.Ready.TheVariants.{Known, Made}

module _ {C T : Type 0} (answer : T → Reply) (makes : C → Request → T → C → Type 0) (lacks : C → Request → C → Type 0) where
  -- a send that was done was made
  pub sent_is_made : (old new : C) (c : Call) (ready : Ready T) → AsksOne answer makes lacks old c ready new
      → is_sent answer makes lacks c (Settled ready) ≡ true → (ticket : T) × makes old (request.One c) ticket new
      × (succeeded (answer ticket) ≡ true)
  sent_is_made old new c (Made ticket) made sent = (ticket, made, sent)
  sent_is_made old new c (Known known) made sent = absurd (cc sent)
