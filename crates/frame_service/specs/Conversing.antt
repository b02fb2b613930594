-- What a conversation is between two of its steps: one connection, as far as it goes without waiting, whoever takes the
-- steps.
use Rattle.std.specs.Prelude.{◌≡◌, ℕ, Bool, true, false, List, [], ◌∷◌, Option, None, Some, Result, Ok, Err, MatchOption, option_map}
use Rattle.std.specs.Io.KnownBytes.{Appends, Keeps}
use Rattle.calls.specs.declared.request.Request.{Request}
use Rattle.ipc_model.specs.declared.reply.Reply.{Reply}
use Rattle.ipc_model.specs.encodings.Encodings.{reply_encoding}
use Rattle.store_fault.specs.declared.fault.StoreFault.{StoreFault}
use Rattle.frame_service.specs.Boxes.{InboxValue, OutboxValue, inbox_remaining, outbox_contents}
use Rattle.frame_service.specs.declared.inbox.Source.{Source}
use Rattle.frame_service.specs.declared.inbox.Source.TheVariants.{Open}
use Rattle.frame_service.specs.Asking.{EndsAsked, GoesOn, IsGiven, IsUngiven, Proceeds, bound_of, holds_frame}
use Rattle.frame_service.specs.declared.asking.PendingFrame.{PendingFrame}
use Rattle.frame_service.specs.declared.asking.PendingFrame.TheVariants.{Settled, Waits}
use Rattle.frame_service.specs.declared.asking.Ready.{Ready}
use Rattle.frame_service.specs.declared.asking.Ready.TheVariants.{Made}
use Rattle.frame_service.specs.declared.conversation.Conversation.{Conversation}
use Rattle.frame_service.specs.declared.service.ServeFault.{ServeFault}
use Rattle.frame_service.specs.declared.service.ServeFault.TheVariants.{Wire, Store}
use Rattle.wire.specs.Writing.{AppendsPart}
use Rattle.wire.specs.declared.fault.WireFault.{WireFault}
use Rattle.wire.specs.declared.fault.WireFault.TheVariants.{Device}
use Rattle.words.specs.Words.{frame_encoding}

-- how the input ended, by what taking frames said
abbrev pub end_of : Result Bool WireFault → Option (Result (Unit {0}) WireFault)
end_of (Ok true) = None
end_of (Ok false) = Some (Ok tt)
end_of (Err fault) = Some (Err fault)

-- how a conversation ends whose input ended so, once all is answered
abbrev pub fault_of : Result (Unit {0}) WireFault → Result (Unit {0}) ServeFault
fault_of (Ok done) = Ok done
fault_of (Err fault) = Err (Wire fault)

-- how a conversation has ended: by a step's fault; or with no frame in hand, once its input ended so
abbrev pub over_of : {T : Type 0} → Option ServeFault → List (PendingFrame T) → Option (Result (Unit {0}) WireFault)
    → Option (Result (Unit {0}) ServeFault)
over_of (Some fault) all_pending input_end = Some (Err fault)
over_of None [] input_end = option_map fault_of input_end
over_of None (pending ∷ all_pending) input_end = None

-- the bound of the call that the first frame in hand waits for, if no step failed and it waits
abbrev pub waits_of : {T : Type 0} → Option ServeFault → List (PendingFrame T) → Option (Option ℕ)
waits_of None (Waits message ∷ all_pending) = Some (bound_of message)
waits_of fault all_pending = None

-- the ticket of the first frame in hand, if no step failed and it waits only to be answered
abbrev pub awaited_of : {T : Type 0} → Option ServeFault → List (PendingFrame T) → Option T
awaited_of None (Settled (Made ticket) ∷ all_pending) = Some ticket
awaited_of fault all_pending = None

-- whether no step failed, there is a frame to be taken, or the end of the input, and nothing is in hand
abbrev pub is_next : Source → List ℕ → Bool
is_next Open bytes = holds_frame bytes
is_next source bytes = true

abbrev pub has_next : {S T : Type 0} → Option ServeFault → List (PendingFrame T) → Option (Result (Unit {0}) WireFault)
    → InboxValue S → Bool
has_next None [] None inbox = is_next inbox.source inbox.bytes
has_next fault all_pending input_end inbox = false

module _ {C T : Type 0} (answer : T → Reply) (makes : C → Request → T → C → Type 0) (lacks : C → Request → C → Type 0) where
  -- a frame in hand was tried again, if it waited
  abbrev pub IsRetried : C → PendingFrame T → PendingFrame T → C → Type 0
  IsRetried old (Settled ready) pending new = (pending ≡ Settled ready) × (new ≡ old)
  IsRetried old (Waits message) pending new =
      Proceeds answer makes lacks old message message.send message.receive pending new

module _ {C T : Type 0} (answer : T → Reply) (makes : C → Request → T → C → Type 0) (lacks : C → Request → C → Type 0)
    (acknowledges : C → T → C → Type 0) (fails : C → T → StoreFault → C → Type 0) where
  -- What waits for nothing was answered; or it couldn't be, or its reply couldn't be written.
  abbrev pub Tells : C → Ready T → C → Option (List ℕ) → Option (List ℕ) → Result (Unit {0}) ServeFault → Type 0
  Tells old ready new before written (Ok done) =
      (said : Reply) × IsGiven answer makes lacks acknowledges fails old ready said new
      × Appends before written (frame_encoding (reply_encoding said))
  Tells old ready new before written (Err (Store fault)) =
      IsUngiven answer makes lacks acknowledges fails old ready fault new × Keeps before written
  Tells old ready new before written (Err (Wire fault)) =
      (fault ≡ Device) × ((said : Reply) × IsGiven answer makes lacks acknowledges fails old ready said new
      × AppendsPart before written (frame_encoding (reply_encoding said)))

module _ {S W C T Turn Known Latest : Type 0} (remaining : S → Option (List ℕ)) (contents : W → Option (List ℕ))
    (answer : T → Reply) (makes : C → Request → T → C → Type 0) (lacks : C → Request → C → Type 0)
    (acknowledges : C → T → C → Type 0) (fails : C → T → StoreFault → C → Type 0) (looks : C → C → Type 0) where
  -- It began with this caller, before this input and after this output, and has come so far.
  abbrev pub Goes : C → List ℕ → List ℕ → Conversation S W C T Turn Known Latest → Type 0
  Goes start input before c =
      GoesOn answer makes lacks acknowledges fails looks start input before c.asker c.pending.frames.items c.input_end
      (inbox_remaining remaining c.inbox) (outbox_contents contents c.outbox)

  -- It began so, and has ended like this.
  abbrev pub Ended : C → List ℕ → List ℕ → Conversation S W C T Turn Known Latest → Result (Unit {0}) ServeFault → Type 0
  Ended start input before c how =
      EndsAsked answer makes lacks acknowledges fails looks start input before c.asker
      (inbox_remaining remaining c.inbox) (outbox_contents contents c.outbox) how

  -- The whole life of one that began so: it has come so far; or a step failed, and it has ended with that fault.
  abbrev pub Lives : C → List ℕ → List ℕ → Conversation S W C T Turn Known Latest → Type 0
  Lives start input before c =
      MatchOption c.fault (Goes start input before c) (λ fault. Ended start input before c (Err fault))

  -- It begins with this caller, with whatever input comes and whatever was written before.
  pub record Begins (start : C) (inbox : InboxValue S) (outbox : OutboxValue W)
      (c : Conversation S W C T Turn Known Latest) : Type 0 where
    pub none_failed : c.fault ≡ None
    pub goes : (input before : List ℕ) → inbox_remaining remaining inbox ≡ Some input
        → outbox_contents contents outbox ≡ Some before → Goes start input before c

  -- Whatever its life was, this is still its life afterwards.
  abbrev pub Kept : (old new : Conversation S W C T Turn Known Latest) → Type 0
  Kept old new = (start : C) (input before : List ℕ) → Lives start input before old → Lives start input before new

  -- However it began and came so far, it has come so far afterwards.
  abbrev pub Continues : (old new : Conversation S W C T Turn Known Latest) → Type 0
  Continues old new = (start : C) (input before : List ℕ) → Goes start input before old → Goes start input before new

  -- However it began and came so far, it ends like this.
  abbrev pub Stops : (old new : Conversation S W C T Turn Known Latest) → Result (Unit {0}) ServeFault → Type 0
  Stops old new how = (start : C) (input before : List ℕ) → Goes start input before old → Ended start input before new how

  -- Whatever its life was, it has ended like this.
  abbrev pub HasEnded : Conversation S W C T Turn Known Latest → Result (Unit {0}) ServeFault → Type 0
  HasEnded c how = (start : C) (input before : List ℕ) → Lives start input before c → Ended start input before c how
