-- What a caller keeps, whatever it is asked for, it keeps while a connection is served.
use Rattle.std.proofs.Common.{◌≡◌, inl, inr, ℕ, Bool, true, false, List, [], ◌∷◌, ◌++◌, Option, None, Some, sym, subst}
use Rattle.std.specs.Prelude.{MatchBool}
use Rattle.calls.specs.declared.request.MessageRequest.{MessageRequest}
use Rattle.calls.specs.declared.request.Request.{Request}
use Rattle.calls.specs.declared.request.Request.TheVariants as request
use Rattle.ipc_model.specs.calls.Step.{succeeded}
use Rattle.ipc_model.specs.declared.call.Call.{Call}
use Rattle.ipc_model.specs.declared.reply.Reply.{Reply}
use Rattle.store_fault.specs.declared.fault.StoreFault.{StoreFault}
use Rattle.frame_service.specs.Asking.{Act, Acted, AsksConfine, AsksOne, IsAcknowledged, IsGiven, IsTaken, IsTried, Proceeds, TakesRequest, Tries, acknowledged, looked, took, tried}
use Rattle.frame_service.specs.Serving.{Answers, AnswersMessage, AnswersRequest, Exchanges, IsAnswered}
use Rattle.frame_service.specs.declared.asking.PendingFrame.{PendingFrame}
use Rattle.frame_service.specs.declared.asking.PendingFrame.TheVariants.{Settled, Waits}
use Rattle.frame_service.specs.declared.asking.Ready.{Ready}
use Rattle.frame_service.specs.declared.asking.Ready.TheVariants.{Known, Made}

module _ {C T : Type 0} (answer : T → Reply) (makes : C → Request → T → C → Type 0) (lacks : C → Request → C → Type 0)
    (acknowledges : C → T → C → Type 0) (fails : C → T → StoreFault → C → Type 0) (looks : C → C → Type 0)
    (Keeps : C → C → Type 0)
    (same : (c : C) → Keeps c c) (joins : (a b c : C) → Keeps a b → Keeps b c → Keeps a c)
    (by_making : (a : C) (asks : Request) (ticket : T) (b : C) → makes a asks ticket b → Keeps a b)
    (by_lacking : (a : C) (asks : Request) (b : C) → lacks a asks b → Keeps a b)
    (by_acknowledging : (a : C) (ticket : T) (b : C) → acknowledges a ticket b → Keeps a b)
    (by_looking : (a b : C) → looks a b → Keeps a b) where
  unchanged : (old new : C) → new ≡ old → Keeps old new
  unchanged old new is = subst (Keeps old) (sym is) (same old)

  one_keeps : (old : C) (c : Call) (ready : Ready T) (new : C) → AsksOne answer makes lacks old c ready new
      → Keeps old new
  one_keeps old c (Made ticket) new asked = by_making old (request.One c) ticket new asked
  one_keeps old c (Known known) new asked = by_lacking old (request.One c) new asked.1

  confine_keeps : (old : C) (ready : Ready T) (new : C) → AsksConfine answer makes lacks old ready new → Keeps old new
  confine_keeps old (Made ticket) new asked = by_making old request.Confine ticket new asked
  confine_keeps old (Known known) new asked = by_lacking old request.Confine new asked.1

  tries_keeps : (old : C) (c : Call) (bound : Option ℕ) (left : MessageRequest) (pending : PendingFrame T) (new : C)
      → Tries answer makes lacks old c bound left pending new → Keeps old new
  tries_keeps old c bound left (Settled ready) new made = one_keeps old c ready new made.0
  tries_keeps old c bound left (Waits rest) new made = by_making old (request.One c) made.2.0 new made.2.1

  proceeds_keeps : (old : C) (m : MessageRequest) (send receive : Option Call) (pending : PendingFrame T) (new : C)
      → Proceeds answer makes lacks old m send receive pending new → Keeps old new
  proceeds_keeps old m None None pending new went = unchanged old new went.1
  proceeds_keeps old m (Some send) None pending new went = tries_keeps old send m.send_timeout _ pending new went
  proceeds_keeps old m None (Some receive) pending new went =
      tries_keeps old receive m.receive_timeout _ pending new went
  proceeds_keeps old m (Some send) (Some receive) pending new (inl went) =
      tries_keeps old send m.send_timeout _ pending new went.0
  proceeds_keeps old m (Some send) (Some receive) pending new (inr (ticket, mid, sent, done, went)) =
      joins old mid new (by_making old (request.One send) ticket mid sent)
      (tries_keeps mid receive m.receive_timeout _ pending new went)

  asked_keeps : (old : C) (asks : Request) (pending : PendingFrame T) (new : C)
      → TakesRequest answer makes lacks old asks pending new → Keeps old new
  asked_keeps old (request.One c) (Settled ready) new taken = one_keeps old c ready new taken
  asked_keeps old (request.One c) (Waits rest) new taken = absurd taken
  asked_keeps old (request.Message m) pending new taken = proceeds_keeps old m m.send m.receive pending new taken
  asked_keeps old (request.Answered code) pending new taken = unchanged old new taken.1
  asked_keeps old request.Confine (Settled ready) new taken = confine_keeps old ready new taken
  asked_keeps old request.Confine (Waits rest) new taken = absurd taken

  taken_keeps : (old : C) (content : List ℕ) (pending : PendingFrame T) (new : C)
      → IsTaken answer makes lacks old content pending new → Keeps old new
  taken_keeps old content pending new (inl (asks, asked, taken)) = asked_keeps old asks pending new taken
  taken_keeps old content pending new (inr (known, is, inl refused)) = unchanged old new refused.2
  taken_keeps old content pending new (inr (known, is, inr lacking)) = unchanged old new lacking.1

  given_keeps : (old : C) (ready : Ready T) (said : Reply) (new : C)
      → IsGiven answer makes lacks acknowledges fails old ready said new → Keeps old new
  given_keeps old (Known known) said new given = unchanged old new given.1
  given_keeps old (Made ticket) said new given = by_acknowledging old ticket new given.1

  acknowledged_keeps : (old : C) (pending : PendingFrame T) (said : Reply) (new : C)
      → IsAcknowledged answer makes lacks acknowledges fails old pending said new → Keeps old new
  acknowledged_keeps old (Settled ready) said new given = given_keeps old ready said new given
  acknowledged_keeps old (Waits rest) said new given = absurd given

  tried_keeps : (old : C) (waiting pending : PendingFrame T) (new : C)
      → IsTried answer makes lacks acknowledges fails old waiting pending new → Keeps old new
  tried_keeps old (Settled ready) pending new again = absurd again
  tried_keeps old (Waits rest) pending new again = proceeds_keeps old rest rest.send rest.receive pending new again

  -- frames that are taken in hand and answered
  pub acted_keeps : (old : C) (queue : List (PendingFrame T)) (acts : List (Act T)) (left : List (PendingFrame T))
      (new : C) → Acted answer makes lacks acknowledges fails looks old queue acts left new → Keeps old new
  acted_keeps old queue [] left new acted = unchanged old new acted.1
  acted_keeps old queue (took content pending ∷ acts) left new (mid, first, rest) =
      joins old mid new (taken_keeps old content pending mid first)
      (acted_keeps mid (queue ++ pending ∷ []) acts left new rest)
  acted_keeps old [] (tried pending ∷ acts) left new acted = absurd acted
  acted_keeps old (waiting ∷ queue) (tried pending ∷ acts) left new (mid, first, rest) =
      joins old mid new (tried_keeps old waiting pending mid first)
      (acted_keeps mid (pending ∷ queue) acts left new rest)
  acted_keeps old [] (acknowledged said ∷ acts) left new acted = absurd acted
  acted_keeps old (pending ∷ queue) (acknowledged said ∷ acts) left new (mid, first, rest) =
      joins old mid new (acknowledged_keeps old pending said mid first) (acted_keeps mid queue acts left new rest)
  acted_keeps old queue (looked ∷ acts) left new (mid, first, rest) =
      joins old mid new (by_looking old mid first) (acted_keeps mid queue acts left new rest)

module _ {C : Type 0} (answers : C → Request → Reply → C → Type 0) (rests : C → C → Type 0) (Keeps : C → C → Type 0)
    (same : (c : C) → Keeps c c) (joins : (a b c : C) → Keeps a b → Keeps b c → Keeps a c)
    (by_answering : (a : C) (asks : Request) (said : Reply) (b : C) → answers a asks said b → Keeps a b)
    (by_resting : (a b : C) → rests a b → Keeps a b) where
  still : (old new : C) → new ≡ old → Keeps old new
  still old new is = subst (Keeps old) (sym is) (same old)

  second_keeps : (done : Bool) (old mid new : C) (receive : Call) (sent said : Reply) → Keeps old mid
      → MatchBool done (answers mid (request.One receive) said new) ((said ≡ sent) × (new ≡ mid)) → Keeps old new
  second_keeps true old mid new receive sent said first second =
      joins old mid new first (by_answering mid (request.One receive) said new second)
  second_keeps false old mid new receive sent said first second = subst (Keeps old) (sym second.1) first

  message_keeps : (old : C) (send receive : Option Call) (said : Reply) (new : C)
      → AnswersMessage answers old send receive said new → Keeps old new
  message_keeps old None None said new answered = still old new answered.1
  message_keeps old (Some send) None said new answered = by_answering old (request.One send) said new answered
  message_keeps old None (Some receive) said new answered = by_answering old (request.One receive) said new answered
  message_keeps old (Some send) (Some receive) said new (sent, mid, first, second) =
      second_keeps (succeeded sent) old mid new receive sent said (by_answering old (request.One send) sent mid first)
      second

  request_keeps : (old : C) (asks : Request) (said : Reply) (new : C) → AnswersRequest answers old asks said new
      → Keeps old new
  request_keeps old (request.One c) said new answered = by_answering old (request.One c) said new answered
  request_keeps old (request.Message m) said new answered = message_keeps old m.send m.receive said new answered
  request_keeps old (request.Answered code) said new answered = still old new answered.1
  request_keeps old request.Confine said new answered = by_answering old request.Confine said new answered

  frame_keeps : (old : C) (content : List ℕ) (said : Reply) (new : C) → IsAnswered answers old content said new
      → Keeps old new
  frame_keeps old content said new (inl (asks, asked, answered)) = request_keeps old asks said new answered
  frame_keeps old content said new (inr (inl refused)) = still old new refused.2
  frame_keeps old content said new (inr (inr lacking)) = still old new lacking.1

  -- frames that are answered, with the time after each
  pub answers_keep : (old : C) (exchanges : Exchanges) (new : C) → Answers answers rests old exchanges new
      → Keeps old new
  answers_keep old [] new all = still old new all
  answers_keep old (exchange ∷ exchanges) new (mid, later, first, rested, rest) =
      joins old later new
      (joins old mid later (frame_keeps old exchange.0 exchange.1 mid first) (by_resting mid later rested))
      (answers_keep later exchanges new rest)
