-- A caller that may be asked for more before it answers what it was asked first: what becomes of a connection's frames.
use Rattle.std.specs.Prelude.{◌≡◌, ◌⊎◌, ℕ, ◌≤◌, Bool, true, false, zero, ⊤, ◌+◌, ◌&&◌, ◌||◌, nat_le, nat_lt, List, [], ◌∷◌, ◌++◌, length, drop, cond, is_some, Option, None, Some, Result, Ok, Err}
use Rattle.byteorder.specs.Endian.{little_number}
use Rattle.calls.specs.Requests.{Asks}
use Rattle.calls.specs.declared.request.MessageRequest.{MessageRequest}
use Rattle.calls.specs.declared.request.Request.{Request}
use Rattle.calls.specs.declared.request.Request.TheVariants as request
use Rattle.codes.specs.declared.kern_return.KernReturn.{KernReturn}
use Rattle.codes.specs.declared.kern_return.KernReturn.TheVariants.{Success, SendTimedOut, RcvTimedOut}
use Rattle.codes.specs.declared.limits.TheConstants.{MIN_FRAME_CONTENT, MAX_FRAME_CONTENT}
use Rattle.ipc_model.specs.calls.Step.{succeeded}
use Rattle.ipc_model.specs.declared.call.Call.{Call}
use Rattle.ipc_model.specs.declared.call.Call.TheVariants.{Plain}
use Rattle.ipc_model.specs.declared.plain_call.PlainCall.TheVariants as call
use Rattle.ipc_model.specs.declared.plain_reply.PlainReply.TheVariants.{Message}
use Rattle.ipc_model.specs.declared.reply.Reply.{Reply}
use Rattle.ipc_model.specs.declared.reply.Reply.TheVariants as reply
use Rattle.ipc_model.specs.encodings.Encodings.{reply_encoding}
use Rattle.store_fault.specs.declared.fault.StoreFault.{StoreFault}
use Rattle.frame_service.specs.Serving.{IsRefused, LacksMemory, confine_shortage, only_code, shortage_of}
use Rattle.frame_service.specs.declared.asking.PendingFrame.{PendingFrame}
use Rattle.frame_service.specs.declared.asking.PendingFrame.TheVariants.{Settled, Waits}
use Rattle.frame_service.specs.declared.asking.Ready.{Ready}
use Rattle.frame_service.specs.declared.asking.Ready.TheVariants.{Known, Made}
use Rattle.frame_service.specs.declared.service.ServeFault.{ServeFault}
use Rattle.frame_service.specs.declared.service.ServeFault.TheVariants.{Wire, Store}
use Rattle.wire.specs.Frame.{IsReadOf}
use Rattle.wire.specs.Writing.{AppendsPart}
use Rattle.wire.specs.declared.fault.WireFault.{WireFault}
use Rattle.wire.specs.declared.fault.WireFault.TheVariants.{Device}
use Rattle.words.specs.Words.{frame_encoding}

-- Whether a call found nothing to do: there was no message, or no room in the queue. One that is numbered never waits.
abbrev pub is_timeout : KernReturn → Bool
is_timeout SendTimedOut = true
is_timeout RcvTimedOut = true
is_timeout code = false

abbrev pub timed_out : Reply → Bool
timed_out (reply.Plain (Message code size member message)) = is_timeout code
timed_out answer = false

-- a call as it is made again after a wait
abbrev pub again : Call → Call
again (Plain (call.Receive limit large name waited)) = Plain (call.Receive limit large name true)
again c = c

-- whether a call with this bound may wait: it may if it has none, or one above 0
abbrev pub is_patient : Option ℕ → Bool
is_patient None = true
is_patient (Some zero) = false
is_patient (Some milliseconds) = true

-- the bound of the half of a mach_msg that is to be made next
abbrev pub bound_of : MessageRequest → Option ℕ
bound_of m = cond (is_some m.send) m.send_timeout m.receive_timeout

-- what is left of a mach_msg: these halves are still to be made
abbrev pub left_of : Option Call → Option Call → Option ℕ → Option ℕ → MessageRequest
left_of send receive send_timeout receive_timeout =
    record { send = send; receive = receive; send_timeout = send_timeout; receive_timeout = receive_timeout }

-- What a connection did: a frame with this content was taken in hand; the first frame in hand, which waited, was tried
-- again, with this outcome; the first frame in hand was answered; or the caller learned what others did.
pub data Act (T : Type 0) : Type 0 where
  took : List ℕ → PendingFrame T → Act T
  tried : PendingFrame T → Act T
  acknowledged : Reply → Act T
  looked : Act T

-- A caller that is asked, as it describes itself: the reply that a ticket keeps, that what was asked for was done for a
-- ticket, and that it wasn't because of a shortage of memory or of room for a record. It is asked for one call at a
-- time, or to confine its connection.
module _ {C T : Type 0} (answer : T → Reply) (makes : C → Request → T → C → Type 0) (lacks : C → Request → C → Type 0) where
  -- A call was made once, or it wasn't made, and its reply is known.
  abbrev pub AsksOne : C → Call → Ready T → C → Type 0
  AsksOne old c (Made ticket) new = makes old (request.One c) ticket new
  AsksOne old c (Known known) new = (known ≡ shortage_of c) × lacks old (request.One c) new

  -- The same of a connection that was to be confined.
  abbrev pub AsksConfine : C → Ready T → C → Type 0
  AsksConfine old (Made ticket) new = makes old request.Confine ticket new
  AsksConfine old (Known known) new = (known ≡ confine_shortage) × lacks old request.Confine new

  -- whether this is that a call was made and found nothing to do
  abbrev pub found_nothing : Ready T → Bool
  found_nothing (Made ticket) = timed_out (answer ticket)
  found_nothing (Known known) = false

  -- The same of a call that may wait if this bound lets it: then it found nothing to do, and this is left. Without a
  -- bound that is never what it comes to.
  abbrev pub Tries : C → Call → Option ℕ → MessageRequest → PendingFrame T → C → Type 0
  Tries old c bound left (Settled ready) new = AsksOne old c ready new × (bound ≡ None → found_nothing ready ≡ false)
  Tries old c bound left (Waits rest) new =
      (rest ≡ left) × (is_patient bound ≡ true)
      × ((ticket : T) × makes old (request.One c) ticket new × (timed_out (answer ticket) ≡ true))

  -- whether a send that was done is in hand
  abbrev pub is_sent : Call → PendingFrame T → Bool
  is_sent c (Settled (Made ticket)) = succeeded (answer ticket)
  is_sent c pending = false

  -- The calls of a mach_msg as far as they can be made now: a send, and after a send that was done a receive.
  abbrev pub Proceeds : C → MessageRequest → Option Call → Option Call → PendingFrame T → C → Type 0
  Proceeds old m None None pending new =
      (pending ≡ Settled (Known (only_code Success))) × (new ≡ old)
  Proceeds old m (Some send) None pending new =
      Tries old send m.send_timeout (left_of (Some (again send)) m.receive m.send_timeout m.receive_timeout) pending new
  Proceeds old m None (Some receive) pending new =
      Tries old receive m.receive_timeout
      (left_of None (Some (again receive)) m.send_timeout m.receive_timeout) pending new
  Proceeds old m (Some send) (Some receive) pending new =
      (Tries old send m.send_timeout
      (left_of (Some (again send)) m.receive m.send_timeout m.receive_timeout) pending new
      × (is_sent send pending ≡ false))
      ⊎ ((ticket : T) × (mid : C) × makes old (request.One send) ticket mid × (succeeded (answer ticket) ≡ true)
      × Tries mid receive m.receive_timeout
      (left_of None (Some (again receive)) m.send_timeout m.receive_timeout) pending new)

  -- What a frame asks for was done as far as it can be now. Only a mach_msg waits.
  abbrev pub TakesOne : C → Call → PendingFrame T → C → Type 0
  TakesOne old c (Settled ready) new = AsksOne old c ready new
  TakesOne old c (Waits rest) new = ⊥

  abbrev pub TakesConfine : C → PendingFrame T → C → Type 0
  TakesConfine old (Settled ready) new = AsksConfine old ready new
  TakesConfine old (Waits rest) new = ⊥

  abbrev pub TakesRequest : C → Request → PendingFrame T → C → Type 0
  TakesRequest old (request.One c) pending new = TakesOne old c pending new
  TakesRequest old (request.Message m) pending new = Proceeds old m m.send m.receive pending new
  TakesRequest old (request.Answered code) pending new =
      (pending ≡ Settled (Known (only_code code))) × (new ≡ old)
  TakesRequest old request.Confine pending new = TakesConfine old pending new

  -- A frame of this content was taken in hand.
  abbrev pub IsTaken : C → List ℕ → PendingFrame T → C → Type 0
  IsTaken old content pending new =
      ((asks : Request) × Asks content asks × TakesRequest old asks pending new)
      ⊎ ((known : Reply) × (pending ≡ Settled (Known known))
      × (IsRefused old content known new ⊎ LacksMemory old content known new))

  -- What came of taking the next frame of an input in hand: it was taken; the input has ended; or the frame can't be
  -- read. This of the input is left.
  abbrev pub TookNext : C → List ℕ → Result (Option (PendingFrame T)) WireFault → C → Option (List ℕ) → Type 0
  TookNext old input (Ok (Some pending)) new left =
      (content rest : List ℕ) × (input ≡ frame_encoding content ++ rest) × (left ≡ Some rest)
      × IsTaken old content pending new
  TookNext old input (Ok None) new left = IsReadOf input (Ok None) left × (new ≡ old)
  TookNext old input (Err fault) new left = IsReadOf input (Err fault) left × (new ≡ old)

-- and further: that a ticket's reply was given, and that the store failed before
module _ {C T : Type 0} (answer : T → Reply) (makes : C → Request → T → C → Type 0) (lacks : C → Request → C → Type 0)
    (acknowledges : C → T → C → Type 0) (fails : C → T → StoreFault → C → Type 0) where
  -- what waits for nothing was answered, or couldn't be
  abbrev pub IsGiven : C → Ready T → Reply → C → Type 0
  IsGiven old (Known known) said new = (said ≡ known) × (new ≡ old)
  IsGiven old (Made ticket) said new = (said ≡ answer ticket) × acknowledges old ticket new

  abbrev pub IsUngiven : C → Ready T → StoreFault → C → Type 0
  IsUngiven old (Known known) fault new = ⊥
  IsUngiven old (Made ticket) fault new = fails old ticket fault new

  -- What is in hand was answered. What waits isn't answered before it was tried again.
  abbrev pub IsAcknowledged : C → PendingFrame T → Reply → C → Type 0
  IsAcknowledged old (Settled ready) said new = IsGiven old ready said new
  IsAcknowledged old (Waits rest) said new = ⊥

  -- It couldn't be answered, since the store failed.
  abbrev pub IsUnacknowledged : C → PendingFrame T → StoreFault → C → Type 0
  IsUnacknowledged old (Settled ready) fault new = IsUngiven old ready fault new
  IsUnacknowledged old (Waits rest) fault new = ⊥

  -- What waits was tried again.
  abbrev pub IsTried : C → PendingFrame T → PendingFrame T → C → Type 0
  IsTried old (Settled ready) pending new = ⊥
  IsTried old (Waits rest) pending new = Proceeds answer makes lacks old rest rest.send rest.receive pending new

-- and further: what the caller is after it learned what others did
module _ {C T : Type 0} (answer : T → Reply) (makes : C → Request → T → C → Type 0) (lacks : C → Request → C → Type 0)
    (acknowledges : C → T → C → Type 0) (fails : C → T → StoreFault → C → Type 0) (looks : C → C → Type 0) where
  -- Frames are answered in the order in which they were taken. `all_pending` were in hand at the beginning, and `left`
  -- are at the end.
  abbrev pub Acted : C → List (PendingFrame T) → List (Act T) → List (PendingFrame T) → C → Type 0
  Acted old all_pending [] left new = (left ≡ all_pending) × (new ≡ old)
  Acted old all_pending (took content pending ∷ acts) left new =
      (mid : C) × IsTaken answer makes lacks old content pending mid
      × Acted mid (all_pending ++ pending ∷ []) acts left new
  Acted old [] (tried pending ∷ acts) left new = ⊥
  Acted old (waiting ∷ all_pending) (tried pending ∷ acts) left new =
      (mid : C) × IsTried answer makes lacks acknowledges fails old waiting pending mid
      × Acted mid (pending ∷ all_pending) acts left new
  Acted old [] (acknowledged reply ∷ acts) left new = ⊥
  Acted old (pending ∷ all_pending) (acknowledged reply ∷ acts) left new =
      (mid : C) × IsAcknowledged answer makes lacks acknowledges fails old pending reply mid
      × Acted mid all_pending acts left new
  Acted old all_pending (looked ∷ acts) left new = (mid : C) × looks old mid × Acted mid all_pending acts left new

-- the frames that were taken, as they were read, and the replies that were given, as they are written
abbrev pub frames_of : {T : Type 0} → List (Act T) → List ℕ
frames_of [] = []
frames_of (took content pending ∷ acts) = frame_encoding content ++ frames_of acts
frames_of (tried pending ∷ acts) = frames_of acts
frames_of (acknowledged reply ∷ acts) = frames_of acts
frames_of (looked ∷ acts) = frames_of acts

abbrev pub replies_of : {T : Type 0} → List (Act T) → List ℕ
replies_of [] = []
replies_of (took content pending ∷ acts) = replies_of acts
replies_of (tried pending ∷ acts) = replies_of acts
replies_of (acknowledged reply ∷ acts) = frame_encoding (reply_encoding reply) ++ replies_of acts
replies_of (looked ∷ acts) = replies_of acts

-- how many frames were taken
abbrev pub frame_count : {T : Type 0} → List (Act T) → ℕ
frame_count [] = 0
frame_count (took content pending ∷ acts) = 1 + frame_count acts
frame_count (tried pending ∷ acts) = frame_count acts
frame_count (acknowledged reply ∷ acts) = frame_count acts
frame_count (looked ∷ acts) = frame_count acts

-- what is left of an input in which reading stopped: all of it, or what a frame that can't be read leaves
abbrev pub IsLeft : List ℕ → Option (List ℕ) → Type 0
IsLeft rest left = (left ≡ Some rest) ⊎ ((fault : WireFault) × IsReadOf rest (Err fault) left)

module _ {C T : Type 0} (answer : T → Reply) (makes : C → Request → T → C → Type 0) (lacks : C → Request → C → Type 0)
    (acknowledges : C → T → C → Type 0) (fails : C → T → StoreFault → C → Type 0) (looks : C → C → Type 0) where
  -- So far: this rest of the input isn't taken, and what was sent is what was sent before and then the replies.
  pub record Went (old : C) (all_pending : List (PendingFrame T)) (now : C) (input before rest sent : List ℕ)
      (left : List (PendingFrame T)) : Type 0 where
    pub acts : List (Act T)
    pub acted : Acted answer makes lacks acknowledges fails looks old all_pending acts left now
    pub read : input ≡ frames_of acts ++ rest
    pub acknowledged_is : sent ≡ before ++ replies_of acts

  -- Where the input stands of which this rest isn't taken and this is unread: nothing is known of its end; it has ended;
  -- or the next frame can't be read.
  abbrev pub StandsAt : Option (Result (Unit {0}) WireFault) → List ℕ → List ℕ → Type 0
  StandsAt None rest unread = unread ≡ rest
  StandsAt (Some (Ok done)) rest unread = (rest ≡ []) × (unread ≡ [])
  StandsAt (Some (Err fault)) rest unread = IsReadOf rest (Err fault) (Some unread)

  -- A conversation that began with this caller, before this input and after this output, has come so far: it has these
  -- frames in hand, the input stands there, and this of it is left, and this is written.
  pub record GoesOn (start : C) (input before : List ℕ) (now : C) (all_pending : List (PendingFrame T))
      (input_end : Option (Result (Unit {0}) WireFault)) (left written : Option (List ℕ)) : Type 0 where
    pub rest : List ℕ
    pub unread : List ℕ
    pub sent : List ℕ
    pub went : Went start [] now input before rest sent all_pending
    pub stands : StandsAt input_end rest unread
    pub left_is : left ≡ Some unread
    pub written_is : written ≡ Some sent

  -- How a conversation ends, by where it does.
  module _ (start : C) (input before : List ℕ) (new : C) (left written : Option (List ℕ)) where
    -- All of the input was taken and answered.
    pub record AcknowledgesAll : Type 0 where
      pub sent : List ℕ
      pub went : Went start [] new input before [] sent []
      pub all : left ≡ Some []
      pub written_is : written ≡ Some sent

    -- A frame can't be read. What was taken before is answered, and nothing is called or written for what stands there.
    pub record StopsReading (fault : WireFault) : Type 0 where
      pub rest : List ℕ
      pub sent : List ℕ
      pub went : Went start [] new input before rest sent []
      pub unreadable : IsReadOf rest (Err fault) left
      pub written_is : written ≡ Some sent

    -- The store fails before the first frame in hand is answered; nothing is written for it, and nothing more is read.
    pub record StopsAcknowledging (fault : StoreFault) : Type 0 where
      pub mid : C
      pub rest : List ℕ
      pub sent : List ℕ
      pub pending : PendingFrame T
      pub all_pending : List (PendingFrame T)
      pub went : Went start [] mid input before rest sent (pending ∷ all_pending)
      pub unacknowledged : IsUnacknowledged answer makes lacks acknowledges fails mid pending fault new
      pub unread : IsLeft rest left
      pub written_is : written ≡ Some sent

    -- the writer fails in the last reply, of which a prefix is written
    pub record StopsWriting (fault : WireFault) : Type 0 where
      pub fault_is : fault ≡ Device
      pub mid : C
      pub rest : List ℕ
      pub sent : List ℕ
      pub pending : PendingFrame T
      pub all_pending : List (PendingFrame T)
      pub went : Went start [] mid input before rest sent (pending ∷ all_pending)
      pub reply : Reply
      pub is_acknowledged : IsAcknowledged answer makes lacks acknowledges fails mid pending reply new
      pub unread : IsLeft rest left
      pub part : AppendsPart (Some sent) written (frame_encoding (reply_encoding reply))

    -- the replies that were given are written, and can't be flushed
    pub record StopsFlushing (fault : WireFault) : Type 0 where
      pub fault_is : fault ≡ Device
      pub rest : List ℕ
      pub sent : List ℕ
      pub all_pending : List (PendingFrame T)
      pub went : Went start [] new input before rest sent all_pending
      pub unread : IsLeft rest left
      pub written_is : written ≡ Some sent

    abbrev pub EndsAsked : Result (Unit {0}) ServeFault → Type 0
    EndsAsked (Ok done) = AcknowledgesAll
    EndsAsked (Err (Wire fault)) = StopsReading fault ⊎ (StopsWriting fault ⊎ StopsFlushing fault)
    EndsAsked (Err (Store fault)) = StopsAcknowledging fault

  -- Frames were taken in hand, as many as were there: whether there may be more, or the next one can't be read.
  abbrev pub IsRead : List ℕ → Option (List ℕ) → Result Bool WireFault → Type 0
  IsRead rest left (Ok true) = left ≡ Some rest
  IsRead rest left (Ok false) = (rest ≡ []) × (left ≡ Some [])
  IsRead rest left (Err fault) = IsReadOf rest (Err fault) left

  abbrev pub IsSome : ℕ → Result Bool WireFault → Type 0
  IsSome count (Ok true) = 1 ≤ count
  IsSome count result = ⊤

  pub record TookFrames (old new : C) (all_pending : List (PendingFrame T)) (input : List ℕ) (left : Option (List ℕ))
      (result : Result Bool WireFault) : Type 0 where
    pub acts : List (Act T)
    pub rest : List ℕ
    pub acted : Acted answer makes lacks acknowledges fails looks old [] acts all_pending new
    pub read : input ≡ frames_of acts ++ rest
    pub silent : replies_of acts ≡ []
    pub some : IsSome (frame_count acts) result
    pub is_read : IsRead rest left result

-- whether the bytes at the front are a whole frame, or a length that no frame has
abbrev pub holds_frame : List ℕ → Bool
holds_frame bytes =
    nat_le 4 (length bytes)
    && (nat_lt (little_number 4 bytes) MIN_FRAME_CONTENT ||
    (nat_lt MAX_FRAME_CONTENT (little_number 4 bytes) || nat_le (little_number 4 bytes) (length (drop 4 bytes))))
