-- The post-crash contents while a single connection is served: they stand for the state after a prefix of the records
-- that its calls made, and nothing that was answered is missing.
use Rattle.std.specs.Prelude.{◌≡◌, ◌⊎◌, ℕ, ◌≤◌, List, [], ◌∷◌, ◌++◌, length, take, Option, None, Some, MatchBool}
use Rattle.calls.specs.Requests.{Asks}
use Rattle.calls.specs.declared.request.Request.{Request}
use Rattle.calls.specs.declared.request.Request.TheVariants as request
use Rattle.codes.specs.declared.kern_return.KernReturn.TheVariants.{Success}
use Rattle.disk.specs.Moments.{View, LeftSince}
use Rattle.disk.specs.Slots.{Slots}
use Rattle.ipc_model.specs.calls.Step.{Run, succeeded}
use Rattle.ipc_model.specs.declared.call.Call.{Call}
use Rattle.ipc_model.specs.declared.reply.Reply.{Reply}
use Rattle.ipc_model.specs.declared.record.Record.{Record}
use Rattle.ipc_model.specs.state.State.{State}
use Rattle.store_fault.specs.declared.fault.StoreFault.{StoreFault}
use Rattle.ipc_model.specs.world.World.{record_of}
use Rattle.store_layout.specs.Gates.{StandForState}
use Rattle.server.specs.Keeping.{AloneValue, AnswersAsked, BreaksKept, FailsAsked, IsHeld, RestsKept}
use Rattle.frame_service.specs.Serving.{Answers, Exchanges, IsAnswered, IsFailed, IsRefused, LacksMemory, only_code}

-- the records that the calls of frames made, in order
module _ {D : Type 0} (answers : AloneValue D → Request → Reply → AloneValue D → Type 0) where
  abbrev pub MakesOne : AloneValue D → Call → Reply → AloneValue D → List Record → Type 0
  MakesOne old c answer new records =
      answers old (request.One c) answer new × (records ≡ record_of old.space c answer)

  abbrev pub MakesBoth : AloneValue D → Call → Call → Reply → AloneValue D → List Record → Type 0
  MakesBoth old send receive answer new records =
      (sent : Reply) × (mid : AloneValue D) × answers old (request.One send) sent mid
      × MatchBool (succeeded sent)
      (answers mid (request.One receive) answer new
      × (records ≡ record_of old.space send sent ++ record_of mid.space receive answer))
      ((answer ≡ sent) × (new ≡ mid) × (records ≡ record_of old.space send sent))

  abbrev pub MakesMessage : AloneValue D → Option Call → Option Call → Reply → AloneValue D → List Record → Type 0
  MakesMessage old None None answer new records =
      (answer ≡ only_code Success) × (new ≡ old) × (records ≡ [])
  MakesMessage old (Some send) None answer new records = MakesOne old send answer new records
  MakesMessage old None (Some receive) answer new records = MakesOne old receive answer new records
  MakesMessage old (Some send) (Some receive) answer new records = MakesBoth old send receive answer new records

  abbrev pub MakesRequest : AloneValue D → Request → Reply → AloneValue D → List Record → Type 0
  MakesRequest old (request.One c) answer new records = MakesOne old c answer new records
  MakesRequest old (request.Message m) answer new records = MakesMessage old m.send m.receive answer new records
  MakesRequest old (request.Answered code) answer new records =
      (answer ≡ only_code code) × (new ≡ old) × (records ≡ [])
  MakesRequest old request.Confine answer new records = answers old request.Confine answer new × (records ≡ [])

  abbrev pub Makes : AloneValue D → List ℕ → Reply → AloneValue D → List Record → Type 0
  Makes old content answer new records =
      ((asks : Request) × Asks content asks × MakesRequest old asks answer new records)
      ⊎ ((IsRefused old content answer new ⊎ LacksMemory old content answer new) × (records ≡ []))

  -- the same for frames one after another; the time after a frame makes no record
  abbrev pub MakesAll : (AloneValue D → AloneValue D → Type 0) → AloneValue D → Exchanges → AloneValue D → List Record
      → Type 0
  MakesAll rests old [] new records = (new ≡ old) × (records ≡ [])
  MakesAll rests old (exchange ∷ exchanges) new records =
      (mid later : AloneValue D) × (first rest : List Record) × Makes old exchange.0 exchange.1 mid first
      × rests mid later × MakesAll rests later exchanges new rest
      × (records ≡ first ++ rest)

-- slots that stand for the state after the first ones of these records, which follow a state
pub record StandsWithin (old : State) (records : List Record) (c : Slots) : Type 0 where
  pub first : ℕ
  pub within : first ≤ length records
  pub state : State
  pub run : Run old (take first records) state
  pub stands : StandForState state c

-- the calls that a request asks for
abbrev pub given : Option Call → List Call
given None = []
given (Some c) = c ∷ []

abbrev pub calls_of : Request → List Call
calls_of (request.One c) = c ∷ []
calls_of (request.Message m) = given m.send ++ given m.receive
calls_of (request.Answered code) = []
calls_of request.Confine = []

-- each of these records is of one of these calls
abbrev pub IsAmong : Call → List Call → Type 0
IsAmong c [] = ⊥
IsAmong c (d ∷ calls) = (c ≡ d) ⊎ IsAmong c calls

abbrev pub AreOf : List Call → List Record → Type 0
AreOf calls [] = Unit {0}
AreOf calls (entry ∷ records) = IsAmong entry.call calls × AreOf calls records

-- Frames that were answered, with the time after each: a crash now leaves the state after all the records that their
-- calls made, and a crash at any moment since the first frame leaves the state after a prefix of these.
pub record IsStoredWhole {D : Type 0} (honest : Type 0) (view : D → View) (old : AloneValue D) (exchanges : Exchanges)
    (new : AloneValue D) : Type 0 where
  pub records : List Record
  pub made : MakesAll (AnswersAsked honest view) (RestsKept honest view) old exchanges new records
  pub held : IsHeld (view new.store.disk) new.kernel
  pub any_moment : (c : Slots) → LeftSince (view new.store.disk) (view old.store.disk).moment c
      → StandsWithin old.kernel records c

abbrev pub AnsweredIsStored : {D : Type 0} → Type 0 → (D → View) → Type 0
AnsweredIsStored {D} honest view =
    (old : AloneValue D) (exchanges : Exchanges) (new : AloneValue D) → honest → IsHeld (view old.store.disk) old.kernel
    → Answers (AnswersAsked honest view) (RestsKept honest view) old exchanges new
    → IsStoredWhole honest view old exchanges new

-- One frame that was answered, before any time is given: the last one of a connection whose reply couldn't be written,
-- or whose caller failed after it.
pub record IsStoredFrame {D : Type 0} (honest : Type 0) (view : D → View) (old : AloneValue D) (content : List ℕ)
    (answer : Reply) (new : AloneValue D) : Type 0 where
  pub records : List Record
  pub made : Makes (AnswersAsked honest view) old content answer new records
  pub held : IsHeld (view new.store.disk) new.kernel
  pub any_moment : (c : Slots) → LeftSince (view new.store.disk) (view old.store.disk).moment c
      → StandsWithin old.kernel records c

abbrev pub FrameIsStored : {D : Type 0} → Type 0 → (D → View) → Type 0
FrameIsStored {D} honest view =
    (old : AloneValue D) (content : List ℕ) (answer : Reply) (new : AloneValue D) → honest
    → IsHeld (view old.store.disk) old.kernel
    → IsAnswered (AnswersAsked honest view) old content answer new → IsStoredFrame honest view old content answer new

-- A frame whose calls failed in the store: a crash at any moment since it began leaves the state after some records,
-- maybe none, each of which is of one of its calls.
abbrev pub FailureLosesNothing : {D : Type 0} → Type 0 → (D → View) → Type 0
FailureLosesNothing {D} honest view =
    (old : AloneValue D) (content : List ℕ) (fault : StoreFault) (new : AloneValue D) → honest
    → IsHeld (view old.store.disk) old.kernel
    → IsFailed (AnswersAsked honest view) (FailsAsked honest view) old content fault new → (c : Slots)
    → LeftSince (view new.store.disk) (view old.store.disk).moment c
    → (asks : Request) × Asks content asks
    × ((records : List Record) × AreOf (calls_of asks) records × StandsWithin old.kernel records c)

-- Time after a reply that ended with a fault of the store: a crash at any moment since it began leaves the state as it
-- was.
abbrev pub BreakingLosesNothing : {D : Type 0} → Type 0 → (D → View) → Type 0
BreakingLosesNothing {D} honest view =
    (old : AloneValue D) (fault : StoreFault) (new : AloneValue D) → honest → IsHeld (view old.store.disk) old.kernel
    → BreaksKept honest view old fault new → (c : Slots)
    → LeftSince (view new.store.disk) (view old.store.disk).moment c → StandForState old.kernel c
