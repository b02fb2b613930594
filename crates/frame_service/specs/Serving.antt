-- What a caller may answer, and what is written for what is read.
use Rattle.std.specs.Prelude.{◌≡◌, ◌⊎◌, ℕ, ◌-◌, ◌^◌, true, List, [], ◌∷◌, ◌++◌, length, Option, None, Some, Result, Ok, Err, MatchBool}
use Rattle.byteorder.specs.Endian.{little_number}
use Rattle.calls.specs.Requests.{Asks, IsNumberedSend, IsSend}
use Rattle.calls.specs.declared.request.Request.{Request}
use Rattle.calls.specs.declared.request.Request.TheVariants as request
use Rattle.codes.specs.declared.call_number.TheConstants.{CONFINE, MACH_MSG, NUMBERED}
use Rattle.codes.specs.declared.kern_return.KernReturn.{KernReturn}
use Rattle.codes.specs.declared.kern_return.KernReturn.TheVariants.{Success, InvalidArgument, ResourceShortage, SendNoBuffer, RcvHeaderErrorKernel}
use Rattle.codes.specs.declared.name.TheConstants.{MACH_PORT_NULL}
use Rattle.ipc_model.specs.declared.call.Call.{Call}
use Rattle.ipc_model.specs.declared.call.Call.TheVariants.{Plain, Numbered, Unnumberable}
use Rattle.ipc_model.specs.declared.plain_call.PlainCall.{PlainCall}
use Rattle.ipc_model.specs.declared.plain_call.PlainCall.TheVariants as call
use Rattle.ipc_model.specs.declared.plain_reply.PlainReply.{PlainReply}
use Rattle.ipc_model.specs.declared.plain_reply.PlainReply.TheVariants.{Refused}
use Rattle.ipc_model.specs.declared.reply.Reply.{Reply}
use Rattle.ipc_model.specs.declared.reply.Reply.TheVariants as reply
use Rattle.ipc_model.specs.messages.Receiving.{without_message}
use Rattle.ipc_model.specs.calls.Refusals.{refused_of}
use Rattle.ipc_model.specs.state.State.{State}
use Rattle.ipc_model.specs.calls.PlainStep as plain
use Rattle.ipc_model.specs.calls.Step.{Step, succeeded}
use Rattle.ipc_model.specs.encodings.Encodings.{reply_encoding}
use Rattle.store_fault.specs.declared.fault.StoreFault.{StoreFault}
use Rattle.frame_service.specs.declared.service.ServeFault.{ServeFault}
use Rattle.frame_service.specs.declared.service.ServeFault.TheVariants.{Wire, Store}
use Rattle.wire.specs.Frame.{IsReadOf}
use Rattle.wire.specs.Writing.{AppendsPart}
use Rattle.wire.specs.declared.fault.WireFault.{WireFault}
use Rattle.wire.specs.declared.fault.WireFault.TheVariants.{Device, NoMemory}
use Rattle.words.specs.Words.{word, frame_encoding}

-- the answer of mach_msg that has only a code
abbrev pub only_code : KernReturn → Reply
only_code code = reply.Plain (without_message code 0 MACH_PORT_NULL)

-- how a call is refused where memory, or room for its record, runs out
abbrev pub plain_shortage_of : PlainCall → PlainReply
plain_shortage_of (call.Send message) = without_message SendNoBuffer 0 MACH_PORT_NULL
plain_shortage_of (call.Receive limit large name waited) = without_message RcvHeaderErrorKernel 0 MACH_PORT_NULL
plain_shortage_of c = Refused (plain.number_of_call c) ResourceShortage

abbrev pub shortage_of : Call → Reply
shortage_of (Plain c) = reply.Plain (plain_shortage_of c)
shortage_of (Numbered numbered) = reply.Plain (Refused NUMBERED ResourceShortage)
shortage_of Unnumberable = reply.Plain (Refused NUMBERED ResourceShortage)

-- and where a connection was to be confined
abbrev pub confine_shortage : Reply
confine_shortage = refused_of CONFINE ResourceShortage

-- a step of the machine, or, where memory or room for a record runs out, nothing but that refusal
abbrev pub StepOrShortage : State → ℕ → Call → Reply → State → Type 0
StepOrShortage old space c answer new =
    Step old space c answer new ⊎ ((answer ≡ shortage_of c) × (new ≡ old))

-- A send, and a receive if the send's code is 0: two calls, of which the last that was made is answered.
abbrev pub AnswersBoth : {C : Type 0} → (C → Request → Reply → C → Type 0) → C → Call → Call → Reply → C → Type 0
AnswersBoth {C} answers old send receive answer new =
    (sent : Reply) × (mid : C) × answers old (request.One send) sent mid
    × MatchBool (succeeded sent) (answers mid (request.One receive) answer new) ((answer ≡ sent) × (new ≡ mid))

-- a mach_msg that asks for a send, a receive, both or neither got this answer
abbrev pub AnswersMessage : {C : Type 0} → (C → Request → Reply → C → Type 0) → C → Option Call → Option Call → Reply → C
    → Type 0
AnswersMessage answers old None None answer new = (answer ≡ only_code Success) × (new ≡ old)
AnswersMessage answers old (Some send) None answer new = answers old (request.One send) answer new
AnswersMessage answers old None (Some receive) answer new = answers old (request.One receive) answer new
AnswersMessage answers old (Some send) (Some receive) answer new = AnswersBoth answers old send receive answer new

-- what a frame asks for got this answer
abbrev pub AnswersRequest : {C : Type 0} → (C → Request → Reply → C → Type 0) → C → Request → Reply → C → Type 0
AnswersRequest answers old (request.One c) answer new = answers old (request.One c) answer new
AnswersRequest answers old (request.Message m) answer new = AnswersMessage answers old m.send m.receive answer new
AnswersRequest answers old (request.Answered code) answer new =
    (answer ≡ only_code code) × (new ≡ old)
AnswersRequest answers old request.Confine answer new = answers old request.Confine answer new

-- a frame whose content asks for something got this answer
abbrev pub IsServed : {C : Type 0} → (C → Request → Reply → C → Type 0) → C → List ℕ → Reply → C → Type 0
IsServed answers old content answer new =
    (asks : Request) × Asks content asks × AnswersRequest answers old asks answer new

-- a frame whose content asks for nothing gets this answer, and nothing changes
abbrev pub IsRefused : {C : Type 0} → C → List ℕ → Reply → C → Type 0
IsRefused old content answer new =
    ((asks : Request) → Asks content asks → ⊥) × (answer ≡ refused_of (little_number 4 content) InvalidArgument)
    × (new ≡ old)

-- the answer to a send, which may be numbered, for whose message there is no memory
abbrev pub IsLacking : List ℕ → Reply → Type 0
IsLacking content answer =
    (((arguments : List ℕ) × (content ≡ word MACH_MSG ++ arguments) × IsSend arguments)
    × (answer ≡ only_code SendNoBuffer))
    ⊎ (IsNumberedSend content × (answer ≡ refused_of NUMBERED ResourceShortage))

-- it gets this answer, and nothing changes
abbrev pub LacksMemory : {C : Type 0} → C → List ℕ → Reply → C → Type 0
LacksMemory old content answer new = IsLacking content answer × (new ≡ old)

-- A frame with this content got this answer.
abbrev pub IsAnswered : {C : Type 0} → (C → Request → Reply → C → Type 0) → C → List ℕ → Reply → C → Type 0
IsAnswered answers old content answer new =
    IsServed answers old content answer new ⊎ (IsRefused old content answer new ⊎ LacksMemory old content answer new)

-- frames' contents with their replies
abbrev pub Exchanges : Type 0
Exchanges = List (List ℕ × Reply)

-- the caller answered these, one after another, and was given time after each
abbrev pub Answers : {C : Type 0} → (C → Request → Reply → C → Type 0) → (C → C → Type 0) → C → Exchanges → C → Type 0
Answers answers rests old [] new = new ≡ old
Answers {C} answers rests old (exchange ∷ exchanges) new =
    (mid later : C) × IsAnswered answers old exchange.0 exchange.1 mid × rests mid later
    × Answers answers rests later exchanges new

-- the frames as they were read, and the replies as they are written
abbrev pub requests_encoding : Exchanges → List ℕ
requests_encoding [] = []
requests_encoding (exchange ∷ exchanges) = frame_encoding exchange.0 ++ requests_encoding exchanges

abbrev pub replies_encoding : Exchanges → List ℕ
replies_encoding [] = []
replies_encoding (exchange ∷ exchanges) = frame_encoding (reply_encoding exchange.1) ++ replies_encoding exchanges

-- All of the input was served: it is the frames of these exchanges, nothing of it is left, and their replies were
-- written after what was written before.
pub record ServesAll {C : Type 0} (answers : C → Request → Reply → C → Type 0) (rests : C → C → Type 0) (old new : C)
    (input before : List ℕ) (left written : Option (List ℕ)) : Type 0 where
  pub exchanges : Exchanges
  pub calls : Answers answers rests old exchanges new
  pub read : input ≡ requests_encoding exchanges
  pub all : left ≡ Some []
  pub replies : written ≡ Some (before ++ replies_encoding exchanges)

-- How the calls that a frame asks for fail in the store: one of them did. The receive of a mach_msg is called only
-- after a send whose code is 0.
abbrev pub FailsBoth : {C : Type 0} → (C → Request → Reply → C → Type 0) → (C → Request → StoreFault → C → Type 0) → C → Call
    → Call → StoreFault → C → Type 0
FailsBoth {C} answers fails old send receive fault new =
    fails old (request.One send) fault new
    ⊎ ((sent : Reply) × (mid : C) × answers old (request.One send) sent mid × (succeeded sent ≡ true)
    × fails mid (request.One receive) fault new)

abbrev pub FailsMessage : {C : Type 0} → (C → Request → Reply → C → Type 0) → (C → Request → StoreFault → C → Type 0) → C
    → Option Call → Option Call → StoreFault → C → Type 0
FailsMessage answers fails old None None fault new = ⊥
FailsMessage answers fails old (Some send) None fault new = fails old (request.One send) fault new
FailsMessage answers fails old None (Some receive) fault new = fails old (request.One receive) fault new
FailsMessage answers fails old (Some send) (Some receive) fault new = FailsBoth answers fails old send receive fault new

abbrev pub FailsRequest : {C : Type 0} → (C → Request → Reply → C → Type 0) → (C → Request → StoreFault → C → Type 0) → C
    → Request → StoreFault → C → Type 0
FailsRequest answers fails old (request.One c) fault new = fails old (request.One c) fault new
FailsRequest answers fails old (request.Message m) fault new = FailsMessage answers fails old m.send m.receive fault new
FailsRequest answers fails old (request.Answered code) fault new = ⊥
FailsRequest answers fails old request.Confine fault new = fails old request.Confine fault new

-- what a frame's content asks for failed in the store with this fault
abbrev pub IsFailed : {C : Type 0} → (C → Request → Reply → C → Type 0) → (C → Request → StoreFault → C → Type 0) → C → List ℕ
    → StoreFault → C → Type 0
IsFailed answers fails old content fault new =
    (asks : Request) × Asks content asks × FailsRequest answers fails old asks fault new

-- Some of the input was served: the frames of these exchanges stood at its front, followed by the rest, and what was
-- written before and their replies is all that is sent.
pub record Exchanged {C : Type 0} (answers : C → Request → Reply → C → Type 0) (rests : C → C → Type 0) (old now : C)
    (input before rest sent : List ℕ) : Type 0 where
  pub exchanges : Exchanges
  pub calls : Answers answers rests old exchanges now
  pub read : input ≡ requests_encoding exchanges ++ rest
  pub replies : sent ≡ before ++ replies_encoding exchanges

-- A connection that ends with a fault, by where it ends.
module _ {C : Type 0} (answers : C → Request → Reply → C → Type 0) (fails : C → Request → StoreFault → C → Type 0)
    (rests : C → C → Type 0) (breaks : C → StoreFault → C → Type 0) (old new : C) (input before : List ℕ)
    (left written : Option (List ℕ)) where
  -- there is no memory for the replies before anything is read
  pub record NeverBegins (fault : WireFault) : Type 0 where
    pub fault_is : fault ≡ NoMemory
    pub same : new ≡ old
    pub unread : left ≡ Some input
    pub unwritten : written ≡ Some before

  -- after some exchanges no frame can be read; nothing is called or written for what stands there
  pub record StopsReading (fault : WireFault) : Type 0 where
    pub rest : List ℕ
    pub sent : List ℕ
    pub exchanged : Exchanged answers rests old new input before rest sent
    pub unreadable : IsReadOf rest (Err fault) left
    pub written_is : written ≡ Some sent

  -- after some exchanges a frame is read whose calls fail in the store; nothing is written for it, and nothing after it
  -- is read
  pub record StopsCalling (fault : StoreFault) : Type 0 where
    pub mid : C
    pub rest : List ℕ
    pub sent : List ℕ
    pub exchanged : Exchanged answers rests old mid input before rest sent
    pub content : List ℕ
    pub beyond : List ℕ
    pub frame : rest ≡ frame_encoding content ++ beyond
    pub unread : left ≡ Some beyond
    pub failed : IsFailed answers fails mid content fault new
    pub written_is : written ≡ Some sent

  -- the writer fails in the last reply, of which a prefix is written, or all of it, and it can't be flushed; nothing
  -- after its frame is read
  pub record StopsWriting (fault : WireFault) : Type 0 where
    pub fault_is : fault ≡ Device
    pub mid : C
    pub rest : List ℕ
    pub sent : List ℕ
    pub exchanged : Exchanged answers rests old mid input before rest sent
    pub content : List ℕ
    pub beyond : List ℕ
    pub frame : rest ≡ frame_encoding content ++ beyond
    pub unread : left ≡ Some beyond
    pub answer : Reply
    pub answered : IsAnswered answers mid content answer new
    pub part : AppendsPart (Some sent) written (frame_encoding (reply_encoding answer))

  -- The caller fails in the store in the time after a reply, which was written whole; nothing after its frame is read,
  -- and nothing more is written.
  pub record StopsResting (fault : StoreFault) : Type 0 where
    pub mid : C
    pub rest : List ℕ
    pub sent : List ℕ
    pub exchanged : Exchanged answers rests old mid input before rest sent
    pub content : List ℕ
    pub beyond : List ℕ
    pub frame : rest ≡ frame_encoding content ++ beyond
    pub unread : left ≡ Some beyond
    pub answer : Reply
    pub after : C
    pub answered : IsAnswered answers mid content answer after
    pub broken : breaks after fault new
    pub written_is : written ≡ Some (sent ++ frame_encoding (reply_encoding answer))

  -- as many frames were served as a connection serves at most
  pub record StopsAtMost (fault : WireFault) : Type 0 where
    pub fault_is : fault ≡ Device
    pub rest : List ℕ
    pub sent : List ℕ
    pub exchanged : Exchanged answers rests old new input before rest sent
    pub most : length exchanged.exchanges ≡ 2 ^ 64 - 1
    pub unread : left ≡ Some rest
    pub written_is : written ≡ Some sent

  -- How a connection ended.
  abbrev pub Ends : Result (Unit {0}) ServeFault → Type 0
  Ends (Ok done) = ServesAll answers rests old new input before left written
  Ends (Err (Wire fault)) = NeverBegins fault ⊎ (StopsReading fault ⊎ (StopsWriting fault ⊎ StopsAtMost fault))
  Ends (Err (Store fault)) = StopsCalling fault ⊎ StopsResting fault
