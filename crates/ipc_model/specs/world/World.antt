-- The core as a list of events with their outcomes: which event is possible, what it may answer, and which calls were
-- applied, stored and acknowledged.
use Rattle.std.specs.Prelude.{◌≡◌, ◌⊎◌, ℕ, zero, suc, ◌+◌, ◌-◌, ◌/◌, ◌^◌, ◌<◌, ◌≤◌, max, Bool, true, false, ◌&&◌, nat_lt, List, [], ◌∷◌, ◌++◌, length, Option, None, Some, slice_get, if◌then◌else◌}
use Rattle.codes.specs.declared.limits.TheConstants.{MAX_RECORDS}
use Rattle.ipc_model.specs.declared.call.Call.{Call}
use Rattle.ipc_model.specs.declared.reply.Reply.{Reply}
use Rattle.ipc_model.specs.declared.record.Record.{Record}
use Rattle.ipc_model.specs.encodings.Images.{image_encoding}
use Rattle.ipc_model.specs.state.State.{State}
use Rattle.ipc_model.specs.store.Faults as fault
use Rattle.ipc_model.specs.store.Faults.{StoreFault}
use Rattle.ipc_model.specs.calls.Step.{Step, Steps, has_record}

-- What can happen: a call is submitted; records are taken as a batch and appended, and their receipt is handed in; a
-- ticket's reply is requested; and the steps of a checkpoint, which take the core to the next epoch.
pub data Event : Type 0 where
  submit : (space : ℕ) → Call → Event
  take_batch : Event
  append : Event
  durable : Event
  ask_reply : (ticket : ℕ) → Event
  cut : Event
  roll_close : Event
  roll_head : Event
  roll_open : Event
  image_close : Event
  piece : Event
  finish : Event

-- What an event answered: a ticket, which keeps the call's reply; a reply; done; or why it wasn't done: it isn't
-- possible now, the epoch log takes no more records, the core is out of memory, or the store has a fault.
pub data Outcome : Type 0 where
  given : Reply → Outcome
  replied : Reply → Outcome
  done : Outcome
  not_now : Outcome
  epoch_full : Outcome
  no_memory : Outcome
  store : StoreFault → Outcome

-- a ticket: the reply that it keeps, how many records this saw, and whether it was given
pub record Ticket : Type 0 where
  pub answer : Reply
  pub seen : ℕ
  pub answered : Bool

-- a batch that is out: its epoch, how many records it has, and whether it was appended
pub record Batch : Type 0 where
  pub epoch : ℕ
  pub size : ℕ
  pub appended : Bool

-- a receipt that is out: of an append of this many records, or of a finished image
pub data Receipt : Type 0 where
  of_append : ℕ → Receipt
  of_finish : Receipt

-- A checkpoint under way: how many of the three steps of rotating are done, how many steps of the image (its slot is
-- closed, and then its pieces are written), how many pieces its encoding has, and whether it is finished.
pub record Checkpoint : Type 0 where
  pub rolled : ℕ
  pub imaged : ℕ
  pub pieces : ℕ
  pub finished : Bool

-- The result of the events so far. Records are counted from the opening of the store on.
pub record World : Type 0 where
  pub epoch : ℕ
  -- how many records of this epoch's log the opening read
  pub opened : ℕ
  pub applied : List Record
  -- how many records were applied in epochs before this one
  pub earlier : ℕ
  pub tickets : List Ticket
  pub taken : ℕ
  pub batch : Option Batch
  pub stored : ℕ
  pub receipts : List Receipt
  -- how many records are stored whose receipt was handed in
  pub handed : ℕ
  pub checkpoint : Option Checkpoint
  -- whether the store's device failed
  pub failed : Bool

-- At first nothing was applied, and the epoch log holds what the opening read.
abbrev pub first_world : ℕ → ℕ → World
first_world epoch opened = record {
  epoch = epoch;
  opened = opened;
  applied = [];
  earlier = 0;
  tickets = [];
  taken = 0;
  batch = None;
  stored = 0;
  receipts = [];
  handed = 0;
  checkpoint = None;
  failed = false;
}

-- How many records were acknowledged: those that are stored or, where that is more, those that a ticket saw whose reply
-- was given.
abbrev pub greatest_seen : List Ticket → ℕ
greatest_seen [] = 0
greatest_seen (ticket ∷ tickets) =
    if ticket.answered then max ticket.seen (greatest_seen tickets) else greatest_seen tickets

abbrev pub acknowledged : World → ℕ
acknowledged world = max world.stored (greatest_seen world.tickets)

-- how many records the log of this epoch has: those that the opening read, and those applied since it began
abbrev pub log_length : World → ℕ
log_length world = world.opened + (length world.applied - world.earlier)

abbrev pub IsLogFull : World → Type 0
IsLogFull world = MAX_RECORDS ≤ log_length world

-- how many bytes a piece of an image has
abbrev pub piece_length : ℕ
piece_length = 4096

-- how many pieces an encoding has
abbrev pub pieces_of : List ℕ → ℕ
pieces_of encoding = (length encoding + (piece_length - 1)) / piece_length

-- the next batch takes the records of one epoch that are not yet taken, the older epoch's first
abbrev pub is_after : World → Bool
is_after world = nat_lt world.taken world.earlier

abbrev pub next_batch : World → Batch
next_batch world =
    if is_after world then record { epoch = world.epoch - 1; size = world.earlier - world.taken; appended = false }
    else record { epoch = world.epoch; size = length world.applied - world.taken; appended = false }

-- whether a segment takes batches: an older epoch's does, and this epoch's does unless a checkpoint hasn't rotated to
-- it yet
abbrev pub IsSegmentOpen : World → ℕ → Option Checkpoint → Type 0
IsSegmentOpen world epoch None = Unit {0}
IsSegmentOpen world epoch (Some checkpoint) = (epoch < world.epoch) ⊎ (checkpoint.rolled ≡ 3)

-- the steps of a checkpoint come in their order

abbrev pub IsRolled : Option Checkpoint → ℕ → Type 0
IsRolled None steps = ⊥
IsRolled (Some checkpoint) steps = checkpoint.rolled ≡ steps

abbrev pub HasImaged : Option Checkpoint → ℕ → Type 0
HasImaged None steps = ⊥
HasImaged (Some checkpoint) steps = checkpoint.imaged ≡ steps

-- the image's slot was closed, and its encoding isn't written to its end
abbrev pub HasPieceLeft : Option Checkpoint → Type 0
HasPieceLeft None = ⊥
HasPieceLeft (Some checkpoint) = (0 < checkpoint.imaged) × (checkpoint.imaged < checkpoint.pieces + 1)

-- the image's encoding is written, the image isn't finished, and the store has rotated to the next segment
abbrev pub CanFinish : Option Checkpoint → Type 0
CanFinish None = ⊥
CanFinish (Some checkpoint) =
    (checkpoint.imaged ≡ checkpoint.pieces + 1) × (checkpoint.rolled ≡ 3) × (checkpoint.finished ≡ false)

abbrev pub CanAppend : World → Option Batch → Type 0
CanAppend world None = ⊥
CanAppend world (Some batch) = (batch.appended ≡ false) × IsSegmentOpen world batch.epoch world.checkpoint

abbrev pub CanReply : World → Option Ticket → Type 0
CanReply world None = ⊥
CanReply world (Some ticket) = (ticket.answered ≡ false) × (ticket.seen ≤ world.handed)

-- Which events are possible.
abbrev pub IsPossible : World → Event → Type 0
IsPossible world (submit space call) = Unit {0}
IsPossible world take_batch = (world.taken < length world.applied) × (world.batch ≡ None)
IsPossible world append = CanAppend world world.batch
IsPossible world durable = 0 < length world.receipts
IsPossible world (ask_reply ticket) = CanReply world (slice_get world.tickets ticket)
IsPossible world cut = (world.epoch < 2 ^ 64 - 1) × (world.checkpoint ≡ None)
IsPossible world roll_close = IsRolled world.checkpoint 0
IsPossible world roll_head = IsRolled world.checkpoint 1
IsPossible world roll_open = IsRolled world.checkpoint 2 × (world.earlier ≤ world.stored)
IsPossible world image_close = HasImaged world.checkpoint 0
IsPossible world piece = HasPieceLeft world.checkpoint
IsPossible world finish = CanFinish world.checkpoint

-- What each event may answer where it is possible, and the world after it, event by event. What an event's definition
-- doesn't name, it never answers. A refusal changes nothing.

-- a fault of the device: what the event wrote doesn't count, so a batch stays as it is, not stored
abbrev pub with_fault : World → World
with_fault world = record world { failed = true }

-- Submit: the call is given a ticket with a reply, or the epoch is full for it, or memory runs out.

-- the record of an answered call, if it has one
abbrev pub record_of : ℕ → Call → Reply → List Record
record_of space call answer =
    if has_record call answer then record { space = space; call = call; reply = answer } ∷ [] else []

abbrev pub after_submit : World → ℕ → Call → Reply → World
after_submit world space call answer =
    let applied : List Record = world.applied ++ record_of space call answer in
    record world {
      applied = applied;
      tickets = world.tickets ++ (record { answer = answer; seen = length applied; answered = false }) ∷ [];
    }

-- the machine may give a call this reply in the state after all that was applied, which are steps from this base
abbrev pub IsStep : State → World → ℕ → Call → Reply → Type 0
IsStep base world space call answer =
    (old : State) × (new : State) × Steps base world.applied old × Step old space call answer new

-- a ticket keeps such a reply; and a full epoch log takes no record
abbrev pub MayGive : State → World → ℕ → Call → Reply → Type 0
MayGive base world space call answer =
    IsStep base world space call answer × ((has_record call answer ≡ true) → log_length world < MAX_RECORDS)

-- the epoch is full for a call: its log is full, and a step of the call has a record
abbrev pub HasNoRoom : State → World → ℕ → Call → Type 0
HasNoRoom base world space call =
    IsLogFull world × (answer : Reply) × IsStep base world space call answer × (has_record call answer ≡ true)

abbrev pub AfterSubmit : State → World → ℕ → Call → Outcome → World → Type 0
AfterSubmit base world space call (given answer) new =
    MayGive base world space call answer × (new ≡ after_submit world space call answer)
AfterSubmit base world space call epoch_full new = HasNoRoom base world space call × (new ≡ world)
AfterSubmit base world space call no_memory new = new ≡ world
AfterSubmit base world space call _ new = ⊥

-- Take: what waits is taken as a batch, which allocates nothing.

abbrev pub after_take : World → World
after_take world = record world { batch = Some (next_batch world); taken = world.taken + (next_batch world).size }

abbrev pub AfterTake : World → Outcome → World → Type 0
AfterTake world done new = new ≡ after_take world
AfterTake world _ new = ⊥

-- Append: the batch that is out is stored, which allocates nothing, and its receipt is out; or the device has a fault.

abbrev pub after_append : World → Option Batch → World
after_append world None = world
after_append world (Some batch) =
    record world {
      batch = Some (record batch { appended = true });
      stored = world.stored + batch.size;
      receipts = world.receipts ++ of_append batch.size ∷ [];
    }

abbrev pub AfterAppend : World → Outcome → World → Type 0
AfterAppend world done new = new ≡ after_append world world.batch
AfterAppend world (store fault.device) new = new ≡ with_fault world
AfterAppend world _ new = ⊥

-- Durable: the oldest receipt is handed in: of an append, and the batch is no longer out; or of a finished image, and
-- the checkpoint is over.

abbrev pub after_durable : World → List Receipt → World
after_durable world [] = world
after_durable world (of_append size ∷ receipts) =
    record world { batch = None; handed = world.handed + size; receipts = receipts }
after_durable world (of_finish ∷ receipts) = record world { checkpoint = None; receipts = receipts }

abbrev pub AfterDurable : World → Outcome → World → Type 0
AfterDurable world done new = new ≡ after_durable world world.receipts
AfterDurable world _ new = ⊥

-- Ask reply: the ticket's reply is given, once.

abbrev pub with_answered : List Ticket → ℕ → List Ticket
with_answered [] n = []
with_answered (ticket ∷ tickets) zero = record ticket { answered = true } ∷ tickets
with_answered (ticket ∷ tickets) (suc n) = ticket ∷ with_answered tickets n

abbrev pub AfterAskReply : World → ℕ → Outcome → World → Type 0
AfterAskReply world ticket (replied answer) new =
    (kept : Ticket) × (slice_get world.tickets ticket ≡ Some kept) × (kept.answer ≡ answer)
    × (new ≡ record world { tickets = with_answered world.tickets ticket })
AfterAskReply world ticket _ new = ⊥

-- Cut: a snapshot begins the next epoch, with an image of the state after all records; or memory runs out.

abbrev pub after_cut : World → State → World
after_cut world state = record world {
  epoch = world.epoch + 1;
  opened = 0;
  earlier = length world.applied;
  checkpoint = Some (record { rolled = 0; imaged = 0; pieces = pieces_of (image_encoding state); finished = false });
}

abbrev pub AfterCut : State → World → Outcome → World → Type 0
AfterCut base world done new = (state : State) × Steps base world.applied state × (new ≡ after_cut world state)
AfterCut base world no_memory new = new ≡ world
AfterCut base world _ new = ⊥

-- The steps of the checkpoint under way.

abbrev pub with_checkpoint : World → (Checkpoint → Checkpoint) → Option Checkpoint → World
with_checkpoint world change None = world
with_checkpoint world change (Some checkpoint) = record world { checkpoint = Some (change checkpoint) }

abbrev pub one_rolled : World → World
one_rolled world =
    with_checkpoint world (λ checkpoint. record checkpoint { rolled = checkpoint.rolled + 1 }) world.checkpoint

abbrev pub one_imaged : World → World
one_imaged world =
    with_checkpoint world (λ checkpoint. record checkpoint { imaged = checkpoint.imaged + 1 }) world.checkpoint

-- the image's receipt is out
abbrev pub after_finish : World → World
after_finish world =
    record (with_checkpoint world (λ checkpoint. record checkpoint { finished = true }) world.checkpoint)
    { receipts = world.receipts ++ of_finish ∷ [] }

-- Roll close, roll head, roll open: one step of rotating is done, or the device has a fault.
abbrev pub AfterRoll : World → Outcome → World → Type 0
AfterRoll world done new = new ≡ one_rolled world
AfterRoll world (store fault.device) new = new ≡ with_fault world
AfterRoll world _ new = ⊥

-- Image close: the image's slot is closed, or the store runs out of memory, or the device has a fault.
abbrev pub AfterImageClose : World → Outcome → World → Type 0
AfterImageClose world done new = new ≡ one_imaged world
AfterImageClose world (store fault.no_memory) new = new ≡ world
AfterImageClose world (store fault.device) new = new ≡ with_fault world
AfterImageClose world _ new = ⊥

-- Piece: one piece of the image is written, or the device has a fault.
abbrev pub AfterPiece : World → Outcome → World → Type 0
AfterPiece world done new = new ≡ one_imaged world
AfterPiece world (store fault.device) new = new ≡ with_fault world
AfterPiece world _ new = ⊥

-- Finish: the image is finished, or the device has a fault.
abbrev pub AfterFinish : World → Outcome → World → Type 0
AfterFinish world done new = new ≡ after_finish world
AfterFinish world (store fault.device) new = new ≡ with_fault world
AfterFinish world _ new = ⊥

-- What a possible event may answer, and the world after it, where the store's records began from this base.
abbrev pub AfterPossible : State → World → Event → Outcome → World → Type 0
AfterPossible base world (submit space call) outcome new = AfterSubmit base world space call outcome new
AfterPossible base world take_batch outcome new = AfterTake world outcome new
AfterPossible base world append outcome new = AfterAppend world outcome new
AfterPossible base world durable outcome new = AfterDurable world outcome new
AfterPossible base world (ask_reply ticket) outcome new = AfterAskReply world ticket outcome new
AfterPossible base world cut outcome new = AfterCut base world outcome new
AfterPossible base world roll_close outcome new = AfterRoll world outcome new
AfterPossible base world roll_head outcome new = AfterRoll world outcome new
AfterPossible base world roll_open outcome new = AfterRoll world outcome new
AfterPossible base world image_close outcome new = AfterImageClose world outcome new
AfterPossible base world piece outcome new = AfterPiece world outcome new
AfterPossible base world finish outcome new = AfterFinish world outcome new

-- the events that write the store, and so meet its faults
abbrev pub is_of_store : Event → Bool
is_of_store append = true
is_of_store roll_close = true
is_of_store roll_head = true
is_of_store roll_open = true
is_of_store image_close = true
is_of_store piece = true
is_of_store finish = true
is_of_store _ = false

-- Once the device failed, every event of the store answers that it failed, even one that isn't possible.
abbrev pub fails_first : World → Event → Bool
fails_first world event = world.failed && is_of_store event

-- The world after an event with its outcome. The outcome is "failed" exactly where the device failed before; else "not
-- now" exactly where the event isn't possible; else one that a possible event may have.
abbrev pub After : State → World → Event → Outcome → World → Type 0
After base world event (store fault.failed) new = (fails_first world event ≡ true) × (new ≡ world)
After base world event not_now new = (fails_first world event ≡ false) × (IsPossible world event → ⊥) × (new ≡ world)
After base world event outcome new =
    (fails_first world event ≡ false) × IsPossible world event × AfterPossible base world event outcome new

-- The world that a list of events leaves.
abbrev pub Worlds : State → World → List (Event × Outcome) → World → Type 0
Worlds base world [] new = new ≡ world
Worlds base world ((event, outcome) ∷ events) new =
    (mid : World) × After base world event outcome mid × Worlds base mid events new
