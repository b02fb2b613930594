-- The core as a whole, and the world of events that it stands for.
use Rattle.std.specs.Prelude.{◌≡◌, ◌⊎◌, ℕ, ◌+◌, ◌-◌, ◌<◌, ◌≤◌, max, Bool, true, false, List, [], ◌∷◌, length, take, drop, map, Option, None, Some, slice_get}
use Rattle.std.specs.FinMap as finmap
use Rattle.std.specs.Ordering.{nat_cmp}
use Rattle.codes.specs.declared.limits.TheConstants.{MAX_RECORDS}
use Rattle.disk.specs.Moments.{View, MayLeave, Passes}
use Rattle.disk.specs.Slots.{Slots}
use Rattle.store_half.specs.epoch_log.Logs.{TakenValue}
use Rattle.ipc_model.specs.calls.Step as calls
use Rattle.ipc_model.specs.calls.Step.{Run}
use Rattle.ipc_model.specs.declared.record.Record.{Record}
use Rattle.ipc_model.specs.declared.reply.Reply.{Reply}
use Rattle.ipc_model.specs.state.Circular.{Acyclic}
use Rattle.ipc_model.specs.state.LawfulState.{LawfulState}
use Rattle.ipc_model.specs.state.State.{State}
use Rattle.ipc_model.specs.encodings.Encodings.{canonical_record}
use Rattle.ipc_model.specs.store.Store.{AreRecords}
use Rattle.ipc_model.specs.world.World.{World, Ticket, Receipt, After, greatest_seen, of_append, of_finish, pieces_of, acknowledged}
use Rattle.ipc_model.specs.world.World as world
use Rattle.ipc_laws.specs.RunsKeep.{FitCalls}
use Rattle.journal.specs.Batch.{BatchValue, Holds}
use Rattle.journal.specs.declared.segment.Segment.{Segment}
use Rattle.store_half.specs.phases.Phases.{Keeps}
use Rattle.store_layout.specs.Gates.{StandForState}
use Rattle.store_half.specs.Values.{CheckpointValue, StoreValue}
use Rattle.system.specs.Events.{event_of, outcome_of}
use Rattle.system.specs.Halves.{KernelValue, TicketValue, first_half}
use Rattle.system.specs.declared.event.Event.{Event}
use Rattle.system.specs.declared.event.Outcome.{Outcome}
use Rattle.system.specs.declared.event.Outcome.TheVariants as outcome

-- The tickets that weren't answered, by number, and how many were given. (A number whose ticket is still being made has
-- none.)
pub record TicketsValue : Type 0 where
  pub kept : finmap.FinMap nat_cmp (Option TicketValue)
  pub given : ℕ

-- The two halves; what is between them: a batch that was taken, or the receipt of this many records, the receipt of an
-- epoch's image, and whether that is older than the batch's; and the tickets.
pub record SystemValue (D : Type 0) : Type 0 where
  pub core : KernelValue
  pub store : StoreValue D
  pub out : Option TakenValue
  pub receipt : Option ℕ
  pub finished : Option ℕ
  pub finished_first : Bool
  pub tickets : TicketsValue

-- A core that continues from a state, on a disk with this segment in use, where all records are stored.
abbrev pub first_system : {D : Type 0} → State → D → Segment → SystemValue D
first_system kernel disk segment = record {
  core = first_half kernel segment.epoch segment.records;
  store = record { disk = disk; segment = segment; failed = false; checkpoint = None };
  out = None;
  receipt = None;
  finished = None;
  finished_first = false;
  tickets = record { kept = finmap.empty; given = 0 };
}

-- What was applied: steps from the base to the core's state, of calls and replies that records can hold.
pub record IsApplied (base : State) (applied : List Record) (kernel : State) (made : ℕ) : Type 0 where
  pub run : calls.Steps base applied kernel
  pub fit : FitCalls applied
  pub records : AreRecords (map canonical_record applied)
  pub made_is : made ≡ length applied
  pub lawful : LawfulState base
  pub acyclic : Acyclic base.ipc

-- How many records there are: `all` were applied since the opening; of these `earlier` before this epoch, whose log
-- began with `opened` records. The log of the epoch before has `older` records, of which the last is the last of the
-- earlier ones.
pub record Counts (opened earlier taken stored all older log : ℕ) : Type 0 where
  pub earlier_within : earlier ≤ all
  pub taken_within : taken ≤ all
  pub log_is : log ≡ opened + (all - earlier)
  pub room : earlier < all → log ≤ MAX_RECORDS
  pub older_within : stored < earlier → earlier ≤ older + stored
  pub older_room : stored < earlier → older ≤ MAX_RECORDS

-- The records that wait: those of the epoch before that aren't taken, and those of the epoch log.
pub record Wait (opened earlier taken : ℕ) (applied : List Record) (older : ℕ) (before log : BatchValue) : Type 0 where
  pub before_is : Holds (older + taken - earlier) (drop taken (take earlier applied)) before
  pub log_is : Holds (opened + (max taken earlier - earlier)) (drop (max taken earlier) applied) log

-- a batch of this many records that follow the stored ones: of the epoch before, or of the epoch log
abbrev pub HasPlace : ℕ → ℕ → ℕ → ℕ → ℕ → List Record → ℕ → TakenValue → Type 0
HasPlace epoch opened earlier stored older applied size taken =
    ((stored + size ≤ earlier) × (taken.epoch + 1 ≡ epoch)
    × Holds (older + stored - earlier) (take size (drop stored applied)) taken.batch)
    ⊎ ((earlier ≤ stored) × (taken.epoch ≡ epoch)
    × Holds (opened + (stored - earlier)) (take size (drop stored applied)) taken.batch)

-- What waits between the halves: nothing;
pub record NothingBetween (batch : Option world.Batch) (taken stored handed : ℕ) : Type 0 where
  pub batch_is : batch ≡ None
  pub taken_is : taken ≡ stored
  pub handed_is : handed ≡ stored

-- or a batch in its place;
pub record BatchBetween (batch : Option world.Batch) (taken stored handed : ℕ) (place : ℕ → TakenValue → Type 0)
    (out : TakenValue) : Type 0 where
  pub size : ℕ
  pub some : 0 < size
  pub batch_is : batch ≡ Some (record { epoch = out.epoch; size = size; appended = false })
  pub taken_is : taken ≡ stored + size
  pub handed_is : handed ≡ stored
  pub placed : place size out

-- or the receipt of the last stored ones.
pub record ReceiptBetween (batch : Option world.Batch) (taken stored handed size : ℕ) : Type 0 where
  pub epoch : ℕ
  pub batch_is : batch ≡ Some (record { epoch = epoch; size = size; appended = true })
  pub taken_is : taken ≡ stored
  pub handed_is : handed + size ≡ stored

abbrev pub Between : Option world.Batch → ℕ → ℕ → ℕ → (ℕ → TakenValue → Type 0) → Option TakenValue → Option ℕ → Bool
    → Type 0
Between batch taken stored handed place None None false = NothingBetween batch taken stored handed
Between batch taken stored handed place (Some out) None true = BatchBetween batch taken stored handed place out
Between batch taken stored handed place None (Some size) true = ReceiptBetween batch taken stored handed size
Between batch taken stored handed place _ _ _ = ⊥

-- the receipts that are out, oldest first
abbrev pub in_turn : Option ℕ → Option ℕ → Bool → List Receipt
in_turn None None finished_first = []
in_turn (Some size) None finished_first = of_append size ∷ []
in_turn None (Some epoch) finished_first = of_finish ∷ []
in_turn (Some size) (Some epoch) true = of_finish ∷ of_append size ∷ []
in_turn (Some size) (Some epoch) false = of_append size ∷ of_finish ∷ []

-- A checkpoint, as the store has it: none; or under way; or finished, until the receipt of that is handed in.
pub record IsSameCheckpoint (epoch : ℕ) (written : world.Checkpoint) (checkpoint : CheckpointValue) : Type 0 where
  pub epoch_is : checkpoint.epoch ≡ epoch
  pub rolled : checkpoint.rolled ≡ written.rolled
  pub imaged : checkpoint.imaged ≡ written.imaged
  pub pieces : written.pieces ≡ pieces_of checkpoint.encoding
  pub unfinished : written.finished ≡ false

pub record IsFinishedCheckpoint (written : world.Checkpoint) : Type 0 where
  pub rolled : written.rolled ≡ 3
  pub imaged : written.imaged ≡ written.pieces + 1
  pub finished : written.finished ≡ true

abbrev pub Checkpoints : ℕ → Option world.Checkpoint → Option CheckpointValue → Option ℕ → Bool → Type 0
Checkpoints epoch None None None false = Unit {0}
Checkpoints epoch (Some written) (Some checkpoint) None true = IsSameCheckpoint epoch written checkpoint
Checkpoints epoch (Some written) None (Some finished) true = IsFinishedCheckpoint written
Checkpoints epoch _ _ _ _ = ⊥

-- Which segment is in use: that of the epoch, which holds all stored records of it;
pub record IsInEpoch (epoch opened earlier stored : ℕ) (segment : Segment) : Type 0 where
  pub epoch_is : segment.epoch ≡ epoch
  pub whole : earlier ≤ stored
  pub counted : segment.records ≡ opened + (stored - earlier)

-- or still that of the epoch before.
pub record IsBeforeEpoch (epoch opened earlier stored older : ℕ) (segment : Segment)
    (checkpoint : CheckpointValue) : Type 0 where
  pub epoch_is : segment.epoch + 1 ≡ epoch
  pub within : stored ≤ earlier
  pub counted : segment.records + earlier ≡ older + stored
  pub none_opened : opened ≡ 0
  pub rolled : checkpoint.rolled < 3
  pub log : checkpoint.log ≡ older

abbrev pub IsInUse : ℕ → ℕ → ℕ → ℕ → ℕ → Segment → Option CheckpointValue → Type 0
IsInUse epoch opened earlier stored older segment None = IsInEpoch epoch opened earlier stored segment
IsInUse epoch opened earlier stored older segment (Some checkpoint) =
    (IsInEpoch epoch opened earlier stored segment × (checkpoint.rolled ≡ 3))
    ⊎ IsBeforeEpoch epoch opened earlier stored older segment checkpoint

-- the ticket of a number, as the core keeps it until it is answered
abbrev pub unanswered : Ticket → Bool → Option (Option TicketValue)
unanswered ticket true = None
unanswered ticket false = Some (Some (record { answer = ticket.answer; seen = ticket.seen }))

abbrev pub kept_ticket : Option Ticket → Option (Option TicketValue)
kept_ticket None = None
kept_ticket (Some ticket) = unanswered ticket ticket.answered

-- the tickets, none of which was answered that saw more than was handed in
pub record AreTickets (tickets : List Ticket) (handed : ℕ) (value : TicketsValue) : Type 0 where
  pub given_is : value.given ≡ length tickets
  pub each : (n : ℕ) → finmap.get value.kept n ≡ kept_ticket (slice_get tickets n)
  pub seen : greatest_seen tickets ≤ handed

-- Slots that stand for the state after the first k calls that were applied.
abbrev pub Stands : State → World → ℕ → Slots → Type 0
Stands base world k c = (state : State) × Run base (take k world.applied) state × StandForState state c

-- Slots that stand for the state after a prefix of the calls that were applied, of at least this length.
abbrev pub StandsFrom : State → ℕ → World → Slots → Type 0
StandsFrom base least world c = (k : ℕ) × (least ≤ k) × (k ≤ length world.applied) × Stands base world k c

-- A store that is kept with what is stored, in a state from which the rest of what was applied leads to the core's. A
-- checkpoint under way is of the state after the earlier records.
pub record KeepsStored {D : Type 0} (view : D → View) (store : StoreValue D) (base kernel : State) (stored earlier : ℕ)
    (applied : List Record) : Type 0 where
  pub state : State
  pub before : Run base (take stored applied) state
  pub after : Run state (drop stored applied) kernel
  pub mid : State
  pub cut : Run base (take earlier applied) mid
  pub kept : Keeps (view store.disk) store.segment store.checkpoint mid state

-- The core stands for a world of events, if the store's records began from this base: its state is the one after all
-- that was applied, and its store is kept with what is stored.
pub record StandsFor {D : Type 0} (honest : Type 0) (view : D → View) (base : State) (world : World)
    (system : SystemValue D) : Type 0 where
  pub epoch : world.epoch ≡ system.core.epoch
  pub applied : IsApplied base world.applied system.core.kernel system.core.log.made
  pub handed : system.core.handed ≡ world.handed
  -- how many records the log of the epoch before has
  pub older : ℕ
  pub counts : Counts world.opened world.earlier world.taken world.stored
      (length world.applied) older system.core.log.length
  pub waits : Wait world.opened world.earlier world.taken world.applied older system.core.older system.core.log.waiting
  pub between : Between world.batch world.taken world.stored world.handed
      (HasPlace world.epoch world.opened world.earlier world.stored older world.applied) system.out system.receipt
      system.core.is_out
  pub receipts : world.receipts ≡ in_turn system.receipt system.finished system.finished_first
  pub checkpoint : Checkpoints world.epoch world.checkpoint system.store.checkpoint system.finished system.core.is_cut
  pub in_use : IsInUse world.epoch world.opened world.earlier world.stored older system.store.segment
      system.store.checkpoint
  pub tickets : AreTickets world.tickets world.handed system.tickets
  pub failed : system.store.failed ≡ world.failed
  -- until the device fails, the store is kept; from then on, a crash leaves the state after at least the stored records
  pub kept : honest → world.failed ≡ false
      → KeepsStored view system.store base system.core.kernel world.stored world.earlier world.applied
  pub left : honest → world.failed ≡ true → (c : Slots) → MayLeave (view system.store.disk) c
      → StandsFrom base world.stored world c

-- One event: what it answered is what the abstract specification allows, with the world after it, which the core then
-- stands for. A crash at any moment of it leaves the state after a prefix of the calls that are applied after it, no
-- shorter than what was acknowledged before it; a crash after it, no shorter than what was acknowledged after it.
pub record Steps {D : Type 0} (honest : Type 0) (view : D → View) (base : State) (world : World) (event : Event)
    (answered : Outcome) (old new : SystemValue D) : Type 0 where
  pub kept : Reply
  pub next : World
  pub after : After base world (event_of event) (outcome_of answered kept) next
  pub stands : StandsFor honest view base next new
  pub passes : honest → Passes (view old.store.disk) (view new.store.disk) (StandsFrom base (acknowledged world) next)
  pub left : honest → (c : Slots) → MayLeave (view new.store.disk) c → StandsFrom base (acknowledged next) next c

-- An event of a core, whatever world it stands for.
abbrev pub Simulates : {D : Type 0} → Type 0 → (D → View) → Event → Outcome → SystemValue D → SystemValue D → Type 0
Simulates honest view event answered old new =
    (base : State) (world : World) → StandsFor honest view base world old
    → Steps honest view base world event answered old new

-- the number of a ticket is the count of those that were given before
abbrev pub IsNumbered : {D : Type 0} → SystemValue D → Outcome → Type 0
IsNumbered old (outcome.Ticket number) = number ≡ old.tickets.given
IsNumbered old answered = Unit {0}

-- Slots that a crash may have left between two moments of an event, and at the last of these: those of the crash set of
-- an event.
pub record AreBounded (base : State) (least_before least_after : ℕ) (next : World) (from until : ℕ)
    (last : View) : Type 0 where
  pub later : from ≤ until
  pub during : (k : ℕ) (c : Slots) → from < k → k ≤ until → last.left_at k c → StandsFrom base least_before next c
  pub after : (c : Slots) → last.left_at until c → StandsFrom base least_after next c

-- the same, where the core stands for a world
abbrev pub HasNextNumber : World → Outcome → Type 0
HasNextNumber world (outcome.Ticket number) = number ≡ length world.tickets
HasNextNumber world answered = Unit {0}

-- Events one after another, with what they answered. There are moments of the disk's clock, one before the events and
-- one after each of them, such that a crash between two of them leaves what it may leave within that event.
abbrev pub Runs : Type 0 → State → World → List Event → List Outcome → ℕ → View → World → Type 0
Runs honest base world [] [] from last end = (end ≡ world) × (honest → from ≡ last.moment)
Runs honest base world (event ∷ events) (answered ∷ outcomes) from last end =
    (kept : Reply) × (next : World) × (until : ℕ) × After base world (event_of event) (outcome_of answered kept) next
    × HasNextNumber world answered
    × (honest → AreBounded base (acknowledged world) (acknowledged next) next from until last)
    × Runs honest base next events outcomes until last end
Runs honest base world _ _ from last end = ⊥

-- A list of events of a core that stands for a world.
pub record RunsThrough {D : Type 0} (honest : Type 0) (view : D → View) (base : State) (world : World)
    (events : List Event) (outcomes : List Outcome) (old new : SystemValue D) : Type 0 where
  pub end : World
  pub stands : StandsFor honest view base end new
  pub runs : Runs honest base world events outcomes (view old.store.disk).moment (view new.store.disk) end
