-- Worked examples of lists of events: two calls in one batch, a full epoch log, a fault of the device, and lists that
-- can't happen.
use Rattle.std.specs.Prelude.{◌≡◌, ℕ, ◌<◌, Bool, true, false, List, [], ◌∷◌, ◌++◌, Option, None, Some, refl}
use Rattle.std.specs.FinMap as finmap
use Rattle.std.proofs.Common.{inl, inr, sym, ◌∙◌, ap, subst, arith}
use Rattle.ipc_model.specs.declared.call.Call.{Call}
use Rattle.ipc_model.specs.declared.plain_call.PlainCall.TheVariants as call
use Rattle.ipc_model.specs.declared.reply.Reply.{Reply}
use Rattle.ipc_model.specs.declared.plain_reply.PlainReply.TheVariants as reply
use Rattle.codes.specs.declared.kern_return.KernReturn.TheVariants.{InvalidName, NoSpace}
use Rattle.ipc_model.specs.calls.Actions.{Done, allocated, allocated_entry}
use Rattle.ipc_model.specs.calls.PortCalls.{tests_of}
use Rattle.ipc_model.specs.calls.PlainStep.{PlainStep, ActsFrom}
use Rattle.ipc_model.specs.calls.Step.{Step, Answer, has_record}
use Rattle.ipc_model.specs.effects.Effects.{Effect, settled}
use Rattle.ipc_model.specs.declared.plain_reply.PlainReply.{PlainReply}
use Rattle.ipc_model.specs.declared.reply.Reply.TheVariants as upper
use Rattle.ipc_model.specs.state.Ipc.{Ipc, Names, opening_ipc}
use Rattle.ipc_model.specs.state.State.{State, opening_state}
use Rattle.ipc_model.specs.store.Faults as fault
use Rattle.ipc_model.specs.world.World.{Event, Outcome, Ticket, Receipt, of_finish, World, Worlds, After, MayGive, IsPossible, submit, take_batch, append, durable, ask_reply, cut, roll_close, roll_head, roll_open, image_close, piece, finish, given, replied, done, not_now, epoch_full, no_memory, store, first_world, acknowledged, log_length, pieces_of, after_submit, after_take, after_append, after_durable, after_cut, with_answered}
use Rattle.ipc_laws.specs.MapLaws.{map_rules}
use Rattle.ipc_laws.specs.OpeningLaws.{opening-image}
use Rattle.ipc_rows.specs.RowRules.{rows}
use Rattle.ipc_rows.specs.RowsSteps.{allocate-step}
use Rattle.ipc_rows.specs.RowStates.{answered, asked, keeps_none}

abbrev pub allocation : Call
allocation = asked (call.Allocate 1)

-- the states after one allocation and after two
abbrev pub one_allocated : State
one_allocated = keeps_none (allocated opening_ipc 1 finmap.empty 1 0x100)

abbrev pub names_of_one : Names
names_of_one = finmap.insert finmap.empty 0x100 (allocated_entry 1 1)

abbrev pub two_allocated : State
two_allocated = keeps_none (allocated one_allocated.ipc 1 names_of_one 1 0x101)

second-acts : ActsFrom one_allocated.ipc 1 (finmap.get one_allocated.ipc.spaces 1) (call.Allocate 1)
    (reply.Allocate 0x101) two_allocated.ipc []
unfolding Done tests_of
second-acts =
    simp rows (0x101, record { least = omega arith; below_dead = omega arith; free = simp map_rules }, refl, refl, refl)

pub second-step : Step one_allocated 1 allocation (answered (reply.Allocate 0x101)) two_allocated
unfolding Step PlainStep
second-step = ((two_allocated.ipc, [], second-acts, settled), refl)

-- the first, in a new store
pub first-step : Step opening_state 1 allocation (answered (reply.Allocate 0x100)) one_allocated
unfolding Step
first-step = (allocate-step, refl)

-- after two allocations
abbrev pub one_submitted : World
one_submitted = after_submit (first_world 0 0) 1 allocation (answered (reply.Allocate 0x100))

abbrev pub two_submitted : World
two_submitted = after_submit one_submitted 1 allocation (answered (reply.Allocate 0x101))

abbrev pub two_taken : World
two_taken = after_take two_submitted

abbrev pub two_appended : World
two_appended = after_append two_taken two_taken.batch

abbrev pub two_durable : World
two_durable = after_durable two_appended two_appended.receipts

may-first : MayGive opening_state (first_world 0 0) 1 allocation (answered (reply.Allocate 0x100))
may-first = ((opening_state, one_allocated, refl, first-step), (λ (_ : _). omega arith))

may-second : MayGive opening_state one_submitted 1 allocation (answered (reply.Allocate 0x101))
may-second =
    ((one_allocated, two_allocated, (one_allocated, first-step, refl), second-step), (λ (_ : _). omega arith))

-- the events in their order, with what they answer
abbrev pub two_calls : List (Event × Outcome)
two_calls =
    (submit 1 allocation, given (answered (reply.Allocate 0x100))) ∷ (submit 1 allocation, given (answered (reply.Allocate 0x101))) ∷
    (take_batch, done) ∷ (append, done) ∷ (durable, done) ∷ []

pub two_calls-leave : Worlds opening_state (first_world 0 0) two_calls two_durable
two_calls-leave = (
  one_submitted,
  (refl, tt, (may-first, refl)),
  (
    two_submitted,
    (refl, tt, (may-second, refl)),
    (
      two_taken,
      (refl, (omega arith, refl), refl),
      (two_appended, (refl, (refl, tt), refl), (two_durable, (refl, omega arith, refl), refl)),
    ),
  ),
)

-- both are stored at once, and so acknowledged: one batch has both
pub two_calls-acknowledged : (acknowledged two_submitted ≡ 0) × (acknowledged two_taken ≡ 0)
    × (acknowledged two_appended ≡ 2) × (acknowledged two_durable ≡ 2)
two_calls-acknowledged = (refl, refl, refl, refl)

-- then the replies may be requested in any order
pub replies-possible : IsPossible two_durable (ask_reply 1) × IsPossible two_durable (ask_reply 0)
replies-possible = ((refl, omega arith), (refl, omega arith))

-- a reply isn't given before the receipt is handed in
pub early-reply : IsPossible two_appended (ask_reply 0) → ⊥
early-reply possible = absurd (omega (arith, possible.1))

-- a second batch isn't taken while one is out, nor where no record is left
pub second-take : IsPossible two_taken take_batch → ⊥
second-take possible = absurd (cc possible.1)

pub empty-take : IsPossible two_durable take_batch → ⊥
empty-take possible = absurd (omega (arith, possible.0))

-- nothing is appended without a batch, and no batch twice
pub no-append : IsPossible two_submitted append → ⊥
no-append possible = possible

pub twice-append : IsPossible two_appended append → ⊥
twice-append possible = absurd (cc possible.0)

-- a refused call has no record, and its reply waits for those that it saw
abbrev pub refused_call : World
refused_call = after_submit two_submitted 1 (asked (call.Type 0x200)) (answered (reply.Refused 2 InvalidName))

pub read-waits : (IsPossible refused_call (ask_reply 2) → ⊥) × (refused_call.applied ≡ two_submitted.applied)
read-waits = ((λ (possible : _). absurd (omega (arith, possible.1))), refl)

-- after a snapshot no other is possible before its checkpoint is over, and the next segment is not opened while a
-- record of the old epoch isn't appended
abbrev pub cut_early : World
cut_early =
    record (after_cut two_submitted opening_state)
    { checkpoint = Some (record { rolled = 2; imaged = 1; pieces = 1; finished = false }) }

pub second-cut : IsPossible cut_early cut → ⊥
second-cut possible = absurd (cc possible.1)

pub early-open : IsPossible cut_early roll_open → ⊥
early-open possible = absurd (omega (arith, possible.1))

-- an image isn't finished before its last piece
pub early-finish : IsPossible cut_early finish → ⊥
early-finish possible = absurd (omega (arith, possible.0))

pub last-piece : IsPossible cut_early piece
last-piece = (omega arith, omega arith)

-- no image is closed twice, no step of rotating made twice, and no batch of the new epoch appended before its segment
-- is open
pub twice-closed : IsPossible cut_early image_close → ⊥
twice-closed possible = absurd (omega (arith, possible))

pub twice-rolled : IsPossible cut_early roll_close → ⊥
twice-rolled possible = absurd (omega (arith, possible))

pub segment-closed : IsPossible
    (record cut_early { batch = Some (record { epoch = 1; size = 1; appended = false }) }) append → ⊥
segment-closed possible =
    elim possible.1 as (λ _. ⊥) [
      | inl older ↦ absurd (omega (arith, older))
      | inr rolled ↦
          absurd (omega (arith, rolled))
    ]

-- the last epoch isn't left
pub last-epoch : IsPossible (first_world 0xffffffffffffffff 0) cut → ⊥
last-epoch possible = absurd (omega (arith, possible.0))

-- A whole checkpoint of a new store: the steps of rotating and of the image in their order, and the receipt of its
-- finish. It leaves an empty epoch log in the next epoch.
abbrev pub checkpoint_events : List (Event × Outcome)
checkpoint_events =
    (cut, done) ∷ (roll_close, done) ∷ (roll_head, done) ∷ (roll_open, done) ∷ (image_close, done) ∷ (piece, done) ∷
    (finish, done) ∷ (durable, done) ∷ []

abbrev checkpointing : ℕ → ℕ → Bool → List Receipt → World
checkpointing rolled imaged finished receipts =
    record (first_world 1 0) {
      checkpoint = Some
          (record { rolled = rolled; imaged = imaged; pieces = 1; finished = finished });
      receipts = receipts;
    }

opening-cut : checkpointing 0 0 false [] ≡ after_cut (first_world 0 0) opening_state
opening-cut =
    ap (λ (encoding : List ℕ). record (first_world 1 0)
    { checkpoint = Some (record { rolled = 0; imaged = 0; pieces = pieces_of encoding; finished = false }) })
    (sym opening-image)

pub checkpoint-leaves : Worlds opening_state (first_world 0 0) checkpoint_events (first_world 1 0)
checkpoint-leaves = (
  checkpointing 0 0 false [],
  (refl, (omega arith, refl), (opening_state, refl, opening-cut)),
  (
    checkpointing 1 0 false [],
    (refl, refl, refl),
    (
      checkpointing 2 0 false [],
      (refl, refl, refl),
      (
        checkpointing 3 0 false [],
        (refl, (refl, omega arith), refl),
        (
          checkpointing 3 1 false [],
          (refl, refl, refl),
          (
            checkpointing 3 2 false [],
            (refl, (omega arith, omega arith), refl),
            (
              checkpointing 3 2 true (of_finish ∷ []),
              (refl, (refl, refl, refl), refl),
              (first_world 1 0, (refl, omega arith, refl), refl),
            ),
          ),
        ),
      ),
    ),
  ),
)

-- What an event that isn't possible answers: not now, and nothing else; not even that memory ran out.
pub no_batch-now : After opening_state (first_world 0 0) take_batch not_now (first_world 0 0)
no_batch-now = (refl, (λ (possible : _). absurd (omega (arith, possible.0))), refl)

pub no_batch-done : (new : World) → After opening_state (first_world 0 0) take_batch done new → ⊥
no_batch-done new after = absurd (omega (arith, after.1.0))

pub no_batch-no_memory : (new : World) → After opening_state (first_world 0 0) take_batch no_memory new → ⊥
no_batch-no_memory new after = absurd (omega (arith, after.1.0))

-- A full epoch log, of records that the opening read: a call that would have a record is answered that the epoch is
-- full, and a read is answered as ever. A snapshot begins an empty log.
abbrev pub full_world : World
full_world = first_world 0 65536

pub full-answer : After opening_state full_world (submit 1 allocation) epoch_full full_world
full-answer =
    (refl, tt, ((omega arith, answered (reply.Allocate 0x100), (opening_state, one_allocated, refl, first-step), refl), refl))

pub full-no_ticket : (new : World)
    → After opening_state full_world (submit 1 allocation) (given (answered (reply.Allocate 0x100))) new → ⊥
full-no_ticket new after = let below : 65536 < 65536 = after.2.0.1 refl in absurd (omega (arith, below))

pub full-emptied : log_length (after_cut full_world opening_state) ≡ 0
full-emptied = refl

-- in a new store a name has no type, and this is the only possible answer
unknown-acts : (answer : PlainReply) (acted : Ipc) (effects : List Effect)
    → ActsFrom opening_ipc 1 (finmap.get opening_ipc.spaces 1) (call.Type 0x200) answer acted effects
    → answer ≡ reply.Refused 2 InvalidName
unfolding Done tests_of
unknown-acts answer acted effects = simp rows (λ (acts : _). acts.0)

pub unknown-refused : (answer : Reply) (new : State) → Step opening_state 1 (asked (call.Type 0x200)) answer new
    → answer ≡ answered (reply.Refused 2 InvalidName)
unfolding Step PlainStep
unknown-refused (upper.Plain answer) new step = ap answered (unknown-acts answer step.0.0 step.0.1 step.0.2)
unknown-refused (upper.Numbered answer) new step = absurd step
unknown-refused (upper.Repeated answer) new step = absurd step

pub unknown-answer : Answer opening_state 1 (asked (call.Type 0x200)) (answered (reply.Refused 2 InvalidName))
unfolding Step PlainStep Done tests_of
unknown-answer = ((opening_ipc, [], simp rows (refl, refl, refl), settled), refl)

pub full-read : After opening_state full_world (submit 1 (asked (call.Type 0x200))) (given (answered (reply.Refused 2 InvalidName)))
    (after_submit full_world 1 (asked (call.Type 0x200)) (answered (reply.Refused 2 InvalidName)))
full-read = (refl, tt, (((opening_state, opening_state, refl, unknown-answer), (λ (has : _). absurd (cc has))), refl))

-- the epoch isn't full while its log has room, nor for a call without a record
pub room-not_full : (new : World) → After opening_state (first_world 0 65535) (submit 1 allocation) epoch_full new → ⊥
room-not_full new after = absurd (omega (arith, after.2.0.0))

pub read-not_full : (new : World) → After opening_state full_world (submit 1 (asked (call.Type 0x200))) epoch_full new → ⊥
read-not_full new after = absurd (no_read after.2.0.1 after.2.0.3)
  where
    no_read : (answer : Reply) → has_record (asked (call.Type 0x200)) answer ≡ true → ⊥
    no_read (upper.Plain answer) recorded = absurd (cc recorded)
    no_read (upper.Numbered answer) recorded = absurd (cc recorded)
    no_read (upper.Repeated answer) recorded = absurd (cc recorded)

-- A fault of the device: the batch isn't stored, and from then on each event of the store answers that it failed.
abbrev pub failed_world : World
failed_world = record two_taken { failed = true }

pub fault-changes : After opening_state two_taken append (store fault.device) failed_world
fault-changes = (refl, (refl, tt), refl)

pub fault-acknowledged : acknowledged failed_world ≡ 0
fault-acknowledged = refl

pub failed-append : After opening_state failed_world append (store fault.failed) failed_world
failed-append = (refl, refl)

-- also one that isn't possible, which goes before "not now"
pub failed-first : After opening_state failed_world roll_open (store fault.failed) failed_world
failed-first = (refl, refl)

pub failed-not_now : (new : World) → After opening_state failed_world roll_open not_now new → ⊥
failed-not_now new after = absurd (cc after.0)

pub failed-done : (new : World) → After opening_state failed_world append done new → ⊥
failed-done new after = absurd (cc after.0)

-- then no receipt is out, and no reply can be given
pub fault-goes_on : Worlds opening_state two_taken
    ((append, store fault.device) ∷ (append, store fault.failed) ∷ (durable, not_now) ∷ (ask_reply 0, not_now) ∷ [])
    failed_world
fault-goes_on = (
  failed_world,
  fault-changes,
  (
    failed_world,
    failed-append,
    (
      failed_world,
      (refl, (λ (possible : _). absurd (omega (arith, possible))), refl),
      (failed_world, (refl, (λ (possible : _). absurd (omega (arith, possible.1))), refl), refl),
    ),
  ),
)

-- a call is given its ticket as ever
pub failed-submit : After opening_state (record (first_world 0 0) { failed = true }) (submit 1 allocation)
    (given (answered (reply.Allocate 0x100))) (record one_submitted { failed = true })
failed-submit = (refl, tt, (((opening_state, one_allocated, refl, first-step), (λ (_ : _). omega arith)), refl))

-- an event that isn't of the store goes on, and doesn't fail
pub failed-take : (new : World) → After opening_state failed_world take_batch (store fault.failed) new → ⊥
failed-take new after = absurd (cc after.0)

-- no event fails without a fault, none finds its segment full, and the steps of rotating allocate nothing
pub no_fault-failed : (new : World) → After opening_state two_taken append (store fault.failed) new → ⊥
no_fault-failed new after = absurd (cc after.0)

pub never-full : (world new : World) (event : Event) → After opening_state world event (store fault.full) new → ⊥
never-full world new (submit space c) after = after.2
never-full world new event after = after.2

pub roll-takes_none : (world new : World) → After opening_state world roll_close (store fault.no_memory) new → ⊥
roll-takes_none world new after = after.2

-- Lists of events that can't happen.

-- the reply before the append
pub reply_before_append : (answer : Reply) (new : World)
    → Worlds opening_state (first_world 0 0)
    ((submit 1 allocation, given (answered (reply.Allocate 0x100))) ∷ (take_batch, done) ∷ (ask_reply 0, replied answer) ∷ [])
    new → ⊥
reply_before_append answer new (one, submitted, (two, taken, (three, asked, end))) =
    let world : two ≡ after_take one_submitted = taken.2 ∙ ap after_take submitted.2.1 in
    let early : IsPossible (after_take one_submitted) (ask_reply 0) =
    subst (λ (w : World). IsPossible w (ask_reply 0)) world asked.1 in
    absurd (omega (arith, early.1))

-- what comes after the two calls begins where both are durable
after_two : (events : List (Event × Outcome)) (new : World)
    → Worlds opening_state (first_world 0 0) (two_calls ++ events) new → Worlds opening_state two_durable events new
after_two events new (one, first, (two, second, (three, taken, (four, appended, (five, handed, rest))))) =
    let submitted : two ≡ two_submitted =
    second.2.1 ∙ ap (λ (w : World). after_submit w 1 allocation (answered (reply.Allocate 0x101))) first.2.1 in
    let stored : four ≡ two_appended =
    appended.2 ∙ ap (λ (w : World). after_append w w.batch) (taken.2 ∙ ap after_take submitted) in
    subst (λ (w : World). Worlds opening_state w events new)
    (handed.2 ∙ ap (λ (w : World). after_durable w w.receipts) stored) rest

-- the ticket answered twice
pub answered_twice : (answer again : Reply) (new : World)
    → Worlds opening_state (first_world 0 0)
    (two_calls ++ (ask_reply 0, replied answer) ∷ (ask_reply 0, replied again) ∷ []) new → ⊥
answered_twice answer again new worlds =
    let (one, first, (two, second, end)) =
    after_two ((ask_reply 0, replied answer) ∷ (ask_reply 0, replied again) ∷ []) new worlds in
    let kept : IsPossible (record two_durable { tickets = with_answered two_durable.tickets 0 }) (ask_reply 0) =
    subst (λ (w : World). IsPossible w (ask_reply 0)) first.2.3 second.1 in
    absurd (cc kept.0)

-- a reply other than the ticket's
abbrev name_given : Reply → ℕ
name_given (upper.Plain (reply.Allocate name)) = name
name_given answer = 0

pub other_reply : (new : World)
    → Worlds opening_state (first_world 0 0) (two_calls ++ (ask_reply 0, replied (answered (reply.Allocate 0x101))) ∷ []) new → ⊥
other_reply new worlds =
    let (one, said, end) = after_two ((ask_reply 0, replied (answered (reply.Allocate 0x101))) ∷ []) new worlds in
    let kept : answered (reply.Allocate 0x100) ≡ said.2.0.answer =
    ap (λ (o : Option Ticket). elim o as (λ _. Reply) [ None ↦ answered (reply.Allocate 0x100) | Some ticket ↦ ticket.answer ])
    said.2.1 in
    let names : 0x100 ≡ 0x101 = ap {B = ℕ} name_given (kept ∙ said.2.2) in
    absurd (omega (arith, names))

-- "not now" where a batch can be taken
pub take_not_now : (new : World)
    → Worlds opening_state (first_world 0 0)
    ((submit 1 allocation, given (answered (reply.Allocate 0x100))) ∷ (take_batch, not_now) ∷ []) new → ⊥
take_not_now new (one, submitted, (two, later, end)) =
    let can : IsPossible one take_batch =
    subst (λ (w : World). IsPossible w take_batch) (sym submitted.2.1) (omega arith, refl) in
    later.1 can

-- an invented reply, and an invented refusal
pub invented_reply : (new : World)
    → Worlds opening_state (first_world 0 0) ((submit 1 (asked (call.Type 0x200)), given (answered (reply.Type 0x20000))) ∷ []) new → ⊥
invented_reply new (one, submitted, end) =
    let step = submitted.2.0.0 in
    let from_start : Step opening_state 1 (asked (call.Type 0x200)) (answered (reply.Type 0x20000)) step.1 =
    subst (λ (s : State). Step s 1 (asked (call.Type 0x200)) (answered (reply.Type 0x20000)) step.1) step.2 step.3 in
    absurd (cc (unknown-refused (answered (reply.Type 0x20000)) step.1 from_start))

-- a new store doesn't refuse an allocation
allocation-acts : (acted : Ipc) (effects : List Effect)
    → ActsFrom opening_ipc 1 (finmap.get opening_ipc.spaces 1) (call.Allocate 1) (reply.Refused 5 NoSpace) acted effects
    → ⊥
unfolding Done tests_of
allocation-acts acted effects = simp rows (λ (acts : _). absurd (cc acts.2))

pub allocation-granted : (new : State) → Step opening_state 1 allocation (answered (reply.Refused 5 NoSpace)) new → ⊥
unfolding Step PlainStep
allocation-granted new step = allocation-acts step.0.0 step.0.1 step.0.2

pub invented_refusal : (new : World)
    → Worlds opening_state (first_world 0 0) ((submit 1 allocation, given (answered (reply.Refused 5 NoSpace))) ∷ []) new → ⊥
invented_refusal new (one, submitted, end) =
    let step = submitted.2.0.0 in
    allocation-granted step.1 (subst
    (λ (s : State). Step s 1 allocation (answered (reply.Refused 5 NoSpace)) step.1) step.2 step.3)
