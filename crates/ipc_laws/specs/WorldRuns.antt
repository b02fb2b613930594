-- Whatever events come: what was applied are steps of the machine, tickets keep the replies of its steps, epoch logs
-- hold no more than they may, and after a fault of the device nothing more is stored or acknowledged.
use Rattle.std.specs.Prelude.{◌≡◌, ◌⊎◌, ℕ, zero, suc, ◌+◌, ◌-◌, ◌<◌, ◌≤◌, Bool, true, false, ◌&&◌, List, [], ◌∷◌, ◌++◌, length, take, Option, None, Some, slice_get, if◌then◌else◌, refl}
use Rattle.std.proofs.Common.{inl, inr, sym, ◌∙◌, ap, subst, arith, length-append}
use Rattle.std.proofs.lemmas.List.{append-nil, take_all, take_at, take-append-le}
use Rattle.codes.specs.declared.limits.TheConstants.{MAX_RECORDS}
use Rattle.ipc_model.specs.declared.call.Call.{Call}
use Rattle.ipc_model.specs.declared.reply.Reply.{Reply}
use Rattle.ipc_model.specs.declared.record.Record.{Record}
use Rattle.ipc_model.specs.calls.Step.{Step, Steps, has_record}
use Rattle.ipc_model.specs.state.State.{State}
use Rattle.ipc_model.specs.store.Faults as fault
use Rattle.ipc_model.specs.world.World.{Event, Outcome, Ticket, Batch, Receipt, Checkpoint, World, Worlds, After, AfterPossible, MayGive, IsStep, submit, take_batch, append, durable, ask_reply, cut, roll_close, roll_head, roll_open, image_close, piece, finish, given, replied, done, not_now, epoch_full, no_memory, store, of_append, of_finish, first_world, log_length, is_of_store, acknowledged, record_of, after_submit, after_append, after_durable, with_answered, with_checkpoint}
use Rattle.ipc_laws.specs.RunLaws.{steps-push}
use Rattle.ipc_laws.specs.WorldLaws.{acknowledged_is_stored}

-- An event that gives no ticket changes no record that was applied, makes the epoch log no longer, and at most marks
-- that a ticket's reply was given.
pub record Unchanged (old new : World) : Type 0 where
  pub applied : new.applied ≡ old.applied
  pub tickets : (new.tickets ≡ old.tickets) ⊎ ((n : ℕ) × (new.tickets ≡ with_answered old.tickets n))
  pub row : log_length new ≤ log_length old

same : (world : World) → Unchanged world world
same world = record { applied = refl; tickets = inl refl; row = omega arith }

same_append : (world : World) (batch : Option Batch) → Unchanged world (after_append world batch)
same_append world None = same world
same_append world (Some batch) = record { applied = refl; tickets = inl refl; row = omega arith }

same_durable : (world : World) (receipts : List Receipt) → Unchanged world (after_durable world receipts)
same_durable world [] = same world
same_durable world (of_append size ∷ receipts) = record { applied = refl; tickets = inl refl; row = omega arith }
same_durable world (of_finish ∷ receipts) = record { applied = refl; tickets = inl refl; row = omega arith }

same_stepped : (world : World) (change : Checkpoint → Checkpoint) (checkpoint : Option Checkpoint)
    → Unchanged world (with_checkpoint world change checkpoint)
same_stepped world change None = same world
same_stepped world change (Some checkpoint) = record { applied = refl; tickets = inl refl; row = omega arith }

same_finished : (world : World) (change : Checkpoint → Checkpoint) (checkpoint : Option Checkpoint)
    → Unchanged world (record (with_checkpoint world change checkpoint) { receipts = world.receipts ++ of_finish ∷ [] })
same_finished world change None = record { applied = refl; tickets = inl refl; row = omega arith }
same_finished world change (Some checkpoint) = record { applied = refl; tickets = inl refl; row = omega arith }

same_failed : (world : World) → Unchanged world (record world { failed = true })
same_failed world = record { applied = refl; tickets = inl refl; row = omega arith }

unchanged : {world : World} (made : World) {new : World} → new ≡ made → Unchanged world made → Unchanged world new
unchanged {world = world} made after is = subst (Unchanged world) (sym after) is

-- a ticket is given
pub record IsGiven (base : State) (old new : World) : Type 0 where
  pub space : ℕ
  pub call : Call
  pub answer : Reply
  pub may : MayGive base old space call answer
  pub after : new ≡ after_submit old space call answer

changes_possible : (base : State) (world : World) (event : Event) (outcome : Outcome) (new : World)
    → AfterPossible base world event outcome new → IsGiven base world new ⊎ Unchanged world new
changes_possible base world (submit space call) (given answer) new after =
    inl (record { space = space; call = call; answer = answer; may = after.0; after = after.1 })
changes_possible base world (submit space call) epoch_full new after = inr (unchanged world after.1 (same world))
changes_possible base world (submit space call) no_memory new after = inr (unchanged world after (same world))
changes_possible base world take_batch done new after =
    inr (unchanged _ after (record { applied = refl; tickets = inl refl; row = omega arith }))
changes_possible base world append done new after = inr (unchanged _ after (same_append world world.batch))
changes_possible base world append (store fault.device) new after = inr (unchanged _ after (same_failed world))
changes_possible base world durable done new after = inr (unchanged _ after (same_durable world world.receipts))
changes_possible base world (ask_reply ticket) (replied answer) new after =
    inr (unchanged _ after.3 (record { applied = refl; tickets = inr (ticket, refl); row = omega arith }))
changes_possible base world cut done new after =
    inr (unchanged _ after.2 (record { applied = refl; tickets = inl refl; row = omega arith }))
changes_possible base world cut no_memory new after = inr (unchanged world after (same world))
changes_possible base world roll_close done new after = inr (unchanged _ after (same_stepped world _ world.checkpoint))
changes_possible base world roll_close (store fault.device) new after = inr (unchanged _ after (same_failed world))
changes_possible base world roll_head done new after = inr (unchanged _ after (same_stepped world _ world.checkpoint))
changes_possible base world roll_head (store fault.device) new after = inr (unchanged _ after (same_failed world))
changes_possible base world roll_open done new after = inr (unchanged _ after (same_stepped world _ world.checkpoint))
changes_possible base world roll_open (store fault.device) new after = inr (unchanged _ after (same_failed world))
changes_possible base world image_close done new after = inr (unchanged _ after (same_stepped world _ world.checkpoint))
changes_possible base world image_close (store fault.no_memory) new after = inr (unchanged world after (same world))
changes_possible base world image_close (store fault.device) new after = inr (unchanged _ after (same_failed world))
changes_possible base world piece done new after = inr (unchanged _ after (same_stepped world _ world.checkpoint))
changes_possible base world piece (store fault.device) new after = inr (unchanged _ after (same_failed world))
changes_possible base world finish done new after = inr (unchanged _ after (same_finished world _ world.checkpoint))
changes_possible base world finish (store fault.device) new after = inr (unchanged _ after (same_failed world))
changes_possible base world _ _ new after = absurd after

pub changes : (base : State) (world : World) (event : Event) (outcome : Outcome) (new : World)
    → After base world event outcome new → IsGiven base world new ⊎ Unchanged world new
changes base world event (store fault.failed) new after = inr (subst (Unchanged world) (sym after.1) (same world))
changes base world event not_now new after = inr (subst (Unchanged world) (sym after.2) (same world))
changes base world event outcome new after = changes_possible base world event outcome new after.2

-- What each event keeps, all events keep.
abbrev IsKept : State → (World → Type 0) → Type 0
IsKept base P = (world new : World) → IsGiven base world new ⊎ Unchanged world new → P world → P new

always : (base : State) (P : World → Type 0) → IsKept base P
    → (world : World) (events : List (Event × Outcome)) (new : World) → Worlds base world events new → P world → P new
always base P kept world [] new worlds holds = subst P (sym worlds) holds
always base P kept world (first ∷ events) new (mid, after, rest) holds =
    always base P kept mid events new rest (kept world mid (changes base world first.0 first.1 mid after) holds)

-- What was applied are steps from the state that the opening gave.
abbrev HasSteps : State → World → Type 0
HasSteps base world = (state : State) × Steps base world.applied state

steps_given : (base : State) (applied : List Record) (space : ℕ) (c : Call) (answer : Reply) (b : Bool) → (old : State)
    × (new : State) × Steps base applied old × Step old space c answer new
    → (state : State) × Steps base (applied
    ++ (if b then record { space = space; call = c; reply = answer } ∷ [] else [])) state
steps_given base applied space c answer true (old, new, run, step) =
    (new, steps-push base old new applied (record { space = space; call = c; reply = answer }) run step)
steps_given base applied space c answer false (old, new, run, step) =
    (old, subst (λ (l : List Record). Steps base l old) (sym (append-nil applied)) run)

keeps_steps : (base : State) → IsKept base (HasSteps base)
keeps_steps base world new (inl gives) holds =
    subst (HasSteps base) (sym gives.after)
    (steps_given base world.applied gives.space gives.call gives.answer
    (has_record gives.call gives.answer) gives.may.0)
keeps_steps base world new (inr is) holds =
    (holds.0, subst (λ (l : List Record). Steps base l holds.0) (sym is.applied) holds.1)

-- A ticket's reply is that of a step from the state after a prefix of the records. What it saw is this prefix, and then
-- the call's own record, if it has one.
pub record IsOfStep (base : State) (applied : List Record) (ticket : Ticket) : Type 0 where
  pub space : ℕ
  pub call : Call
  pub before : ℕ
  pub within : before ≤ length applied
  pub step : (old : State) × (new : State) × Steps base (take before applied) old × Step old space call ticket.answer new
  pub seen : ticket.seen ≤ length applied
  pub saw : take ticket.seen applied ≡ take before applied ++ record_of space call ticket.answer

abbrev EachOfStep : State → List Record → List Ticket → Type 0
EachOfStep base applied [] = Unit {0}
EachOfStep base applied (ticket ∷ tickets) = IsOfStep base applied ticket × EachOfStep base applied tickets

of_step_further : (base : State) (applied more : List Record) (ticket : Ticket) → IsOfStep base applied ticket
    → IsOfStep base (applied ++ more) ticket
of_step_further base applied more ticket is = record {
  space = is.space;
  call = is.call;
  before = is.before;
  within = omega (arith, is.within, length-append applied more);
  step =
      subst (λ (l : List Record). (old : State) × (new : State) × Steps base l old
      × Step old is.space is.call ticket.answer new)
      (sym (take-append-le is.before applied more is.within)) is.step;
  seen = omega (arith, is.seen, length-append applied more);
  saw =
      take-append-le ticket.seen applied more is.seen ∙ is.saw ∙ ap
      (λ (l : List Record). l ++ record_of is.space is.call ticket.answer)
      (sym (take-append-le is.before applied more is.within));
}

each_further : (base : State) (applied more : List Record) (tickets : List Ticket) → EachOfStep base applied tickets
    → EachOfStep base (applied ++ more) tickets
each_further base applied more [] each = tt
each_further base applied more (ticket ∷ tickets) each =
    (of_step_further base applied more ticket each.0, each_further base applied more tickets each.1)

each_more : (base : State) (applied : List Record) (tickets : List Ticket) (ticket : Ticket)
    → EachOfStep base applied tickets → IsOfStep base applied ticket → EachOfStep base applied (tickets ++ ticket ∷ [])
each_more base applied [] ticket each is = (is, tt)
each_more base applied (first ∷ tickets) ticket each is = (each.0, each_more base applied tickets ticket each.1 is)

each_answered : (base : State) (applied : List Record) (tickets : List Ticket) (n : ℕ) → EachOfStep base applied tickets
    → EachOfStep base applied (with_answered tickets n)
each_answered base applied [] n each = tt
each_answered base applied (ticket ∷ tickets) zero each = (
  record {
    space = each.0.space;
    call = each.0.call;
    before = each.0.before;
    within = each.0.within;
    step = each.0.step;
    seen = each.0.seen;
    saw = each.0.saw;
  },
  each.1,
)
each_answered base applied (ticket ∷ tickets) (suc n) each = (each.0, each_answered base applied tickets n each.1)

each_at : (base : State) (applied : List Record) (tickets : List Ticket) (n : ℕ) (ticket : Ticket)
    → slice_get tickets n ≡ Some ticket → EachOfStep base applied tickets → IsOfStep base applied ticket
each_at base applied [] n ticket is each = absurd (cc is)
each_at base applied (first ∷ tickets) zero ticket is each =
    subst (λ (o : Option Ticket). elim o as (λ _. Type 0) [ None ↦ Unit {0} | Some t ↦ IsOfStep base applied t ]) is
    each.0
each_at base applied (first ∷ tickets) (suc n) ticket is each = each_at base applied tickets n ticket is each.1

new_of_step : (base : State) (world : World) (space : ℕ) (c : Call) (answer : Reply) → IsStep base world space c answer
    → IsOfStep base (world.applied ++ record_of space c answer)
    (record { answer = answer; seen = length (world.applied ++ record_of space c answer); answered = false })
new_of_step base world space c answer step =
    let before : take (length world.applied) (world.applied ++ record_of space c answer) ≡ world.applied =
    take_at world.applied (record_of space c answer) (length world.applied) refl in
    record {
      space = space;
      call = c;
      before = length world.applied;
      within = omega (arith, length-append world.applied (record_of space c answer));
      step =
          subst (λ (l : List Record). (old : State) × (new : State) × Steps base l old × Step old space c answer new)
          (sym before) step;
      seen = omega arith;
      saw =
          take_all (length (world.applied ++ record_of space c answer)) (world.applied ++ record_of space c answer)
          (omega arith) ∙ ap (λ (l : List Record). l ++ record_of space c answer) (sym before);
    }

keeps_tickets : (base : State) → IsKept base (λ world. EachOfStep base world.applied world.tickets)
keeps_tickets base world new (inl gives) holds =
    subst (λ (w : World). EachOfStep base w.applied w.tickets) (sym gives.after)
    (each_more base _ world.tickets _
    (each_further base world.applied (record_of gives.space gives.call gives.answer) world.tickets holds)
    (new_of_step base world gives.space gives.call gives.answer gives.may.0))
keeps_tickets base world new (inr is) holds =
    subst (λ (l : List Record). EachOfStep base l new.tickets) (sym is.applied)
    (elim is.tickets as (λ _. EachOfStep base world.applied new.tickets) [
      | inl alike ↦ subst (EachOfStep base world.applied) (sym alike) holds
      | inr (n, answered) ↦ subst (EachOfStep base world.applied) (sym answered)
          (each_answered base world.applied world.tickets n holds)
    ])

-- an epoch log holds no more than it may
abbrev LogFits : World → Type 0
LogFits world = log_length world ≤ MAX_RECORDS

row_given : (world : World) (space : ℕ) (c : Call) (answer : Reply) (b : Bool)
    → (b ≡ true → log_length world < MAX_RECORDS) → log_length world ≤ MAX_RECORDS
    → world.opened + (length (world.applied
    ++ (if b then record { space = space; call = c; reply = answer } ∷ [] else [])) - world.earlier) ≤ MAX_RECORDS
row_given world space c answer true room fits =
    let below : log_length world < MAX_RECORDS = room refl in
    omega (arith, below, length-append world.applied (record { space = space; call = c; reply = answer } ∷ []))
row_given world space c answer false room fits = omega (arith, fits, length-append {A = Record} world.applied [])

keeps_row : (base : State) → IsKept base LogFits
keeps_row base world new (inl gives) holds =
    subst LogFits (sym gives.after)
    (row_given world gives.space gives.call gives.answer (has_record gives.call gives.answer) gives.may.1 holds)
keeps_row base world new (inr is) holds = omega (arith, is.row, holds)

-- Whatever events come after the opening, what was applied are steps.
abbrev pub AppliedAreSteps : Type 0
AppliedAreSteps =
    (base : State) (epoch opened : ℕ) (events : List (Event × Outcome)) (world : World)
    → Worlds base (first_world epoch opened) events world → (state : State) × Steps base world.applied state

pub applied_are_steps : AppliedAreSteps
applied_are_steps base epoch opened events world worlds =
    always base (HasSteps base) (keeps_steps base) (first_world epoch opened) events world worlds (base, refl)

-- Each ticket keeps the reply of a step, and saw the records up to that step.
abbrev pub TicketsAreSteps : Type 0
TicketsAreSteps =
    (base : State) (epoch opened : ℕ) (events : List (Event × Outcome)) (world : World)
    → Worlds base (first_world epoch opened) events world
    → (n : ℕ) (ticket : Ticket) → slice_get world.tickets n ≡ Some ticket → IsOfStep base world.applied ticket

pub tickets_are_steps : TicketsAreSteps
tickets_are_steps base epoch opened events world worlds n ticket is =
    each_at base world.applied world.tickets n ticket is
    (always base (λ w. EachOfStep base w.applied w.tickets) (keeps_tickets base)
    (first_world epoch opened) events world worlds tt)

-- No epoch log outgrows its segment.
abbrev pub LogsFit : Type 0
LogsFit =
    (base : State) (epoch opened : ℕ) (events : List (Event × Outcome)) (world : World) → opened ≤ MAX_RECORDS
    → Worlds base (first_world epoch opened) events world → log_length world ≤ MAX_RECORDS

pub logs_fit : LogsFit
logs_fit base epoch opened events world few worlds =
    always base LogFits (keeps_row base) (first_world epoch opened) events world worlds (omega (arith, few))

-- After a fault of the device: the store has failed, and this many records are stored.
pub record IsStuck (n : ℕ) (world : World) : Type 0 where
  pub failed : world.failed ≡ true
  pub stored : world.stored ≡ n

stuck_durable : (n : ℕ) (world : World) (receipts : List Receipt) → IsStuck n world
    → IsStuck n (after_durable world receipts)
stuck_durable n world [] stuck = stuck
stuck_durable n world (of_append size ∷ receipts) stuck = record { failed = stuck.failed; stored = stuck.stored }
stuck_durable n world (of_finish ∷ receipts) stuck = record { failed = stuck.failed; stored = stuck.stored }

stuck_possible : (n : ℕ) (base : State) (world : World) (event : Event) (outcome : Outcome) (new : World)
    → is_of_store event ≡ false → AfterPossible base world event outcome new → IsStuck n world → IsStuck n new
stuck_possible n base world (submit space call) (given answer) new other after stuck =
    subst (IsStuck n) (sym after.1) (record { failed = stuck.failed; stored = stuck.stored })
stuck_possible n base world (submit space call) epoch_full new other after stuck = subst (IsStuck n) (sym after.1) stuck
stuck_possible n base world (submit space call) no_memory new other after stuck = subst (IsStuck n) (sym after) stuck
stuck_possible n base world (submit space call) outcome new other after stuck = absurd after
stuck_possible n base world take_batch done new other after stuck =
    subst (IsStuck n) (sym after) (record { failed = stuck.failed; stored = stuck.stored })
stuck_possible n base world take_batch outcome new other after stuck = absurd after
stuck_possible n base world durable done new other after stuck =
    subst (IsStuck n) (sym after) (stuck_durable n world world.receipts stuck)
stuck_possible n base world durable outcome new other after stuck = absurd after
stuck_possible n base world (ask_reply ticket) (replied answer) new other after stuck =
    subst (IsStuck n) (sym after.3) (record { failed = stuck.failed; stored = stuck.stored })
stuck_possible n base world (ask_reply ticket) outcome new other after stuck = absurd after
stuck_possible n base world cut done new other after stuck =
    subst (IsStuck n) (sym after.2) (record { failed = stuck.failed; stored = stuck.stored })
stuck_possible n base world cut no_memory new other after stuck = subst (IsStuck n) (sym after) stuck
stuck_possible n base world cut outcome new other after stuck = absurd after
stuck_possible n base world event outcome new other after stuck = absurd (cc other)

stuck_after : (n : ℕ) (base : State) (world : World) (event : Event) (outcome : Outcome) (new : World)
    → After base world event outcome new → IsStuck n world → IsStuck n new
stuck_after n base world event (store fault.failed) new after stuck = subst (IsStuck n) (sym after.1) stuck
stuck_after n base world event not_now new after stuck = subst (IsStuck n) (sym after.2) stuck
stuck_after n base world event outcome new after stuck =
    let other : (true && is_of_store event) ≡ false =
    subst (λ (b : Bool). (b && is_of_store event) ≡ false) stuck.failed after.0 in
    stuck_possible n base world event outcome new other after.2 stuck

stuck_worlds : (n : ℕ) (base : State) (world : World) (events : List (Event × Outcome)) (new : World)
    → Worlds base world events new → IsStuck n world → IsStuck n new
stuck_worlds n base world [] new worlds stuck = subst (IsStuck n) (sym worlds) stuck
stuck_worlds n base world (first ∷ events) new (mid, after, rest) stuck =
    stuck_worlds n base mid events new rest (stuck_after n base world first.0 first.1 mid after stuck)

-- lists of events one after another
worlds_joined : (base : State) (world mid new : World) (events more : List (Event × Outcome))
    → Worlds base world events mid → Worlds base mid more new → Worlds base world (events ++ more) new
worlds_joined base world mid new [] more worlds later = subst (λ (w : World). Worlds base w more new) worlds later
worlds_joined base world mid new (first ∷ events) more worlds later =
    (worlds.0, worlds.1, worlds_joined base worlds.0 mid new events more worlds.2 later)

-- Once the device failed, nothing more is stored, and nothing newer is acknowledged.
abbrev pub NothingNewIsAcknowledged : Type 0
NothingNewIsAcknowledged =
    (base : State) (epoch opened : ℕ) (events more : List (Event × Outcome)) (world new : World)
    → Worlds base (first_world epoch opened) events world → world.failed ≡ true → Worlds base world more new
    → (acknowledged new ≡ acknowledged world) × (new.stored ≡ world.stored)

pub nothing_new_is_acknowledged : NothingNewIsAcknowledged
nothing_new_is_acknowledged base epoch opened events more world new worlds failed later =
    let stuck = stuck_worlds world.stored base world more new later (record { failed = failed; stored = refl }) in
    let before : acknowledged world ≡ world.stored = acknowledged_is_stored base epoch opened events world worlds in
    let after : acknowledged new ≡ new.stored =
    acknowledged_is_stored base epoch opened (events ++ more) new
    (worlds_joined base (first_world epoch opened) world new events more worlds later) in
    (after ∙ stuck.stored ∙ sym before, stuck.stored)
