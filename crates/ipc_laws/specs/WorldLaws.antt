-- Whatever events come: what is acknowledged is stored, what is stored was applied, and what was applied is a run of
-- the machine.
use Rattle.std.specs.Prelude.{◌≡◌, ℕ, zero, suc, ◌+◌, ◌-◌, ◌≤◌, max, Bool, true, false, List, [], ◌∷◌, ◌++◌, length, Option, None, Some, slice_get, if◌then◌else◌, refl, ◌↔◌}
use Rattle.std.proofs.Common.{sym, ◌∙◌, ap, subst, arith, length-append}
use Rattle.std.proofs.lemmas.Bool.{ltb-true}
use Rattle.ipc_model.specs.declared.call.Call.{Call}
use Rattle.ipc_model.specs.declared.reply.Reply.{Reply}
use Rattle.ipc_model.specs.state.State.{State}
use Rattle.ipc_model.specs.store.Faults as fault
use Rattle.ipc_model.specs.world.World.{Event, fails_first, Outcome, Ticket, Batch, Receipt, Checkpoint, World, Worlds, After, AfterPossible, CanAppend, CanReply, IsPossible, submit, take_batch, append, durable, ask_reply, cut, roll_close, roll_head, roll_open, image_close, piece, finish, given, replied, done, not_now, epoch_full, no_memory, store, of_append, of_finish, first_world, acknowledged, greatest_seen, is_after, next_batch, record_of, after_submit, after_take, after_append, after_durable, with_answered, after_cut, with_checkpoint}

-- how many records of a batch that is out aren't appended yet
abbrev waiting : Option Batch → ℕ
waiting None = 0
waiting (Some batch) = if batch.appended then 0 else batch.size

-- how many receipts of appends are out, and whether a batch is out that was appended
abbrev appends : List Receipt → ℕ
appends [] = 0
appends (of_append size ∷ receipts) = 1 + appends receipts
appends (of_finish ∷ receipts) = appends receipts

abbrev one_if : Bool → ℕ
one_if b = if b then 1 else 0

abbrev is_out : Option Batch → ℕ
is_out None = 0
is_out (Some batch) = one_if batch.appended

appends-more : (receipts : List Receipt) (receipt : Receipt)
    → appends (receipts ++ receipt ∷ []) ≡ appends receipts + appends (receipt ∷ [])
appends-more [] receipt = omega arith
appends-more (of_append size ∷ receipts) receipt = omega (arith, appends-more receipts receipt)
appends-more (of_finish ∷ receipts) receipt = appends-more receipts receipt

-- how many stored records have their receipt out
abbrev unhanded : List Receipt → ℕ
unhanded [] = 0
unhanded (of_append size ∷ receipts) = size + unhanded receipts
unhanded (of_finish ∷ receipts) = unhanded receipts

unhanded-more : (receipts : List Receipt) (receipt : Receipt)
    → unhanded (receipts ++ receipt ∷ []) ≡ unhanded receipts + unhanded (receipt ∷ [])
unhanded-more [] receipt = omega arith
unhanded-more (of_append size ∷ receipts) receipt = omega (arith, unhanded-more receipts receipt)
unhanded-more (of_finish ∷ receipts) receipt = unhanded-more receipts receipt

abbrev batch_if : Bool → World → Batch
batch_if b world =
    if b then record { epoch = world.epoch - 1; size = world.earlier - world.taken; appended = false }
    else record { epoch = world.epoch; size = length world.applied - world.taken; appended = false }

-- every ticket saw no more records than there are
abbrev SeenWithin : ℕ → List Ticket → Type 0
SeenWithin n [] = Unit {0}
SeenWithin n (ticket ∷ tickets) = (ticket.seen ≤ n) × SeenWithin n tickets

-- and every ticket whose reply was given no more than this
abbrev AnsweredWithin : ℕ → List Ticket → Type 0
AnsweredWithin n [] = Unit {0}
AnsweredWithin n (ticket ∷ tickets) = (ticket.answered ≡ true → ticket.seen ≤ n) × AnsweredWithin n tickets

-- What holds in every world: records are stored as they are taken, taken as they are applied, and a reply is given once
-- the receipts of all that it saw are handed in.
pub record InOrder (world : World) : Type 0 where
  pub earlier : world.earlier ≤ length world.applied
  pub taken : world.taken ≤ length world.applied
  pub stored : world.stored + waiting world.batch ≡ world.taken
  pub seen : SeenWithin (length world.applied) world.tickets
  -- at most one append's receipt is out, while its batch is
  pub receipts : appends world.receipts ≡ is_out world.batch
  pub handed : world.handed + unhanded world.receipts ≡ world.stored
  pub answered : AnsweredWithin world.handed world.tickets

seen_further : (m n : ℕ) (tickets : List Ticket) → m ≤ n → SeenWithin m tickets → SeenWithin n tickets
seen_further m n [] le within = tt
seen_further m n (ticket ∷ tickets) le within = (omega (arith, le, within.0), seen_further m n tickets le within.1)

seen_more : (n : ℕ) (tickets : List Ticket) (ticket : Ticket) → SeenWithin n tickets → ticket.seen ≤ n
    → SeenWithin n (tickets ++ ticket ∷ [])
seen_more n [] ticket within le = (le, tt)
seen_more n (first ∷ tickets) ticket within le = (within.0, seen_more n tickets ticket within.1 le)

seen_answered : (n : ℕ) (tickets : List Ticket) (k : ℕ) → SeenWithin n tickets → SeenWithin n (with_answered tickets k)
seen_answered n [] k within = tt
seen_answered n (ticket ∷ tickets) zero within = within
seen_answered n (ticket ∷ tickets) (suc k) within = (within.0, seen_answered n tickets k within.1)

answered_further : (m n : ℕ) (tickets : List Ticket) → m ≤ n → AnsweredWithin m tickets → AnsweredWithin n tickets
answered_further m n [] le within = tt
answered_further m n (ticket ∷ tickets) le within =
    let further : ticket.answered ≡ true → ticket.seen ≤ n =
    λ is. (let here : ticket.seen ≤ m = within.0 is in omega (arith, le, here)) in
    (further, answered_further m n tickets le within.1)

answered_more : (n : ℕ) (tickets : List Ticket) (ticket : Ticket) → AnsweredWithin n tickets → ticket.answered ≡ false
    → AnsweredWithin n (tickets ++ ticket ∷ [])
answered_more n [] ticket within new = ((λ is. absurd (cc (new, is))), tt)
answered_more n (first ∷ tickets) ticket within new = (within.0, answered_more n tickets ticket within.1 new)

answered_here : (n : ℕ) (tickets : List Ticket) (k : ℕ) (ticket : Ticket) → slice_get tickets k ≡ Some ticket
    → ticket.seen ≤ n → AnsweredWithin n tickets → AnsweredWithin n (with_answered tickets k)
answered_here n [] k ticket is le within = tt
answered_here n (first ∷ tickets) zero ticket is le within =
    let same : first.seen ≡ ticket.seen =
    ap {B = ℕ} (λ (o : Option Ticket). elim o as (λ _. ℕ) [ None ↦ 0 | Some t ↦ t.seen ]) is in
    ((λ _. omega (arith, same, le)), within.1)
answered_here n (first ∷ tickets) (suc k) ticket is le within =
    (within.0, answered_here n tickets k ticket is le within.1)

greatest_within : (n : ℕ) (tickets : List Ticket) → AnsweredWithin n tickets → greatest_seen tickets ≤ n
greatest_within n [] within = omega arith
greatest_within n (ticket ∷ tickets) within =
    elim ticket.answered as (λ (b : Bool). (b ≡ true → ticket.seen ≤ n)
    → (if b then max ticket.seen (greatest_seen tickets) else greatest_seen tickets) ≤ n) [
      | true ↦ λ (here : _). (let le : ticket.seen ≤ n = here refl in omega
          (arith, le, greatest_within n tickets within.1))
      | false ↦ λ (_ : _). greatest_within n tickets within.1
    ] within.0

submitted : (world : World) (space : ℕ) (call : Call) (answer : Reply) → InOrder world
    → InOrder (after_submit world space call answer)
submitted world space call answer order =
    let longer : length (world.applied ++ record_of space call answer)
    ≡ length world.applied + length (record_of space call answer) = length-append world.applied
    (record_of space call answer) in
    record {
      earlier = omega (arith, longer, order.earlier);
      taken = omega (arith, longer, order.taken);
      stored = order.stored;
      receipts = order.receipts;
      handed = order.handed;
      answered = answered_more world.handed world.tickets _ order.answered refl;
      seen =
          seen_more (length (world.applied ++ record_of space call answer)) world.tickets _
          (seen_further (length world.applied) (length (world.applied ++ record_of space call answer)) world.tickets
          (omega (arith, longer)) order.seen) (omega arith);
    }

next_fits : (world : World) → InOrder world → world.taken + (next_batch world).size ≤ length world.applied
next_fits world order =
    elim (is_after world) as (λ (b : Bool). is_after world ≡ b
    → world.taken + (batch_if b world).size ≤ length world.applied) [
      | true ↦ λ (beyond : _). omega (arith, order.earlier, ltb-true world.taken world.earlier beyond)
      | false ↦ λ (_ : _). omega (arith, order.taken)
    ] refl

next_is_new : (world : World) → (next_batch world).appended ≡ false
next_is_new world =
    elim (is_after world) as (λ (b : Bool). (batch_if b world).appended ≡ false) [ true ↦ refl | false ↦ refl ]

took : (world : World) → IsPossible world take_batch → InOrder world → InOrder (after_take world)
took world possible order =
    let none : waiting world.batch ≡ 0 = ap waiting possible.1 in
    let waits : waiting (Some (next_batch world)) ≡ (next_batch world).size =
    ap (λ (b : Bool). if b then 0 else (next_batch world).size) (next_is_new world) in
    record {
      earlier = order.earlier;
      taken = next_fits world order;
      stored = omega (arith, order.stored, none, waits);
      seen = order.seen;
      receipts =
          omega (
            arith,
            order.receipts,
            ap is_out possible.1,
            ap {B = ℕ} (λ (b : Bool). if b then 1 else 0) (next_is_new world),
          );
      handed = order.handed;
      answered = order.answered;
    }

appended : (world : World) (batch : Option Batch) → world.batch ≡ batch → CanAppend world batch → InOrder world
    → InOrder (after_append world batch)
appended world None is possible order = order
appended world (Some batch) is possible order =
    let waits : waiting world.batch ≡ batch.size =
    ap waiting is ∙ ap (λ (b : Bool). if b then 0 else batch.size) possible.0 in
    let not_out : is_out world.batch ≡ 0 = ap is_out is ∙ ap {B = ℕ} (λ (b : Bool). if b then 1 else 0) possible.0 in
    record {
      earlier = order.earlier;
      taken = order.taken;
      stored = omega (arith, order.stored, waits);
      seen = order.seen;
      receipts = omega (arith, order.receipts, not_out, appends-more world.receipts (of_append batch.size));
      handed = omega (arith, order.handed, unhanded-more world.receipts (of_append batch.size));
      answered = order.answered;
    }

-- a batch whose append's receipt is out no longer waits
none_waiting : (batch : Option Batch) → is_out batch ≡ 1 → waiting batch ≡ 0
none_waiting None out = absurd (omega (arith, out))
none_waiting (Some batch) out =
    elim batch.appended as (λ (b : Bool). one_if b ≡ 1 → (if b then 0 else batch.size) ≡ 0)
    [ true ↦ λ (_ : _). refl | false ↦ λ (e : _). absurd (omega (arith, e)) ] out

out_once : (batch : Option Batch) → is_out batch ≤ 1
out_once None = omega arith
out_once (Some batch) =
    elim batch.appended as (λ (b : Bool). (if b then 1 else 0) ≤ 1) [ true ↦ omega arith | false ↦ omega arith ]

handed_in : (world : World) (receipts : List Receipt) → world.receipts ≡ receipts → InOrder world
    → InOrder (after_durable world receipts)
handed_in world [] is order = order
handed_in world (of_append size ∷ rest) is order =
    let counts : 1 + appends rest ≡ is_out world.batch = sym (ap appends is) ∙ order.receipts in
    let out : is_out world.batch ≡ 1 = omega (arith, counts, out_once world.batch) in
    record {
      earlier = order.earlier;
      taken = order.taken;
      stored = omega (arith, order.stored, none_waiting world.batch out);
      seen = order.seen;
      receipts = omega (arith, counts, out);
      handed = omega (arith, order.handed, ap unhanded is);
      answered = answered_further world.handed (world.handed + size) world.tickets (omega arith) order.answered;
    }
handed_in world (of_finish ∷ rest) is order =
    record {
      earlier = order.earlier;
      taken = order.taken;
      stored = order.stored;
      seen = order.seen;
      receipts = sym (ap appends is) ∙ order.receipts;
      handed = omega (arith, order.handed, ap unhanded is);
      answered = order.answered;
    }

-- what a checkpoint's steps change doesn't matter here
stepped : (world : World) (change : Checkpoint → Checkpoint) (checkpoint : Option Checkpoint) → InOrder world
    → InOrder (with_checkpoint world change checkpoint)
stepped world change None order = order
stepped world change (Some checkpoint) order =
    record {
      earlier = order.earlier;
      taken = order.taken;
      stored = order.stored;
      seen = order.seen;
      receipts = order.receipts;
      handed = order.handed;
      answered = order.answered;
    }

finished_order : (world : World) → InOrder world → (change : Checkpoint → Checkpoint) (checkpoint : Option Checkpoint)
    → InOrder (record (with_checkpoint world change checkpoint) { receipts = world.receipts ++ of_finish ∷ [] })
finished_order world order change None =
    record {
      earlier = order.earlier;
      taken = order.taken;
      stored = order.stored;
      seen = order.seen;
      receipts = omega (arith, order.receipts, appends-more world.receipts of_finish);
      handed = omega (arith, order.handed, unhanded-more world.receipts of_finish);
      answered = order.answered;
    }
finished_order world order change (Some checkpoint) =
    record {
      earlier = order.earlier;
      taken = order.taken;
      stored = order.stored;
      seen = order.seen;
      receipts = omega (arith, order.receipts, appends-more world.receipts of_finish);
      handed = omega (arith, order.handed, unhanded-more world.receipts of_finish);
      answered = order.answered;
    }

cut_order : (world : World) (state : State) → InOrder world → InOrder (after_cut world state)
cut_order world state order =
    record {
      earlier = omega arith;
      taken = order.taken;
      stored = order.stored;
      seen = order.seen;
      receipts = order.receipts;
      handed = order.handed;
      answered = order.answered;
    }

answered_order : (world : World) (ticket : ℕ) (kept : Ticket) → slice_get world.tickets ticket ≡ Some kept
    → CanReply world (slice_get world.tickets ticket) → InOrder world
    → InOrder (record world { tickets = with_answered world.tickets ticket })
answered_order world ticket kept is possible order = record {
  earlier = order.earlier;
  taken = order.taken;
  stored = order.stored;
  seen = seen_answered (length world.applied) world.tickets ticket order.seen;
  receipts = order.receipts;
  handed = order.handed;
  answered =
      answered_here world.handed world.tickets ticket kept is (subst (CanReply world) is possible).1 order.answered;
}

failed_order : (world : World) → InOrder world → InOrder (record world { failed = true })
failed_order world order =
    record {
      earlier = order.earlier;
      taken = order.taken;
      stored = order.stored;
      seen = order.seen;
      receipts = order.receipts;
      handed = order.handed;
      answered = order.answered;
    }

possible_order : (base : State) (world : World) (event : Event) (outcome : Outcome) (new : World)
    → IsPossible world event → AfterPossible base world event outcome new → InOrder world → InOrder new
possible_order base world (submit space call) (given answer) new possible after order =
    subst InOrder (sym after.1) (submitted world space call answer order)
possible_order base world (submit space call) epoch_full new possible after order = subst InOrder (sym after.1) order
possible_order base world (submit space call) no_memory new possible after order = subst InOrder (sym after) order
possible_order base world take_batch done new possible after order =
    subst InOrder (sym after) (took world possible order)
possible_order base world append done new possible after order =
    subst InOrder (sym after) (appended world world.batch refl possible order)
possible_order base world append (store fault.device) new possible after order =
    subst InOrder (sym after) (failed_order world order)
possible_order base world durable done new possible after order =
    subst InOrder (sym after) (handed_in world world.receipts refl order)
possible_order base world (ask_reply ticket) (replied answer) new possible after order =
    subst InOrder (sym after.3) (answered_order world ticket after.0 after.1 possible order)
possible_order base world cut done new possible after order =
    subst InOrder (sym after.2) (cut_order world after.0 order)
possible_order base world cut no_memory new possible after order = subst InOrder (sym after) order
possible_order base world roll_close done new possible after order =
    subst InOrder (sym after) (stepped world _ world.checkpoint order)
possible_order base world roll_close (store fault.device) new possible after order =
    subst InOrder (sym after) (failed_order world order)
possible_order base world roll_head done new possible after order =
    subst InOrder (sym after) (stepped world _ world.checkpoint order)
possible_order base world roll_head (store fault.device) new possible after order =
    subst InOrder (sym after) (failed_order world order)
possible_order base world roll_open done new possible after order =
    subst InOrder (sym after) (stepped world _ world.checkpoint order)
possible_order base world roll_open (store fault.device) new possible after order =
    subst InOrder (sym after) (failed_order world order)
possible_order base world image_close done new possible after order =
    subst InOrder (sym after) (stepped world _ world.checkpoint order)
possible_order base world image_close (store fault.no_memory) new possible after order =
    subst InOrder (sym after) order
possible_order base world image_close (store fault.device) new possible after order =
    subst InOrder (sym after) (failed_order world order)
possible_order base world piece done new possible after order =
    subst InOrder (sym after) (stepped world _ world.checkpoint order)
possible_order base world piece (store fault.device) new possible after order =
    subst InOrder (sym after) (failed_order world order)
possible_order base world finish done new possible after order =
    subst InOrder (sym after) (finished_order world order _ world.checkpoint)
possible_order base world finish (store fault.device) new possible after order =
    subst InOrder (sym after) (failed_order world order)
possible_order base world _ _ new possible after order = absurd after

after_order : (base : State) (world : World) (event : Event) (outcome : Outcome) (new : World)
    → After base world event outcome new → InOrder world → InOrder new
after_order base world event (store fault.failed) new after order = subst InOrder (sym after.1) order
after_order base world event not_now new after order = subst InOrder (sym after.2) order
after_order base world event outcome new after order = possible_order base world event outcome new after.1 after.2 order

first_order : (epoch opened : ℕ) → InOrder (first_world epoch opened)
first_order epoch opened =
    record {
      earlier = omega arith;
      taken = omega arith;
      stored = refl;
      seen = tt;
      receipts = refl;
      handed = refl;
      answered = tt;
    }

worlds_order : (base : State) (world : World) (events : List (Event × Outcome)) (new : World)
    → Worlds base world events new → InOrder world → InOrder new
worlds_order base world [] new worlds order = subst InOrder (sym worlds) order
worlds_order base world (first ∷ events) new (mid, after, rest) order =
    worlds_order base mid events new rest (after_order base world first.0 first.1 mid after order)

-- Whatever events come after the opening: no more is acknowledged than was applied, and no more is stored.
abbrev pub AcknowledgedWithinApplied : Type 0
AcknowledgedWithinApplied =
    (base : State) (epoch opened : ℕ) (events : List (Event × Outcome)) (world : World)
    → Worlds base (first_world epoch opened) events world → (acknowledged world ≤ length world.applied)
    × (world.stored ≤ length world.applied)

-- And what is acknowledged is stored: each reply that was given saw only stored records.
abbrev pub AcknowledgedIsStored : Type 0
AcknowledgedIsStored =
    (base : State) (epoch opened : ℕ) (events : List (Event × Outcome)) (world : World)
    → Worlds base (first_world epoch opened) events world → acknowledged world ≡ world.stored

pub acknowledged_is_stored : AcknowledgedIsStored
acknowledged_is_stored base epoch opened events world worlds =
    let order = worlds_order base (first_world epoch opened) events world worlds (first_order epoch opened) in
    omega (arith, order.handed, greatest_within world.handed world.tickets order.answered)

pub acknowledged_within_applied : AcknowledgedWithinApplied
acknowledged_within_applied base epoch opened events world worlds =
    let order = worlds_order base (first_world epoch opened) events world worlds (first_order epoch opened) in
    let stored : world.stored ≤ length world.applied = omega (arith, order.stored, order.taken) in
    (omega (arith, stored, acknowledged_is_stored base epoch opened events world worlds), stored)

-- Where the device hasn't failed, an event answers "not now" exactly where it isn't possible.
abbrev pub NotNowExactly : Type 0
NotNowExactly =
    (base : State) (world new : World) (event : Event) (outcome : Outcome) → After base world event outcome new
    → fails_first world event ≡ false → (IsPossible world event → ⊥) ↔ (outcome ≡ not_now)

pub not_now_exactly : NotNowExactly
not_now_exactly base world new event (store fault.failed) after works = absurd (cc (after.0, works))
not_now_exactly base world new event not_now after works = ((λ (_ : _). refl), (λ (_ : _). after.1))
not_now_exactly base world new event outcome after works =
    ((λ (never : _). absurd (never after.1)), (λ (is : _). absurd (cc is)))
