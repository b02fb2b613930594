-- A core at first, and events one after another.
use Rattle.std.proofs.Common.{◌≡◌, ℕ, ◌≤◌, List, [], ◌∷◌, ◌++◌, length, refl, subst, ◌∙◌, arith}
use Rattle.disk.specs.Moments.{View, MayLeave, Passes}
use Rattle.disk.specs.Slots.{Slots}
use Rattle.ipc_model.specs.state.Circular.{Acyclic}
use Rattle.ipc_model.specs.state.LawfulState.{LawfulState}
use Rattle.ipc_model.specs.state.State.{State}
use Rattle.ipc_model.specs.declared.reply.Reply.{Reply}
use Rattle.ipc_model.specs.world.World.{World, After, first_world, acknowledged}
use Rattle.journal.specs.declared.segment.Segment.{Segment}
use Rattle.store_half.specs.phases.Passed.{IsKept}
use Rattle.system.specs.Core.{HasNextNumber, IsNumbered, Runs, RunsThrough, StandsFor, StandsFrom, Steps, SystemValue, first_system}
use Rattle.system.specs.Events.{event_of, outcome_of}
use Rattle.system.specs.declared.event.Event.{Event}
use Rattle.system.specs.declared.event.Outcome.{Outcome}
use Rattle.system.specs.declared.event.Outcome.TheVariants as outcome
use Rattle.system.proofs.Tickets.{none_fresh}

module _ {D : Type 0} (honest : Type 0) (view : D → View) (base : State) where
  -- A core that continues from an opened store.
  pub first_stands : (kernel : State) (disk : D) (segment : Segment) → kernel ≡ base → LawfulState base → Acyclic base.ipc
      → (honest → IsKept (view disk) segment kernel)
      → StandsFor honest view base (first_world segment.epoch segment.records) (first_system kernel disk segment)
  first_stands kernel disk segment is lawful acyclic kept = record {
    epoch = refl;
    applied = record { run = is; fit = tt; records = tt; made_is = refl; lawful = lawful; acyclic = acyclic };
    handed = refl;
    older = 0;
    counts = record {
      earlier_within = omega arith;
      taken_within = omega arith;
      log_is = omega arith;
      room = λ some. absurd (omega (arith, some));
      older_within = λ less. absurd (omega (arith, less));
      older_room = λ less. absurd (omega (arith, less));
    };
    waits =
        record {
          before_is = record { counted = refl; encoding = refl };
          log_is = record { counted = refl; encoding = refl };
        };
    between = record { batch_is = refl; taken_is = refl; handed_is = refl };
    receipts = refl;
    checkpoint = tt;
    in_use = record { epoch_is = refl; whole = omega arith; counted = omega arith };
    tickets = record { given_is = refl; each = λ n. none_fresh n ∙ refl; seen = omega arith };
    failed = refl;
    kept = λ is_honest _. record {
      state = base;
      before = refl;
      after = is;
      mid = base;
      cut = refl;
      kept = subst (IsKept (view disk) segment) is (kept is_honest);
    };
    left = λ _ failed _ _. absurd (cc failed);
  }

-- Events one after another.

module _ (honest : Type 0) (base : State) where
  runs_within : (w : World) (events : List Event) (outcomes : List Outcome) (from : ℕ) (last : View) (end : World)
      → Runs honest base w events outcomes from last end → honest → from ≤ last.moment
  runs_within w [] [] from last end runs is_honest = omega (arith, runs.1 is_honest)
  runs_within w [] (answered ∷ outcomes) from last end runs is_honest = absurd runs
  runs_within w (event ∷ events) [] from last end runs is_honest = absurd runs
  runs_within w (event ∷ events) (answered ∷ outcomes) from last end runs is_honest =
      let rest = runs_within runs.1 events outcomes runs.2 last end runs.6 is_honest in
      omega (arith, rest, (runs.5 is_honest).later)

  pub runs_push : (w : World) (events : List Event) (outcomes : List Outcome) (from : ℕ) (last later : View)
      (end next : World) (event : Event) (answered : Outcome) (kept : Reply)
      → Runs honest base w events outcomes from last end
      → After base end (event_of event) (outcome_of answered kept) next → HasNextNumber end answered
      → (honest → Passes last later (StandsFrom base (acknowledged end) next))
      → (honest → (c : Slots) → MayLeave later c → StandsFrom base (acknowledged next) next c)
      → Runs honest base w (events ++ event ∷ []) (outcomes ++ answered ∷ []) from later next
  runs_push w [] [] from last later end next event answered kept runs after numbered passes left = (
    kept,
    next,
    later.moment,
    subst (λ (v : World). After base v (event_of event) (outcome_of answered kept) next) runs.0 after,
    subst (λ (v : World). HasNextNumber v answered) runs.0 numbered,
    λ is_honest. record {
      later = omega (arith, runs.1 is_honest, (passes is_honest).later);
      during =
          λ k c after_from until left_at. subst
          (λ (v : World). StandsFrom base (acknowledged v) next c) runs.0
          ((passes is_honest).since k c (omega (arith, runs.1 is_honest, after_from)) until left_at);
      after = λ c left_at. left is_honest c left_at;
    },
    (refl, λ _. refl),
  )
  runs_push w [] (other ∷ outcomes) from last later end next event answered kept runs after numbered passes left =
      absurd runs
  runs_push w (first ∷ events) [] from last later end next event answered kept runs after numbered passes left =
      absurd runs
  runs_push w (first ∷ events) (other ∷ outcomes) from last later end next event answered kept runs after
      numbered passes left = (
        runs.0,
        runs.1,
        runs.2,
        runs.3,
        runs.4,
        λ is_honest.
            let bounded = runs.5 is_honest in
            let within = runs_within runs.1 events outcomes runs.2 last end runs.6 is_honest in
            record {
              later = bounded.later;
              during =
                  λ k c after_from until left_at. bounded.during k c after_from until
                  (((passes is_honest).past k c (omega (arith, until, within))).0 left_at);
              after = λ c left_at. bounded.after c (((passes is_honest).past runs.2 c within).0 left_at);
            },
        runs_push runs.1 events outcomes runs.2 last later end next event answered kept runs.6 after numbered passes left,
      )

next_number : {D : Type 0} (system : SystemValue D) (world : World) (answered : Outcome)
    → system.tickets.given ≡ length world.tickets → IsNumbered system answered → HasNextNumber world answered
next_number system world (outcome.Ticket number) given is = is ∙ given
next_number system world (outcome.Reply said) given is = tt
next_number system world outcome.Done given is = tt
next_number system world outcome.NotNow given is = tt
next_number system world outcome.EpochFull given is = tt
next_number system world (outcome.Store fault) given is = tt
next_number system world outcome.NoMemory given is = tt

pub through_push : {D : Type 0} (honest : Type 0) (view : D → View) (base : State) (w : World) (events : List Event)
    (outcomes : List Outcome) (old mid new : SystemValue D) (event : Event) (answered : Outcome)
    (through : RunsThrough honest view base w events outcomes old mid)
    → Steps honest view base through.end event answered mid new → IsNumbered mid answered
    → RunsThrough honest view base w (events ++ event ∷ []) (outcomes ++ answered ∷ []) old new
through_push honest view base w events outcomes old mid new event answered through steps numbered = record {
  end = steps.next;
  stands = steps.stands;
  runs =
      runs_push honest base w events outcomes (view old.store.disk).moment (view mid.store.disk)
      (view new.store.disk) through.end steps.next event answered steps.kept through.runs steps.after
      (next_number mid through.end answered through.stands.tickets.given_is numbered) steps.passes steps.left;
}
