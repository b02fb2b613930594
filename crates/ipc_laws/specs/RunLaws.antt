-- Steps and runs of the machine that follow one another, and runs of canonical records.
use Rattle.std.specs.Prelude.{◌↔◌, List, [], ◌∷◌, ◌++◌, map}
use Rattle.std.proofs.Common.{refl, subst, inl}
use Rattle.ipc_model.specs.declared.record.Record.{Record}
use Rattle.ipc_model.specs.state.State.{State}
use Rattle.ipc_model.specs.calls.Step.{Step, Steps, Run}
use Rattle.ipc_model.specs.encodings.Encodings.{canonical_record}
use Rattle.ipc_laws.specs.CanonicalRecords.{replayed_as_canonical}
use Rattle.ipc_laws.specs.RunsKeep.{FitCalls}

-- one more step
pub steps-push : (old mid new : State) (records : List Record) (next : Record) → Steps old records mid
    → Step mid next.space next.call next.reply new → Steps old (records ++ next ∷ []) new
steps-push old mid new [] next so_far step =
    (new, subst (λ (s : State). Step s next.space next.call next.reply new) so_far step, refl)
steps-push old mid new (first ∷ records) next so_far step =
    (so_far.0, so_far.1, steps-push so_far.0 mid new records next so_far.2 step)

-- steps by records that follow one another are steps by the first ones, and then by the others
pub steps_split : (old new : State) (records more : List Record) → Steps old (records ++ more) new → (mid : State)
    × Steps old records mid × Steps mid more new
steps_split old new [] more steps = (old, refl, steps)
steps_split old new (first ∷ records) more steps =
    let later = steps_split steps.0 new records more steps.2 in (later.0, (steps.0, steps.1, later.1), later.2)

-- records of steps can be replayed
pub steps_run : (old new : State) (records : List Record) → Steps old records new → Run old records new
steps_run old new [] steps = steps
steps_run old new (first ∷ records) steps = (steps.0, inl steps.1, steps_run steps.0 new records steps.2)

-- a run with one more step
pub run-push : (old mid new : State) (records : List Record) (next : Record) → Run old records mid
    → Step mid next.space next.call next.reply new → Run old (records ++ next ∷ []) new
run-push old mid new [] next so_far step =
    (new, inl (subst (λ (s : State). Step s next.space next.call next.reply new) so_far step), refl)
run-push old mid new (first ∷ records) next so_far step =
    (so_far.0, so_far.1, run-push so_far.0 mid new records next so_far.2 step)

-- a run over records that follow one another is two runs
pub run_split : (old new : State) (records more : List Record) → Run old (records ++ more) new → (mid : State)
    × Run old records mid × Run mid more new
run_split old new [] more run = (old, refl, run)
run_split old new (first ∷ records) more run =
    let later = run_split run.0 new records more run.2 in (later.0, (run.0, run.1, later.1), later.2)

-- Records and what is kept of them run alike.
abbrev pub RecordsRunAsCanonical : Type 0
RecordsRunAsCanonical =
    (old : State) (records : List Record) (new : State) → FitCalls records
    → Run old (map canonical_record records) new ↔ Run old records new

pub run_as_canonical : RecordsRunAsCanonical
run_as_canonical old [] new fits = ((λ run. run), (λ run. run))
run_as_canonical old (first ∷ records) new fits =
    let here = λ (mid : State). replayed_as_canonical old first mid fits.0.0 in
    let there = λ (mid : State). run_as_canonical mid records new fits.1 in (
      (λ run. (run.0, (here run.0).0 run.1, (there run.0).0 run.2)),
      (λ run. (run.0, (here run.0).1 run.1, (there run.0).1 run.2)),
    )
