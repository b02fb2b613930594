-- Runs of records keep states lawful, and end in one state.
use Rattle.std.specs.Prelude.{◌≡◌, List, [], ◌∷◌}
use Rattle.std.proofs.Common.{◌∙◌, sym, subst}
use Rattle.ipc_model.specs.calls.Step.{Run}
use Rattle.ipc_model.specs.declared.record.Record.{Record}
use Rattle.ipc_model.specs.encodings.Encodings.{FitsCall}
use Rattle.ipc_model.specs.state.Circular.{Acyclic}
use Rattle.ipc_model.specs.state.LawfulState.{LawfulState}
use Rattle.ipc_model.specs.state.State.{State}
use Rattle.ipc_laws.specs.NumberedSteps.{FitsKept, one_replayed, replays_keep_lawful}

-- the numbers in records are in range
abbrev pub FitCalls : List Record → Type 0
FitCalls [] = Unit {0}
FitCalls (first ∷ records) = (FitsCall first.call × FitsKept first.reply) × FitCalls records

-- Every run of records from a lawful and acyclic state ends in one.
abbrev pub RunsKeepLawful : Type 0
RunsKeepLawful =
    (old : State) (records : List Record) (new : State) → FitCalls records → LawfulState old → Acyclic old.ipc
    → Run old records new → LawfulState new × Acyclic new.ipc

pub runs_keep_lawful : RunsKeepLawful
runs_keep_lawful old [] new fits lawful acyclic run =
    subst (λ (s : State). LawfulState s × Acyclic s.ipc) (sym run) (lawful, acyclic)
runs_keep_lawful old (first ∷ records) new fits lawful acyclic (mid, step, rest) =
    let kept = replays_keep_lawful old first mid fits.0.0 fits.0.1 lawful acyclic step in
    runs_keep_lawful mid records new fits.1 kept.0 kept.1 rest

-- and in only one state: the records determine what recovery reaches when it replays them.
abbrev pub OneRun : Type 0
OneRun =
    (old : State) (records : List Record) (one other : State) → FitCalls records → LawfulState old → Acyclic old.ipc
    → Run old records one → Run old records other → one ≡ other

pub one_run : OneRun
one_run old [] one other fits lawful acyclic here there = here ∙ sym there
one_run old (first ∷ records) one other fits lawful acyclic (mid, step, rest) (middle, step_too, rest_too) =
    let same : middle ≡ mid = one_replayed old first middle mid lawful step_too step in
    let kept = replays_keep_lawful old first mid fits.0.0 fits.0.1 lawful acyclic step in
    one_run mid records one other fits.1 kept.0 kept.1 rest
    (subst (λ (s : State). Run s records other) same rest_too)
