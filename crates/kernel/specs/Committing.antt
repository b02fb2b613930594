-- A committed step keeps the kernel's invariant.
use Rattle.std.specs.Prelude.{◌≡◌, ℕ, Bool, true, false, IsTrue, refl}
use Rattle.std.proofs.Common.{ap, sym, subst}
use Rattle.ipc_model.specs.calls.Step.{Step, has_record, number_of_call}
use Rattle.ipc_model.specs.declared.call.Call.{Call}
use Rattle.ipc_model.specs.declared.reply.Reply.{Reply}
use Rattle.ipc_model.specs.declared.reply.Reply.TheVariants as reply
use Rattle.ipc_model.specs.encodings.Encodings.{FitsCall, FitsReply, HasItsResults, number_of_reply}
use Rattle.ipc_model.specs.state.Circular.{Acyclic}
use Rattle.ipc_model.specs.state.Ipc.{Ipc}
use Rattle.ipc_model.specs.state.Lawful.{ShortQueues}
use Rattle.ipc_model.specs.state.LawfulState.{LawfulState}
use Rattle.ipc_model.specs.state.State.{KeptReplies, State}
use Rattle.ipc_laws.specs.NumberedSteps.{FitsKept, steps_keep_lawful}
use Rattle.ipc_laws.specs.RecordedSteps.{answered_whole}
use Rattle.ipc_state.specs.Running.{Running, at_rest}
use Rattle.kernel.specs.Keeping.{state_of}
use Rattle.kernel.specs.Unrecorded.{unrecorded_step}

-- the results of a recorded call fit its reply's encoding
abbrev pub InRange : Call → Reply → Type 0
InRange c answer =
    number_of_reply answer ≡ number_of_call c → HasItsResults c answer → IsTrue (has_record c answer)
    → FitsReply answer

fits_kept : (answer : Reply) → FitsReply answer → FitsKept answer
fits_kept (reply.Plain answer) fits = tt
fits_kept (reply.Numbered answer) fits = fits
fits_kept (reply.Repeated answer) fits = tt

step_lawful : (old : State) (space : ℕ) (c : Call) (answer : Reply) (new : State) → FitsCall c → InRange c answer
    → LawfulState old → Acyclic old.ipc → Step old space c answer new → LawfulState new × Acyclic new.ipc
step_lawful old space c answer new fits in_range lawful acyclic step = by (has_record c answer) refl
  where
    by : (recorded : Bool) → has_record c answer ≡ recorded → LawfulState new × Acyclic new.ipc
    by true recorded =
        let whole = answered_whole old space c answer new lawful step recorded in
        steps_keep_lawful old space c answer new fits
        (fits_kept answer (in_range whole.number_is whole.results recorded)) lawful acyclic step
    by false none =
        subst (λ (s : State). LawfulState s × Acyclic s.ipc)
        (sym (unrecorded_step old space c answer new step none)) (lawful, acyclic)

-- the invariant of a kernel's parts between calls
abbrev pub IsAtRest : Running → KeptReplies → Type 0
IsAtRest running kept =
    LawfulState (state_of running.current kept) × Acyclic running.current × ShortQueues running.current
    × (running.before ≡ running.current)

-- the invariant holds after a committed step
pub committed : (old : State) (space : ℕ) (c : Call) (answer : Reply) (ipc : Ipc) (kept : KeptReplies)
    (running : Running) → running ≡ at_rest ipc → FitsCall c → InRange c answer → LawfulState old → Acyclic old.ipc
    → Step old space c answer (state_of ipc kept) → ShortQueues running.current → IsAtRest running kept
committed old space c answer ipc kept running is fits in_range lawful acyclic step short =
    let after = step_lawful old space c answer (state_of ipc kept) fits in_range lawful acyclic step in
    let current = sym (ap (λ (r : Running). r.current) is) in (
      subst (λ (s : Ipc). LawfulState (state_of s kept)) current after.0,
      subst Acyclic current after.1,
      short,
      subst (λ (r : Running). r.before ≡ r.current) (sym is) refl,
    )
