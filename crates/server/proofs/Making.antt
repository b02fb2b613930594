-- What a call of the core leaves in the store.
use Rattle.std.proofs.Common.{◌≡◌, ◌+◌, ℕ, Bool, true, false, Option, sym, ap, subst, ◌∙◌, refl}
use Rattle.std.specs.Prelude.{if◌then◌else◌}
use Rattle.disk.specs.Moments.{View, Passes}
use Rattle.ipc_model.specs.calls.Step.{has_record}
use Rattle.ipc_model.specs.declared.call.Call.{Call}
use Rattle.ipc_model.specs.declared.reply.Reply.{Reply}
use Rattle.journal.specs.declared.segment.Segment.{Segment}
use Rattle.system.specs.Passed.{Keeps}
use Rattle.server.specs.Keeping.{IsBeforeOrAfter}
use Rattle.server.proofs.Keeping.{batch_kept, batch_stands, no_time}
use Rattle.ipc_model.specs.state.State.{State}
use Rattle.system.specs.Passed.{CheckpointValue, StoreValue}
use Rattle.system.specs.Calling.{Calls, CallFails}
use Rattle.system.specs.Core.{SystemValue}
use Rattle.system.specs.GoingOn.{IsStanding}

module _ {D : Type 0} (honest : Type 0) (view : D → View) where
  abbrev IsKeptIn : SystemValue D → Type 0
  IsKeptIn system = IsStanding view system.store system.core.kernel

  abbrev StandsOn : SystemValue D → ℕ → Call → SystemValue D → Type 0
  StandsOn old space c new =
      Passes (view old.store.disk) (view new.store.disk) (IsBeforeOrAfter old.core.kernel space c new.core.kernel)

  pub calls_pass : (old new : SystemValue D) (space : ℕ) (c : Call) (answer : Reply)
      → Calls honest view old space c answer new → honest → IsKeptIn old → StandsOn old space c new
  calls_pass old new space c answer calls is_honest kept =
      elim (has_record c answer) as (λ (b : Bool). has_record c answer ≡ b → StandsOn old space c new) [
        | true ↦ λ (recorded : _).
            let s = calls.recorded recorded in
            batch_stands (view old.store.disk)
            (view new.store.disk) old.store.segment old.store.checkpoint kept.0 old.core.kernel new.core.kernel
            space c answer s.batch kept.1 s.alone.fits calls.step s.alone.kept recorded s.alone.room
            s.alone.holds (s.passes is_honest)
        | false ↦ λ (none : _). no_time
            (λ (j : StoreValue D). view j.disk) old.store new.store _ (calls.unrecorded none).1
      ] refl

  pub calls_keep : (old new : SystemValue D) (space : ℕ) (c : Call) (answer : Reply)
      → Calls honest view old space c answer new → honest → IsKeptIn old → IsKeptIn new
  calls_keep old new space c answer calls is_honest kept =
      elim (has_record c answer) as (λ (b : Bool). has_record c answer ≡ b → IsKeptIn new) [
        | true ↦ λ (recorded : _).
            let s = calls.recorded recorded in
            let segment =
            sym (calls.counted ∙ ap {B = Segment}
            (λ (b : Bool). record old.store.segment
            { records = old.store.segment.records + (if b then 1 else 0) }) recorded) in (
              kept.0,
              subst (λ (c : Option CheckpointValue). Keeps
                  (view new.store.disk) new.store.segment c kept.0 new.core.kernel) (sym calls.checkpoint)
                  (subst (λ (g : Segment). Keeps
                  (view new.store.disk) g old.store.checkpoint kept.0 new.core.kernel) segment
                  (batch_kept (view old.store.disk)
                  (view new.store.disk) old.store.segment old.store.checkpoint kept.0 old.core.kernel
                  new.core.kernel space c answer s.batch kept.1 s.alone.fits calls.step s.alone.kept
                  s.alone.room s.alone.holds (s.stored is_honest) (s.synced is_honest)
                  (s.passes is_honest))),
            )
        | false ↦ λ (none : _).
            let same = calls.unrecorded none in
            subst (λ (j : StoreValue D). IsStanding view j new.core.kernel) (sym same.1)
            (subst (λ (s : State). IsStanding view old.store s) (sym same.0) kept)
      ] refl

  pub fails_pass : (old new : SystemValue D) (space : ℕ) (c : Call) → CallFails honest view old space c new → honest
      → IsKeptIn old → StandsOn old space c new
  fails_pass old new space c fails is_honest kept =
      batch_stands (view old.store.disk)
      (view new.store.disk) old.store.segment old.store.checkpoint kept.0 old.core.kernel new.core.kernel space c
      fails.answer fails.batch kept.1 fails.alone.fits fails.step fails.alone.kept fails.recorded
      fails.alone.room fails.alone.holds (fails.passes is_honest)
