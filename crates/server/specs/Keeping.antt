-- What a clause sees of a single-connection caller, and what a crash during a call leaves.
use Rattle.std.specs.Prelude.{◌≡◌, ◌⊎◌, ℕ, ◌+◌, Bool, true, false, ◌||◌, if◌then◌else◌, refl}
use Rattle.std.specs.Coded.{Coded, code_by, coded×, coded_ℕ, coded_bool}
use Rattle.calls.specs.declared.request.Request.{Request}
use Rattle.calls.specs.declared.request.Request.TheVariants as request
use Rattle.codes.specs.declared.limits.TheConstants.{CHECKPOINT_RECORDS}
use Rattle.disk.specs.Moments.{View, MayLeave, Passes}
use Rattle.disk.specs.Slots.{Slots}
use Rattle.ipc_model.specs.declared.call.Call.{Call}
use Rattle.ipc_model.specs.declared.reply.Reply.{Reply}
use Rattle.ipc_model.specs.state.State.{State}
use Rattle.ipc_model.specs.state.StateCode.{state_code}
use Rattle.ipc_model.specs.calls.Step.{Step, has_record, succeeded}
use Rattle.ipc_model.specs.history.History.{space_after}
use Rattle.store_fault.specs.declared.fault.StoreFault.{StoreFault}
use Rattle.store_fault.specs.declared.fault.StoreFault.TheVariants.{Device, Failed}
use Rattle.store_layout.specs.Gates.{StandForState}
use Rattle.system.specs.GoingOn.{GoesOn, TakesMemory}
use Rattle.system.specs.Passed.{StoreValue, store_code}
use Rattle.frame_service.specs.Confining.{attach_to, confine_shown, made_of, shown, shown_for}
use Rattle.frame_service.specs.Serving.{StepOrShortage}

-- The state after the calls so far, the store, the space that the caller is attached to, whether it is confined to it,
-- and whether a call failed.
pub record AloneValue (D : Type 0) : Type 0 where
  pub kernel : State
  pub store : StoreValue D
  pub space : ℕ
  pub confined : Bool
  pub failed : Bool

abbrev pub alone_code : {D : Type 0} → Coded D → Coded (AloneValue D)
alone_code {D = D} code =
    code_by (State × (StoreValue D × (ℕ × (Bool × Bool))))
    (coded× state_code (coded× (store_code code) (coded× coded_ℕ (coded× coded_bool coded_bool))))
    (λ a. (a.kernel, (a.store, (a.space, (a.confined, a.failed)))))
    (λ p. record {
      kernel = p.0;
      store = p.1.0;
      space = p.1.1.0;
      confined = p.1.1.1.0;
      failed = p.1.1.1.1;
    }) (λ _. refl)

-- nothing changed but the space that the caller is attached to
abbrev pub IsMoved : {D : Type 0} → AloneValue D → AloneValue D → Type 0
IsMoved old new =
    new ≡ record {
      kernel = old.kernel;
      store = old.store;
      space = new.space;
      confined = old.confined;
      failed = old.failed;
    }

-- A call's record is one more in the segment in use; a checkpoint under way stays as it is.
pub record IsCounted {D : Type 0} (old : StoreValue D) (call : Call) (answer : Reply)
    (new : StoreValue D) : Type 0 where
  pub segment : new.segment ≡ record old.segment
      { records = old.segment.records + (if has_record call answer then 1 else 0) }
  pub checkpoint : new.checkpoint ≡ old.checkpoint

-- this state is recovered from whatever a crash leaves
abbrev pub IsHeld : View → State → Type 0
IsHeld disk state = (c : Slots) → MayLeave disk c → StandForState state c

-- The state before a call is recovered from the slots; or the state after it, which a step of the call that has a
-- record leaves.
abbrev pub IsBeforeOrAfter : State → ℕ → Call → State → Slots → Type 0
IsBeforeOrAfter before space call after c =
    StandForState before c
    ⊎ ((reply : Reply) × Step before space call reply after × (has_record call reply ≡ true)
    × StandForState after c)

-- What a single-connection caller may answer: what the machine does in the space that the caller is attached to. If the
-- call attached it to another space, it is attached there from now on. It didn't fail, and is confined where it was.
abbrev pub AnswersStored : {D : Type 0} → AloneValue D → Call → Reply → AloneValue D → Type 0
AnswersStored old call answer new =
    StepOrShortage old.kernel old.space call answer new.kernel × (new.space ≡ space_after old.space call answer)
    × (new.confined ≡ old.confined) × (new.failed ≡ false)

-- out of memory: what is due of a checkpoint allocates, and nothing changed
abbrev pub IsShortOf : {D : Type 0} → AloneValue D → AloneValue D → Type 0
IsShortOf old new = TakesMemory CHECKPOINT_RECORDS old.store old.store.checkpoint × (new ≡ old)

-- A call of a single-connection caller that didn't fail before. On an honest disk, a crash at any moment of the call
-- leaves the state before it or the state after it, and a crash after the call leaves the state after it.
module _ {D : Type 0} (honest : Type 0) (view : D → View) where
  pub record AnswersKept (old : AloneValue D) (call : Call) (answer : Reply) (new : AloneValue D) : Type 0 where
    pub stored : AnswersStored old call answer new
    pub unrecorded : has_record call answer ≡ false → IsMoved old new
    pub counted : IsCounted old.store call answer new.store
    pub passes : honest → Passes (view old.store.disk) (view new.store.disk)
        (IsBeforeOrAfter old.kernel old.space call new.kernel)
    pub held : honest → IsHeld (view new.store.disk) new.kernel

  -- A call that fails in the store: the device failed, or a call before did. The caller can't be used any more; a crash
  -- at any moment of the call leaves the state before it or the state after it.
  pub record FailsKept (old : AloneValue D) (call : Call) (fault : StoreFault) (new : AloneValue D) : Type 0 where
    pub failed : new.failed ≡ true
    pub confined : new.confined ≡ old.confined
    pub device : old.failed ≡ false → fault ≡ Device
    pub failed_before : old.failed ≡ true → (fault ≡ Failed) × (new ≡ old)
    pub passes : honest → Passes (view old.store.disk) (view new.store.disk)
        (IsBeforeOrAfter old.kernel old.space call new.kernel)

  -- What it may answer to what it is asked for, one call at a time. Where it is confined, the call that is made of an
  -- attach is the one to its own space (`made_of`). To be confined it makes this call too, and where that is done, it is.
  abbrev pub AnswersAsked : AloneValue D → Request → Reply → AloneValue D → Type 0
  AnswersAsked old (request.One c) answer new =
      (said : Reply) × AnswersKept old (made_of old.confined old.space c) said new
      × (answer ≡ shown (shown_for old.confined c) said)
  AnswersAsked old request.Confine answer new =
      (said : Reply) × (mid : AloneValue D) × AnswersKept old (attach_to old.space) said mid
      × (answer ≡ confine_shown said) × (new ≡ record mid { confined = succeeded said || old.confined })
  AnswersAsked old asks answer new = ⊥

  -- and how that may fail
  abbrev pub FailsAsked : AloneValue D → Request → StoreFault → AloneValue D → Type 0
  FailsAsked old (request.One c) fault new = FailsKept old (made_of old.confined old.space c) fault new
  FailsAsked old request.Confine fault new = FailsKept old (attach_to old.space) fault new
  FailsAsked old asks fault new = ⊥

  -- Time after a reply of a single-connection caller that didn't fail. What is due of a checkpoint is done, unless
  -- memory runs out; only the store changes. On an honest disk, a crash at any moment of that time and after it leaves
  -- the state it had.
  pub record RestsKept (old new : AloneValue D) : Type 0 where
    pub same : new ≡ record old { store = new.store }
    pub goes : GoesOn honest view CHECKPOINT_RECORDS old.kernel old.store.checkpoint old.store new.store
        ⊎ IsShortOf old new
    pub passes : honest → Passes (view old.store.disk) (view new.store.disk) (StandForState old.kernel)
    pub held : honest → IsHeld (view new.store.disk) new.kernel

  -- Time after a reply that ends with a fault of the store: the device failed, or it did before. The caller can't be
  -- used any more; a crash at any moment of that time leaves the state it had.
  pub record BreaksKept (old : AloneValue D) (fault : StoreFault) (new : AloneValue D) : Type 0 where
    pub failed : new.failed ≡ true
    pub device : old.failed ≡ false → fault ≡ Device
    pub kernel : new.kernel ≡ old.kernel
    pub space : new.space ≡ old.space
    pub failed_before : old.failed ≡ true → (fault ≡ Failed) × (new ≡ old)
    pub passes : honest → Passes (view old.store.disk) (view new.store.disk) (StandForState old.kernel)
