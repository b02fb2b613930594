-- The outcomes of functions that open or read a store.
use Rattle.std.specs.Prelude.{◌≡◌, ◌⊎◌, ℕ, Result, Err, IfOk, IsErrOf, OnErr, OnOk}
use Rattle.disk.specs.Moments.{View, MayLeave, Passes, one_more}
use Rattle.disk.specs.Slots.{Slots}
use Rattle.ipc_model.specs.state.State.{State}
use Rattle.ipc_model.specs.store.Recovery.{Recovered}
use Rattle.journal.specs.declared.segment.Segment.{Segment}
use Rattle.store_fault.specs.declared.fault.StoreFault.{StoreFault}
use Rattle.store_fault.specs.declared.fault.StoreFault.TheVariants.{Damaged, Device, NoMemory, Version}
use Rattle.store_layout.specs.Standing.{as_written}
use Rattle.store_layout.specs.Gates.{HaveLastGates}
use Rattle.recover.specs.Crashing.{StandForSame}
use Rattle.recover.specs.Kept.{IsKept}
use Rattle.recover.specs.Surveyed.{OpensInEpoch}

-- The device's count of failed calls grows by one at the fault `Device`, and is unchanged otherwise.
pub record CountsDevice {T : Type 0} (before now : ℕ) (result : Result T StoreFault) : Type 0 where
  pub quiet : OnOk result (now ≡ before)
  pub still : OnErr result ((result ≡ Err Device) ⊎ (now ≡ before))
  pub device : IsErrOf result Device → now ≡ one_more before

-- The outcome of opening a store. At `Ok` it is the state recovered from the slots and the segment of the epoch in which
-- the store continues, and the disk is that of an open store with this state. A fault that isn't the device's leaves the slots and the contents after a crash unchanged.
pub record Opens (old new : View) (result : Result (State × Segment) StoreFault) : Type 0 where
  pub state : IfOk result (λ r. Recovered (as_written old.seen) r.0)
  pub epoch : IfOk result (λ r. OpensInEpoch old.seen r.1.epoch)
  pub kept : IfOk result (λ r. IsKept new r.1 r.0)
  pub unchanged : OnErr result ((result ≡ Err Device) ⊎ (new.seen ≡ old.seen))
  pub untouched : OnErr result ((result ≡ Err Device) ⊎ Passes old new (MayLeave old))

-- no state is recovered from the slots
abbrev pub StandForNone : Slots → Type 0
StandForNone slots = (state : State) → Recovered (as_written slots) state → ⊥

-- If the last segment has its last gate, all contents that a crash left since then represent the same states.
abbrev pub StandsForSameSince : View → View → Type 0
StandsForSameSince old new = HaveLastGates old.seen → Passes old new (StandForSame old.seen)

-- a fault is `Device`, `Damaged` or `NoMemory`
abbrev pub OnlyReadingFaults : {T : Type 0} → Result T StoreFault → Type 0
OnlyReadingFaults result =
    OnErr result ((result ≡ Err Device) ⊎ ((result ≡ Err Damaged) ⊎ (result ≡ Err NoMemory)))

-- a fault is `Device`, `Damaged`, `NoMemory` or `Version`
abbrev pub OnlyOpeningFaults : {T : Type 0} → Result T StoreFault → Type 0
OnlyOpeningFaults result =
    OnErr result ((result ≡ Err Device)
    ⊎ ((result ≡ Err Damaged) ⊎ ((result ≡ Err NoMemory) ⊎ (result ≡ Err Version))))
