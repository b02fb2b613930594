-- The contents after a crash while a store is opened.
use Rattle.std.specs.Prelude.{◌≡◌, ◌⊎◌, ℕ, ◌+◌, ◌<◌, ◌≤◌, All, List, [], ◌∷◌, length}
use Rattle.disk.specs.Moments.{View, LeftSince, MayLeave, Passes}
use Rattle.disk.specs.Slots.{Slots}
use Rattle.ipc_model.specs.declared.record.Record.{Record}
use Rattle.ipc_model.specs.state.State.{State}
use Rattle.ipc_model.specs.store.Recovery.{Recovered}
use Rattle.ipc_model.specs.store.Store.{AreRecords, IsInUse, IsMidAppend, batch_encoding}
use Rattle.journal.specs.Reading.{MAX_RECORDS}
use Rattle.store_layout.specs.Gates.{HasLastGate, HaveLastGates}
use Rattle.store_layout.specs.Standing.{as_written}
use Rattle.recover.specs.AtRest.{IsAtRest}

-- a state that is recovered from the first slots is recovered from the second slots too
abbrev pub RecoverSame : Slots → Slots → Type 0
RecoverSame before after = (state : State) → Recovered (as_written before) state → Recovered (as_written after) state

-- the same, and the last segment has its last gate, so that another opening keeps the state too
abbrev pub StandForSame : Slots → Slots → Type 0
StandForSame before c = RecoverSame before c × HaveLastGates c

-- The contents that a crash may leave while the store is opened: those that it might have left before the opening, or
-- slots that represent the same states.
abbrev pub LeavesSame : View → Slots → Type 0
LeavesSame before c = MayLeave before c ⊎ StandForSame before.seen c

-- If a crash interrupts the append of a batch to a segment in use, which then holds at most MAX_RECORDS records, the
-- segment still has its last gate.
abbrev pub AppendKeepsGate : Type 0
AppendKeepsGate =
    (epoch : ℕ) (old new : List ℕ) (records batch : List Record) → IsInUse epoch old records → 0 < length batch
    → AreRecords batch → length records + length batch ≤ MAX_RECORDS
    → IsMidAppend old (batch_encoding (length records) batch) new → HasLastGate new

-- An opening ended or was stopped: the promise of `open` about the time until then (`any_moment`).
abbrev pub OpensUntil : View → View → Type 0
OpensUntil old new = HaveLastGates old.seen → Passes old new (LeavesSame old)

-- An opening that was stopped, and the disk that the next one finds. If only the process ended, it is the same disk. If
-- the machine crashed, at any moment since the opening began, the disk is synced and holds what the crash left.
abbrev pub IsStopped : {D : Type 0} → (D → View) → D → D → Type 0
IsStopped {D} view old next =
    (last : D) × OpensUntil (view old) (view last)
    × ((next ≡ last) ⊎ (IsAtRest (view next) × LeftSince (view last) (view old).moment (view next).seen))

-- Successive openings that were all stopped, each on the disk that the previous one left.
abbrev pub AreStopped : {D : Type 0} → (D → View) → D → List D → Type 0
AreStopped view old [] = Unit {0}
AreStopped view old (next ∷ disks) = IsStopped view old next × AreStopped view next disks

-- all contents that a crash may leave now satisfy P
abbrev pub AlwaysLeaves : (Slots → Type 0) → View → Type 0
AlwaysLeaves P disk = (c : Slots) → MayLeave disk c → P c

-- Any number of consecutive crashes keeps P: if all contents that a crash may leave satisfy P before, so do all that it
-- may leave after the stopped openings.
abbrev pub CrashesKeep : {D : Type 0} → (D → View) → (Slots → Type 0) → Type 0
CrashesKeep {D} view P =
    (old : D) (disks : List D) → AlwaysLeaves P (view old) → AreStopped view old disks
    → All (λ disk. AlwaysLeaves P (view disk)) disks
