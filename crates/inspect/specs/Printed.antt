-- The text that is printed of a store.
use Rattle.std.specs.Prelude.{◌≡◌, ◌≢◌, ◌⊎◌, ℕ, List, Option, Result, Err, IfErr, IsErrOf, OnOk}
use Rattle.std.specs.Io.KnownBytes.{Appends, Keeps}
use Rattle.disk.specs.Moments.{ReadsOnly, View, one_more}
use Rattle.disk.specs.Slots.{Slots}
use Rattle.inspect.specs.declared.fault.ListFault.{ListFault}
use Rattle.inspect.specs.declared.fault.ListFault.TheVariants.{Store, Busy, Write}
use Rattle.ipc_model.specs.state.State.{State}
use Rattle.ipc_model.specs.store.Recovery.{IsDamaged, IsOtherVersion}
use Rattle.store_fault.specs.declared.fault.StoreFault.TheVariants.{Damaged, Device, NoMemory, Version}
use Rattle.store_layout.specs.Standing.{as_written}
use Rattle.inspect.specs.text.Drawing.{drawing}
use Rattle.inspect.specs.text.Listing.{listing}
use Rattle.recover.specs.Found.{Reads}
use Rattle.wire.specs.Writing.{AppendsPart}

-- The text of a state. On an honest disk the slots encode that state, with the epoch of its image and the number of
-- records.
pub record IsTextOf (text_of : ℕ → ℕ → State → List ℕ) (honest : Type 0) (slots : Slots)
    (text : List ℕ) : Type 0 where
  pub state : State
  pub epoch : ℕ
  pub records : ℕ
  pub reads : honest → Reads slots epoch records state
  pub is : text ≡ text_of epoch records state

-- Lines and a drawing show names and ports, but no kept replies. A drawing shows neither epoch nor records.
abbrev pub listing_of : ℕ → ℕ → State → List ℕ
listing_of epoch records state = listing epoch records state.ipc

abbrev pub drawing_of : ℕ → ℕ → State → List ℕ
drawing_of epoch records state = drawing state.ipc

-- The whole text was written, or a prefix of it if the writer failed, or nothing if the store couldn't be read.
pub record PrintsText (IsText : List ℕ → Type 0) (old new : Option (List ℕ))
    (result : Result (Unit {0}) ListFault) : Type 0 where
  pub ok : OnOk result ((text : List ℕ) × IsText text × Appends old new text)
  pub part : IsErrOf result Write → (text : List ℕ) × IsText text × AppendsPart old new text
  pub unwritten : IfErr result (λ fault. fault ≢ Write → Keeps old new)

-- the faults of reading a copy of a store
abbrev pub IsOfLook : ListFault → Type 0
IsOfLook fault =
    (fault ≡ Store Device) ⊎ ((fault ≡ Store Damaged)
    ⊎ ((fault ≡ Store NoMemory) ⊎ ((fault ≡ Store Version) ⊎ (fault ≡ Busy))))

-- The outcome of reading a store. Nothing is written to it. It is reported as damaged or as of another version only if
-- it is. `Busy` occurs only if someone else writes to it. The device's count of failed calls grows by one at the fault
-- `Device`, and is unchanged otherwise.
pub record ReadsStore {T : Type 0} (honest : Type 0) (old new : View) (before now : ℕ)
    (result : Result T ListFault) : Type 0 where
  pub reads_only : honest → ReadsOnly old new
  pub version : honest → IsErrOf result (Store Version) → IsOtherVersion (as_written old.seen)
  pub damaged : honest → IsErrOf result (Store Damaged) → IsDamaged (as_written old.seen)
  pub still : honest → IsErrOf result Busy → ⊥
  pub device : IsErrOf result (Store Device) → now ≡ one_more before
  pub quiet : result ≢ Err (Store Device) → now ≡ before
  pub faults : IfErr result (λ fault. IsOfLook fault ⊎ (fault ≡ Write))
