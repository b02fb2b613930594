-- How a run of the program for one connection ends: its status, its line of errors, and what was read and written.
use Rattle.std.specs.Prelude.{◌≡◌, ◌≢◌, ◌⊎◌, ℕ, false, List, [], ◌∷◌, ◌++◌, Option, Some, Result, Ok, Err, codes}
use Rattle.disk.specs.Moments.{ReadsOnly, View}
use Rattle.disk.specs.Slots.{Slots}
use Rattle.store_fault.specs.Fault as store
use Rattle.store_fault.specs.declared.fault.StoreFault.{StoreFault}
use Rattle.store_fault.specs.declared.fault.StoreFault.TheVariants.{Damaged, Device, NoMemory, Version}
use Rattle.server.specs.Keeping.{AloneValue, AnswersAsked, BreaksKept, FailsAsked, IsHeld, RestsKept}
use Rattle.frame_service.specs.Serving.{Ends}
use Rattle.server.specs.declared.program.LoneEnd.{LoneEnd}
use Rattle.server.specs.declared.program.LoneEnd.TheVariants.{Served, CommandLine, InUse, Unlockable, Fault}
use Rattle.server.specs.declared.lock.LockFault.{LockFault}
use Rattle.server.specs.declared.lock.LockFault.TheVariants as lock
use Rattle.frame_service.specs.declared.service.ServeFault.{ServeFault}
use Rattle.frame_service.specs.declared.service.ServeFault.TheVariants.{Wire, Store}
use Rattle.ipc_model.specs.store.Recovery.{IsDamaged, IsOtherVersion, Recovered}
use Rattle.recover.specs.Crashing.{OpensUntil}
use Rattle.recover.specs.Opened.{OpenedValue}
use Rattle.store_layout.specs.Standing.{as_written}
use Rattle.wire.specs.Fault as wire

-- 0: the input was served to its end; 1: a fault, or the store's folder isn't locked; 2: the arguments are not exactly
-- one, or can't be read
abbrev pub status_of : LoneEnd → ℕ
status_of Served = 0
status_of CommandLine = 2
status_of InUse = 1
status_of Unlockable = 1
status_of (Fault fault) = 1

-- what follows the program's name on the line of errors; no line where all was served
abbrev pub words_of : LoneEnd → List ℕ
words_of Served = []
words_of CommandLine = codes "command line\n"
words_of InUse = codes "store in use\n"
words_of Unlockable = codes "store can't be locked\n"
words_of (Fault (Wire fault)) = wire.fault_line fault
words_of (Fault (Store fault)) = store.fault_line fault

abbrev pub line_of : LoneEnd → List ℕ
line_of Served = []
line_of CommandLine = codes "machipcd: " ++ words_of CommandLine
line_of InUse = codes "machipcd: " ++ words_of InUse
line_of Unlockable = codes "machipcd: " ++ words_of Unlockable
line_of (Fault fault) = codes "machipcd: " ++ words_of (Fault fault)

-- how a run ends on a store whose folder isn't locked
abbrev pub unlocked_end : LockFault → LoneEnd
unlocked_end lock.InUse = InUse
unlocked_end lock.Unlockable = Unlockable
unlocked_end lock.Device = Fault (Store Device)

-- why the store on a disk with these slots can't be opened
pub record IsUnopenable (honest : Type 0) (slots : Slots) (fault : StoreFault) : Type 0 where
  pub kind : (fault ≡ Device) ⊎ ((fault ≡ Damaged) ⊎ ((fault ≡ NoMemory) ⊎ (fault ≡ Version)))
  pub damaged : honest → fault ≡ Damaged → IsDamaged (as_written slots)
  pub version : honest → fault ≡ Version → IsOtherVersion (as_written slots)

-- the store's folder can't be opened; nothing was read or written
pub record HasNoFolder (input before : List ℕ) (left written : Option (List ℕ))
    (result : Result (Unit {0}) ServeFault) : Type 0 where
  pub fault : result ≡ Err (Store Device)
  pub unread : left ≡ Some input
  pub unwritten : written ≡ Some before

module _ {D : Type 0} (honest : Type 0) (view : D → View) (input before : List ℕ) (left written : Option (List ℕ)) where
  -- The store on a disk can't be opened; nothing was read or written. A crash meanwhile leaves what stands for the same
  -- state, and only a fault of the device may have written anything.
  pub record Unopened (disk last : D) (result : Result (Unit {0}) ServeFault) : Type 0 where
    pub fault : StoreFault
    pub fault_is : result ≡ Err (Store fault)
    pub why : IsUnopenable honest (view disk).seen fault
    pub any_moment : honest → OpensUntil (view disk) (view last)
    pub unchanged : honest → fault ≢ Device → ReadsOnly (view disk) (view last)
    pub unread : left ≡ Some input
    pub unwritten : written ≡ Some before

  -- A caller that begins with an opened store, attached to space 1 and not confined, was served. Unless the store failed, a crash at the
  -- end leaves the state that it came to.
  pub record Serves (old new : AloneValue D) (last : D) (result : Result (Unit {0}) ServeFault) : Type 0 where
    pub attached : old.space ≡ 1
    pub unconfined : old.confined ≡ false
    pub works : old.failed ≡ false
    pub held : honest → IsHeld (view old.store.disk) old.kernel
    pub ends : Ends (AnswersAsked honest view) (FailsAsked honest view) (RestsKept honest view)
        (BreaksKept honest view) old new input before left written result
    pub closed : last ≡ new.store.disk
    pub held_at_end : honest → new.failed ≡ false → IsHeld (view last) new.kernel

  -- an opened store was served by such a caller
  pub record ServesFrom (opened : OpenedValue D) (last : D) (result : Result (Unit {0}) ServeFault) : Type 0 where
    pub old : AloneValue D
    pub new : AloneValue D
    pub kernel : old.kernel ≡ opened.kernel
    pub disk : old.store.disk ≡ opened.disk
    pub serves : Serves old new last result

  -- The store on a disk was opened in the state that its slots stood for, and served from there. A crash during the
  -- opening leaves what stands for the same state.
  pub record ServesDisk (disk last : D) (result : Result (Unit {0}) ServeFault) : Type 0 where
    pub old : AloneValue D
    pub new : AloneValue D
    pub recovered : honest → Recovered (as_written (view disk).seen) old.kernel
    pub any_moment : honest → OpensUntil (view disk) (view old.store.disk)
    pub serves : Serves old new last result

  -- what a run on a disk comes to, and the disk that it leaves
  abbrev pub IsRun : D → D → Result (Unit {0}) ServeFault → Type 0
  IsRun disk last result = Unopened disk last result ⊎ ServesDisk disk last result

  -- A run in the folder at a path: there is no such folder, or it is a run on the disk of its files.
  abbrev pub RunsInFolder : (D → List ℕ) → List ℕ → Result (Unit {0}) ServeFault → Type 0
  RunsInFolder path_of path result =
      HasNoFolder input before left written result
      ⊎ ((disk last : D) × (path_of disk ≡ path) × IsRun disk last result)

  -- How the program ends for these arguments, or for arguments that can't be read. The argument is the path of the
  -- store's folder.
  abbrev pub EndsAlone : (D → List ℕ) → Option (List (List ℕ)) → LoneEnd → Type 0
  EndsAlone path_of words CommandLine =
      ((path : List ℕ) → words ≢ Some (path ∷ [])) × (left ≡ Some input) × (written ≡ Some before)
  EndsAlone path_of words InUse =
      ((path : List ℕ) × (words ≡ Some (path ∷ []))) × (left ≡ Some input) × (written ≡ Some before)
  EndsAlone path_of words Unlockable =
      ((path : List ℕ) × (words ≡ Some (path ∷ []))) × (left ≡ Some input) × (written ≡ Some before)
  EndsAlone path_of words Served =
      (path : List ℕ) × (words ≡ Some (path ∷ [])) × RunsInFolder path_of path (Ok tt)
  EndsAlone path_of words (Fault fault) =
      (path : List ℕ) × (words ≡ Some (path ∷ [])) × RunsInFolder path_of path (Err fault)
