-- A store with the state of another one, and the outcome of a run that makes it.
use Rattle.std.specs.Prelude.{◌≡◌, ◌≢◌, ◌⊎◌, ℕ, List, [], ◌∷◌, ◌++◌, Option, Some, codes}
use Rattle.checkpoint.specs.Images.{ImageValue, open_image, unwritten}
use Rattle.disk.specs.Moments.{View}
use Rattle.disk.specs.Slots.{Slots, empty_slots}
use Rattle.inspect.specs.declared.copy_program.CopyEnd.{CopyEnd}
use Rattle.inspect.specs.declared.copy_program.CopyEnd.TheVariants.{Copied, CommandLine, Fault}
use Rattle.inspect.specs.declared.copying.CopyStoreFault.{CopyStoreFault}
use Rattle.inspect.specs.declared.copying.CopyStoreFault.TheVariants.{Store, Busy, Exists, Write}
use Rattle.inspect.specs.declared.fault.ListFault.{ListFault}
use Rattle.inspect.specs.declared.fault.ListFault.TheVariants as list
use Rattle.ipc_model.specs.state.State.{State}
use Rattle.ipc_model.specs.store.Recovery.{HoldsImage}
use Rattle.ipc_model.specs.encodings.Images.{image_encoding}
use Rattle.store_fault.specs.Fault as fault_lines
use Rattle.store_fault.specs.declared.fault.StoreFault.TheVariants as store
use Rattle.recover.specs.AtRest.{IsAtRest}
use Rattle.recover.specs.Found.{Reads}
use Rattle.recover.specs.Making.{empty_segment}
use Rattle.snapshot.specs.Snapshots.{snapshot_of}
use Rattle.snapshot.specs.declared.rows.Snapshot.{Snapshot}
use Rattle.store_layout.specs.Gates.{StandForState}

-- An image of epoch 0, of the state with these rows.
pub record IsImageOfRows (rows : Snapshot) (image : ImageValue) : Type 0 where
  pub state : State
  pub same : rows ≡ snapshot_of state
  pub is : image ≡ unwritten 0 (image_encoding state)
  pub holds : HoldsImage 0 (open_image 0 (image_encoding state)) state

-- the slots of a store in epoch 0 with this image and no record
abbrev pub store_of : ImageValue → Slots
store_of image =
    record { image0 = open_image image.epoch image.encoding; image1 = []; segment0 = empty_segment 0; segment1 = [] }

-- A disk represents the state that these slots encode, and is synced.
pub record IsCopyOf (slots : Slots) (copy : View) : Type 0 where
  pub state : State
  pub epoch : ℕ
  pub records : ℕ
  pub reads : Reads slots epoch records state
  pub stands : StandForState state copy.seen
  pub at_rest : IsAtRest copy

abbrev pub of_list : ListFault → CopyStoreFault
of_list (list.Store fault) = Store fault
of_list list.Busy = Busy
of_list list.Write = Write

-- the faults of copying a store to an empty place
abbrev pub IsOfCopy : CopyStoreFault → Type 0
IsOfCopy fault = (fault ≡ Store store.Device) ⊎ ((fault ≡ Store store.Damaged) ⊎ ((fault ≡ Store store.NoMemory)
    ⊎ ((fault ≡ Store store.Version) ⊎ ((fault ≡ Busy) ⊎ (fault ≡ Write)))))

-- 0: the store was copied; 1: a fault; 2: there aren't exactly two arguments, or they can't be read
abbrev pub copy_status_of : CopyEnd → ℕ
copy_status_of Copied = 0
copy_status_of CommandLine = 2
copy_status_of (Fault fault) = 1

-- the error message after the program's name, empty if the store was copied
abbrev pub copy_words_of : CopyEnd → List ℕ
copy_words_of Copied = []
copy_words_of CommandLine = codes "command line\n"
copy_words_of (Fault (Store fault)) = fault_lines.fault_line fault
copy_words_of (Fault Busy) = codes "store busy\n"
copy_words_of (Fault Exists) = codes "copy exists\n"
copy_words_of (Fault Write) = codes "copy not written\n"

abbrev pub copy_line_of : CopyEnd → List ℕ
copy_line_of Copied = []
copy_line_of CommandLine = codes "machcp: " ++ copy_words_of CommandLine
copy_line_of (Fault fault) = codes "machcp: " ++ copy_words_of (Fault fault)

-- the path at which a copy is made, until it gets its own: that path without a slash at its end, and then `.part`
abbrev pub IsPartOf : List ℕ → List ℕ → Type 0
IsPartOf path part =
    (stem : List ℕ) × ((stem ≡ path) ⊎ (stem ++ codes "/" ≡ path)) × (part ≡ stem ++ codes ".part")

-- The store in these slots was copied to the folder at a path, where no store was.
pub record CopiesInto {D : Type 0} (is_read honest : Type 0) (slots : Slots) (view : D → View) (path_of : D → List ℕ)
    (path : List ℕ) : Type 0 where
  pub before : D
  pub after : D
  pub is_there : path_of before ≡ path
  pub copied : is_read → honest → (view before).seen ≡ empty_slots → IsCopyOf slots (view after)

-- the store in the folder at a path was copied to the folder at another one
pub record CopiesFolder {D : Type 0} (honest : Type 0) (view : D → View) (path_of : D → List ℕ) (store copy : List ℕ)
    : Type 0 where
  pub from : D
  pub is_store : path_of from ≡ store
  pub copied : CopiesInto honest honest (view from).seen view path_of copy

-- The possible outcomes with these arguments, or with arguments that can't be read (None). They are the paths of the
-- store and of the copy.
module _ {D : Type 0} (honest : Type 0) (view : D → View) (path_of : D → List ℕ) where
  abbrev pub EndsForWords : Option (List (List ℕ)) → CopyEnd → Type 0
  EndsForWords words CommandLine = (store copy : List ℕ) → words ≢ Some (store ∷ copy ∷ [])
  EndsForWords words Copied =
      (store copy part : List ℕ) × (words ≡ Some (store ∷ copy ∷ [])) × IsPartOf copy part
      × CopiesFolder honest view path_of store part
  EndsForWords words (Fault fault) = (store copy : List ℕ) × (words ≡ Some (store ∷ copy ∷ []))
