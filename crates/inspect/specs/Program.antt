-- The outcome of a run of an inspector: its status and its error message.
use Rattle.std.specs.Prelude.{◌≡◌, ◌≢◌, ℕ, List, [], ◌∷◌, ◌++◌, Option, Some, codes}
use Rattle.std.specs.Io.KnownBytes.{Appends, Keeps}
use Rattle.disk.specs.Moments.{View}
use Rattle.inspect.specs.Printed.{IsTextOf}
use Rattle.ipc_model.specs.state.State.{State}
use Rattle.wire.specs.Writing.{AppendsPart}
use Rattle.inspect.specs.declared.fault.ListFault.TheVariants.{Store, Busy, Write}
use Rattle.inspect.specs.declared.program.ShowEnd.{ShowEnd}
use Rattle.inspect.specs.declared.program.ShowEnd.TheVariants.{Shown, CommandLine, Fault}
use Rattle.store_fault.specs.Fault as store
use Rattle.wire.specs.Fault as wire
use Rattle.wire.specs.declared.fault.WireFault.TheVariants.{Device}

-- 0: the store was printed; 1: a fault; 2: there isn't exactly one argument, or the arguments can't be read
abbrev pub status_of : ShowEnd → ℕ
status_of Shown = 0
status_of CommandLine = 2
status_of (Fault fault) = 1

-- the error message after the program's name, empty if the store was printed
abbrev pub words_of : ShowEnd → List ℕ
words_of Shown = []
words_of CommandLine = codes "command line\n"
words_of (Fault (Store fault)) = store.fault_line fault
words_of (Fault Busy) = codes "store busy\n"
words_of (Fault Write) = wire.fault_line Device

-- the error message, which begins with the name of a program
abbrev pub line_of : List ℕ → ShowEnd → List ℕ
line_of name Shown = []
line_of name CommandLine = name ++ words_of CommandLine
line_of name (Fault fault) = name ++ words_of (Fault fault)

-- the text of a state, which the slots in the folder at a path encode if its disk is honest
abbrev pub IsOfDisk : {D : Type 0} → (ℕ → ℕ → State → List ℕ) → Type 0 → (D → View) → (D → List ℕ) → List ℕ → List ℕ
    → Type 0
IsOfDisk {D} text_of honest view path_of path text =
    (disk : D) × (path_of disk ≡ path) × IsTextOf text_of honest (view disk).seen text

-- The output of a run with this outcome, for these arguments or for arguments that can't be read: the whole text of the
-- folder that the one argument names, a prefix of it if the output couldn't be written, or nothing.
abbrev pub Prints : (List ℕ → List ℕ → Type 0) → Option (List (List ℕ)) → Option (List ℕ) → Option (List ℕ) → ShowEnd
    → Type 0
Prints IsOf words old new CommandLine = ((path : List ℕ) → words ≢ Some (path ∷ [])) × Keeps old new
Prints IsOf words old new Shown =
    (path : List ℕ) × (words ≡ Some (path ∷ [])) × ((text : List ℕ) × IsOf path text × Appends old new text)
Prints IsOf words old new (Fault Write) =
    (path : List ℕ) × (words ≡ Some (path ∷ [])) × ((text : List ℕ) × IsOf path text × AppendsPart old new text)
Prints IsOf words old new (Fault Busy) = ((path : List ℕ) × (words ≡ Some (path ∷ []))) × Keeps old new
Prints IsOf words old new (Fault (Store fault)) = ((path : List ℕ) × (words ≡ Some (path ∷ []))) × Keeps old new
