-- The outcome of a run of the client: its status, its error message, and the bytes that it read and wrote.
use Rattle.std.specs.Prelude.{◌≡◌, ◌≢◌, ◌⊎◌, ℕ, List, [], ◌++◌, Option, Some, Result, Ok, Err, codes}
use Rattle.relay.specs.Relaying.{Ends, Side}
use Rattle.relay.specs.declared.end.RelayEnd.{RelayEnd}
use Rattle.relay.specs.declared.end.RelayEnd.TheVariants.{Relayed, CommandLine, Socket, Fault}
use Rattle.wire.specs.Fault.{fault_line}
use Rattle.wire.specs.declared.fault.WireFault.{WireFault}
use Rattle.wire.specs.declared.fault.WireFault.TheVariants.{NoMemory}

-- 0: the input was relayed to its end; 1: a fault, or no peer; 2: there isn't exactly one argument, or the arguments
-- can't be read
abbrev pub status_of : RelayEnd → ℕ
status_of Relayed = 0
status_of CommandLine = 2
status_of Socket = 1
status_of (Fault fault) = 1

-- the error message after the program's name, empty if the input was relayed to its end
abbrev pub words_of : RelayEnd → List ℕ
words_of Relayed = []
words_of CommandLine = codes "command line\n"
words_of Socket = codes "socket\n"
words_of (Fault fault) = fault_line fault

abbrev pub line_of : RelayEnd → List ℕ
line_of Relayed = []
line_of CommandLine = codes "machc: " ++ words_of CommandLine
line_of Socket = codes "machc: " ++ words_of Socket
line_of (Fault fault) = codes "machc: " ++ words_of (Fault fault)

module _ (old new : Side) where
  -- the input was relayed to some peer with this result
  abbrev pub Relays : Result (Unit {0}) WireFault → Type 0
  Relays result = (peer peer_new : Side) × Ends old peer new peer_new result

  -- the outcome of the client with this many arguments, or with arguments that can't be read
  abbrev pub EndsClient : Option ℕ → RelayEnd → Type 0
  EndsClient words CommandLine = (words ≢ Some 1) × (new ≡ old)
  EndsClient words Socket = (words ≡ Some 1) × (new ≡ old)
  EndsClient words Relayed = (words ≡ Some 1) × Relays (Ok tt)
  EndsClient words (Fault fault) = (words ≡ Some 1) × (((fault ≡ NoMemory) × (new ≡ old)) ⊎ Relays (Err fault))
