-- The outcome of a run of the shell.
use Rattle.std.specs.Prelude.{◌≡◌, ◌⊎◌, ℕ, Bool, true, false, List, [], Result, Ok, Err}
use Rattle.relay.specs.Relaying.{Side}
use Rattle.relay.specs.declared.end.RelayEnd.{RelayEnd}
use Rattle.relay.specs.declared.end.RelayEnd.TheVariants.{Relayed, CommandLine, Socket, Fault}
use Rattle.relay.specs.Ending.{line_of as end_line, status_of as end_status}
use Rattle.relay.specs.shell.Turns.{Stops, TalksAll}
use Rattle.wire.specs.declared.fault.WireFault.TheVariants.{NoMemory}

-- 0: all lines were read, none was wrong, and each reply was the expected one; 1: a line was wrong or a reply differed;
-- if reading ended early, the status of that end
abbrev pub status_of : Result Bool RelayEnd → ℕ
status_of (Ok true) = 0
status_of (Ok false) = 1
status_of (Err end) = end_status end

-- the error message, empty if all lines were read
abbrev pub line_of : Result Bool RelayEnd → List ℕ
line_of (Ok well) = []
line_of (Err end) = end_line end

module _ (own own_new : Side) where
  -- some peer was talked to
  abbrev pub Talks : Result Bool RelayEnd → Type 0
  Talks (Ok well) = (peer peer_new : Side) × TalksAll own peer own_new peer_new well
  Talks (Err Relayed) = ⊥
  Talks (Err CommandLine) = ⊥
  Talks (Err Socket) = own_new ≡ own
  Talks (Err (Fault fault)) = ((fault ≡ NoMemory) × (own_new ≡ own)) ⊎ ((peer : Side) × Stops own peer own_new)
