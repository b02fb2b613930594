-- What remains of sessions of one history once both halves are closed.
use Rattle.std.specs.Prelude.{◌≡◌, ℕ, List, map}
use Rattle.disk.specs.Moments.{View, MayLeave}
use Rattle.disk.specs.Slots.{Slots}
use Rattle.history.specs.Entries.{records_of}
use Rattle.history.specs.declared.entry.Entry.{Entry}
use Rattle.ipc_model.specs.calls.Step.{Steps}
use Rattle.ipc_model.specs.history.History.{Sessions, IsLegalHistory}
use Rattle.ipc_model.specs.history.Once.{Once}
use Rattle.ipc_model.specs.state.State.{State}
use Rattle.keepers.specs.Belonging.{tasks_of}
use Rattle.keepers.specs.Tokens.{SessionValue, IsHistory}
use Rattle.keepers.specs.Storing.{StandsFor}

-- Operations led to each of these sessions, in one legal history.
pub record AreLegal (base : State) (entries : List Entry) (sessions : List SessionValue) : Type 0 where
  pub each : Sessions
  pub theirs : map (λ s. s.1) each ≡ tasks_of sessions
  pub legal : IsLegalHistory base (records_of entries) each

-- A history in which numbered calls are made once.
pub record IsMadeOnce (base : State) (entries : List Entry) : Type 0 where
  pub end : State
  pub run : Steps base (records_of entries) end
  pub once : Once base (records_of entries) end

-- A crash leaves the state after a prefix of a history's records, no fewer than are stored.
pub record IsLeft (base : State) (stored : ℕ) (view : View) : Type 0 where
  pub entries : List Entry
  pub history : IsHistory base entries
  pub stands : (c : Slots) → MayLeave view c → StandsFor base stored (records_of entries) c
