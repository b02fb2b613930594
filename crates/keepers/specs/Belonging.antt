-- Which sessions belong to one history.
use Rattle.std.specs.Prelude.{◌≡◌, ℕ, ◌<◌, ◌≤◌, List, [], ◌∷◌, length, map}
use Rattle.history.specs.Entries.{Begins}
use Rattle.history.specs.Pasts.{PastValue}
use Rattle.history.specs.declared.entry.Entry.{Entry}
use Rattle.ipc_model.specs.history.History.{Session, places_of}
use Rattle.ipc_model.specs.state.State.{State}
use Rattle.keepers.specs.Tokens.{SessionValue, IsHistory, IsSession}

-- what the sessions are in the history
abbrev pub tasks_of : List SessionValue → List Session
tasks_of sessions = map (λ s. s.task) sessions

-- A session belongs to a history of which this many records are stored: it has seen a prefix of it, and no more than is
-- stored was acknowledged to it. Its number is greater than the last one's.
pub record Belongs (base : State) (entries : List Entry) (stored last : ℕ) (session : SessionValue) : Type 0 where
  pub ascends : last < session.number
  pub begins : Begins session.past.entries entries
  pub acknowledged : session.task.acknowledged ≤ stored
  pub is : IsSession base session (length session.task.places)

-- This is recognized where the history is still in the entry block that the session saw last, and no shorter than what
-- it saw.
pub record CanBelong (past : PastValue) (stored last : ℕ) (session : SessionValue) : Type 0 where
  pub ascends : last < session.number
  pub same : session.past.blocks ≡ past.blocks
  pub within : length session.past.entries ≤ length past.entries
  pub acknowledged : session.task.acknowledged ≤ stored

-- Each of these sessions does, and their numbers ascend.
abbrev pub AllBelong : State → List Entry → ℕ → ℕ → List SessionValue → Type 0
AllBelong base entries stored last [] = Unit {0}
AllBelong base entries stored last (session ∷ sessions) =
    Belongs base entries stored last session × AllBelong base entries stored session.number sessions

abbrev pub AllCanBelong : PastValue → ℕ → ℕ → List SessionValue → Type 0
AllCanBelong past stored last [] = Unit {0}
AllCanBelong past stored last (session ∷ sessions) =
    CanBelong past stored last session × AllCanBelong past stored session.number sessions

-- What both halves and the sessions that are handed in have in common: one history, which begins with what the store's
-- half knows, and to which all of these sessions belong. If they are all that were made, it has as many records as they
-- have places.
pub record Match (base : State) (known entries : List Entry) (stored made : ℕ)
    (sessions : List SessionValue) : Type 0 where
  pub history : IsHistory base entries
  pub begins : Begins known entries
  pub belong : AllBelong base entries stored 0 sessions
  pub most : length sessions ≤ made
  pub all : length sessions ≡ made → length (places_of (tasks_of sessions)) ≡ length entries
