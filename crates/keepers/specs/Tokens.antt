-- Sessions of one history, as the tokens of what they have seen.
use Rattle.std.specs.Prelude.{◌≡◌, ◌⊎◌, ℕ, ◌<◌, ◌≤◌, List, [], ◌∷◌, ◌++◌, length, option_map, slice_get, Some, refl}
use Rattle.history.specs.Entries.{Begins, records_of}
use Rattle.std.specs.Coded.{Coded, code_by, coded×, coded_ℕ, coded_list}
use Rattle.history.specs.Pasts.{PastValue, past_code}
use Rattle.history.specs.declared.entry.Entry.{Entry}
use Rattle.ipc_model.specs.calls.Step.{Steps}
use Rattle.ipc_model.specs.declared.call.Call.{Call}
use Rattle.ipc_model.specs.declared.reply.Reply.{Reply}
use Rattle.ipc_model.specs.history.History.{Session, Operation, After, Legal, Meet}
use Rattle.ipc_model.specs.state.State.{State}

-- the entry of a session's call with this reply
abbrev pub entry_by : ℕ → ℕ → Call → Reply → Entry
entry_by number space c answer =
    record { session = number; «record» = record { space = space; call = c; reply = answer } }

-- a past with one more entry
abbrev pub with_entry : PastValue → Entry → PastValue
with_entry past e = record past { entries = past.entries ++ e ∷ [] }

-- A session as a token: its number, the prefix of the history that it has seen, and what it is in the history. It has
-- seen all that it knows.
pub record SessionValue : Type 0 where
  pub number : ℕ
  pub past : PastValue
  pub task : Session

abbrev pub task_code : Coded Session
task_code =
    code_by (ℕ × (ℕ × (ℕ × (List ℕ × List ℕ))))
    (coded× coded_ℕ (coded× coded_ℕ (coded× coded_ℕ (coded× (coded_list coded_ℕ) (coded_list coded_ℕ)))))
    (λ s. (s.space, (s.seen, (s.acknowledged, (s.tickets, s.places)))))
    (λ p. record {
      space = p.0;
      seen = p.1.0;
      acknowledged = p.1.1.0;
      tickets = p.1.1.1.0;
      places = p.1.1.1.1;
    }) (λ _. refl)

abbrev pub session_code : Coded SessionValue
session_code =
    code_by (ℕ × (PastValue × Session)) (coded× coded_ℕ (coded× past_code task_code))
    (λ s. (s.number, (s.past, s.task))) (λ p. record { number = p.0; past = p.1.0; task = p.1.1 }) (λ _. refl)

abbrev pub session_of : ℕ → ℕ → ℕ → List ℕ → List ℕ → PastValue → SessionValue
session_of number space acknowledged tickets places past =
    record {
      number = number;
      past = past;
      task = record {
        space = space;
        seen = length past.entries;
        acknowledged = acknowledged;
        tickets = tickets;
        places = places;
      };
    }

-- the session, attached to this space
abbrev pub attached_to : ℕ → SessionValue → SessionValue
attached_to space session = record session { task = record session.task { space = space } }

-- at these places stand entries of the session
abbrev pub AreOwn : List Entry → ℕ → List ℕ → Type 0
AreOwn entries number places =
    (i place : ℕ) → slice_get places i ≡ Some place
    → option_map (λ e. e.session) (slice_get entries place) ≡ Some number

-- A history that the machine can have made from a state.
pub record IsHistory (base : State) (entries : List Entry) : Type 0 where
  pub state : State
  pub run : Steps base (records_of entries) state

-- What holds of each session: what it has seen is a history, in which some operations lead to it from a new session;
-- its own entries stand at its places, of which there are this many.
pub record IsSession (base : State) (session : SessionValue) (amount : ℕ) : Type 0 where
  pub history : IsHistory base session.past.entries
  pub operations : List Operation
  pub legal : Legal base (records_of session.past.entries) operations session.task
  pub seen : session.task.seen ≡ length session.past.entries
  pub own : AreOwn session.past.entries session.number session.task.places
  pub counted : amount ≡ length session.task.places

-- A session after an operation, in the history that it has then seen. It forgets nothing.
pub record Did (base : State) (old : SessionValue) (operation : Operation) (new : SessionValue) : Type 0 where
  pub after : After base (records_of new.past.entries) old.task operation new.task
  pub begins : Begins old.past.entries new.past.entries
  pub same : new.number ≡ old.number

-- Two sessions met. Both have then seen the same, of which what either had seen is a prefix, and no place belongs to
-- both.
pub record Meets (one other one_after other_after : SessionValue) : Type 0 where
  pub meet : Meet one.task other.task one_after.task other_after.task
  pub same : one_after.past.entries ≡ other_after.past.entries
  pub begins : Begins one.past.entries one_after.past.entries
  pub begins_too : Begins other.past.entries other_after.past.entries
  pub number : one_after.number ≡ one.number
  pub number_too : other_after.number ≡ other.number

-- A past is behind another: in an earlier entry block, or in the same one with no more entries.
abbrev pub IsAfter : PastValue → PastValue → Type 0
IsAfter past other =
    (past.blocks < other.blocks) ⊎ ((past.blocks ≡ other.blocks) × (length past.entries ≤ length other.entries))
