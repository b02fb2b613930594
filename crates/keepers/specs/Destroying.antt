-- When spaces were destroyed, by the history that is kept, and what becomes of a session that is confined to one.
use Rattle.std.specs.Prelude.{◌≡◌, ◌⊎◌, ℕ, ◌-◌, ◌<◌, ◌≤◌, ◌==◌, nat_lt, Bool, true, false, ◌&&◌, List, Option, None, Some, slice_get, slice_index_or, if◌then◌else◌}
use Rattle.codes.specs.declared.kern_return.KernReturn.TheVariants.{InvalidTask}
use Rattle.codes.specs.declared.limits.TheConstants.{MAX_SPACES}
use Rattle.codes.specs.declared.name.TheConstants.{NO_SPACE}
use Rattle.history.specs.Entries.{Begins}
use Rattle.history.specs.declared.entry.Entry.{Entry}
use Rattle.ipc_model.specs.calls.Step.{has_record, refused}
use Rattle.ipc_model.specs.declared.call.Call.{Call}
use Rattle.ipc_model.specs.history.History as history
use Rattle.ipc_model.specs.history.History.{detached, is_destruction}
use Rattle.ipc_model.specs.state.State.{State}
use Rattle.keepers.specs.Keeping.{MadeAfter}
use Rattle.keepers.specs.Tokens.{SessionValue, Did, IsSession}
use Rattle.system.specs.Halves.{TicketValue}

-- an entry whose record destroyed a space under this number
abbrev pub Destroys : ℕ → Entry → Type 0
Destroys space e = history.Destroys space e.«record»

-- the number that a table has for a space, 0 where it has none
abbrev pub count_at : List ℕ → ℕ → ℕ
count_at counts space = slice_index_or counts space 0

-- For each space, how many records had been made right after one under its number was last destroyed, 0 if none was: a
-- destruction stands before that place, and the last one right there.
pub record Tells (counts : List ℕ) (entries : List Entry) : Type 0 where
  pub before : (space place : ℕ) (e : Entry) → slice_get entries place ≡ Some e → Destroys space e
      → place < count_at counts space
  pub last : (space : ℕ) → 0 < count_at counts space
      → (e : Entry) × (slice_get entries (count_at counts space - 1) ≡ Some e) × Destroys space e

abbrev pub TellsOf : List ℕ → Option (List Entry) → Type 0
TellsOf counts None = ⊥
TellsOf counts (Some entries) = Tells counts entries

-- whether a call that was made, with so many records before and after it, destroyed its space
abbrev pub is_noted : Call → ℕ → ℕ → Bool
is_noted c before after = nat_lt before after && is_destruction c

-- the table after it
abbrev pub IsNoted : List ℕ → ℕ → Call → ℕ → ℕ → List ℕ → Type 0
IsNoted old space c before after new =
    (q : ℕ) → count_at new q ≡ (if is_noted c before after && (q == space) then after else count_at old q)

-- A call that destroys its space is made in one whose number a table has room for.
abbrev pub DestroysKnown : ℕ → Call → TicketValue → Type 0
DestroysKnown space c ticket =
    has_record c ticket.answer ≡ true → is_destruction c ≡ true → space ≤ MAX_SPACES

-- No space under this number was destroyed after so many records; or one was.
abbrev pub StaysSince : ℕ → ℕ → Option (List Entry) → Type 0
StaysSince since space None = ⊥
StaysSince since space (Some entries) =
    (place : ℕ) (e : Entry) → since ≤ place → slice_get entries place ≡ Some e → Destroys space e → ⊥

abbrev pub IsGoneSince : ℕ → ℕ → Option (List Entry) → Type 0
IsGoneSince since space None = ⊥
IsGoneSince since space (Some entries) =
    (place : ℕ) × (e : Entry) × (since ≤ place) × (slice_get entries place ≡ Some e) × Destroys space e

-- A session that is confined since so many records: it is as it was, and its space wasn't destroyed since; or it was,
-- and the session has seen that and is detached.
abbrev pub SettlesExactly : State → ℕ → Option (List Entry) → SessionValue → SessionValue → Type 0
SettlesExactly base since entries old new =
    ((new ≡ old) × StaysSince since old.task.space entries)
    ⊎ (Did base old detached new × IsGoneSince since old.task.space entries)

-- The session with which a call is made after these records: settled, if it is confined, and else as it was.
abbrev pub SettlesBy : State → Option ℕ → Option (List Entry) → SessionValue → SessionValue → Type 0
SettlesBy base None entries old new = new ≡ old
SettlesBy base (Some since) entries old new = SettlesExactly base since entries old new

-- A call of a session that may be confined, since so many records: it was made right after this history, with the
-- session as that history settles it. So where it is confined, it was made in its space, which wasn't destroyed since;
-- or in no space, as that was.
pub record MadeSince (base : State) (since : Option ℕ) (old : SessionValue) (c : Call) (ticket : TicketValue)
    (new : SessionValue) : Type 0 where
  pub before : List Entry
  pub settled : SessionValue
  pub settles : SettlesBy base since (Some before) old settled
  pub made : MadeAfter base before settled c ticket new

-- A session that has seen more since it was in this space, and did nothing else but leave it.
pub record WasIn (base : State) (space : ℕ) (now : SessionValue) : Type 0 where
  pub old : SessionValue
  pub amount : ℕ
  pub session : IsSession base old amount
  pub begins : Begins old.past.entries now.past.entries
  pub same : now.number ≡ old.number
  pub task : record now.task { space = space; seen = old.task.seen } ≡ old.task

-- A session that is in no space is refused its call, and stays in none.
abbrev pub NoSpaceIsRefused : Type 0
NoSpaceIsRefused =
    (base : State) (before : List Entry) (old : SessionValue) (c : Call) (ticket : TicketValue) (new : SessionValue)
    → MadeAfter base before old c ticket new → old.task.space ≡ NO_SPACE
    → (ticket.answer ≡ refused c InvalidTask) × (new.task.space ≡ NO_SPACE)
