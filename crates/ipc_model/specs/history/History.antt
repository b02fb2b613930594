-- Legal histories: several sessions, each with the calls of a task, and the one list of records that their calls make.
use Rattle.std.specs.Prelude.{◌≡◌, ◌≢◌, ◌⊎◌, ℕ, ◌<◌, ◌≤◌, Bool, max, eqb, true, false, List, [], ◌∷◌, ◌++◌, length, take, map, flat_map, AllPairs, Some, slice_get, if◌then◌else◌}
use Rattle.std.specs.List.{list_any}
use Rattle.codes.specs.declared.name.TheConstants.{FIRST_SPACE, NO_SPACE}
use Rattle.ipc_model.specs.declared.call.Call.{Call}
use Rattle.ipc_model.specs.declared.call.Call.TheVariants.{Plain}
use Rattle.ipc_model.specs.declared.plain_call.PlainCall.TheVariants as call
use Rattle.ipc_model.specs.declared.reply.Reply.{Reply}
use Rattle.ipc_model.specs.declared.record.Record.{Record}
use Rattle.ipc_model.specs.state.State.{State}
use Rattle.ipc_model.specs.calls.Step.{Steps, Answer, has_record, succeeded}

-- The history begins in the state that the opening found, and is the list of records made since. A record's place is
-- the number of records before it. Records that the opening read are not part of it: they led to the state it begins
-- in.

-- A session: the space that its task is attached to; how many records of the history it has seen; how many were
-- acknowledged to it (the most that any reply saw which it redeemed); for each ticket that its calls were given, how
-- many records the ticket's reply saw; and the places of its own records.
pub record Session : Type 0 where
  pub space : ℕ
  pub seen : ℕ
  pub acknowledged : ℕ
  pub tickets : List ℕ
  pub places : List ℕ

-- What a session does: a call of its task is answered with a ticket; one of its tickets is redeemed, whose reply saw
-- this many records; a ticket of another session is redeemed; the session only sees more of the history, as where a
-- call isn't taken, or where two sessions meet; or its space was destroyed, and its task is attached to none from then
-- on, also where a new space gets the number.
pub data Operation : Type 0 where
  called : Call → Reply → Operation
  redeemed : (seen : ℕ) → Operation
  redeemed_for_another : (seen : ℕ) → Operation
  looked : Operation
  detached : Operation

-- the space that a call attaches its task to, where it is done
abbrev pub attached_by : ℕ → Call → ℕ
attached_by space (Plain (call.Attach other)) = other
attached_by space c = space

-- the space that a task is attached to after a call with this reply
abbrev pub space_after : ℕ → Call → Reply → ℕ
space_after space c answer = if succeeded answer then attached_by space c else space

-- A call with a record stands at one place, at or after what its session had seen before, with the session's space, the
-- call and the reply. The session has then seen it.
pub record HasPlace (history : List Record) (old : Session) (c : Call) (answer : Reply) (new : Session) : Type 0 where
  pub recorded : has_record c answer ≡ true
  pub place : ℕ
  pub unseen : old.seen ≤ place
  pub there : slice_get history place ≡ Some (record { space = old.space; call = c; reply = answer })
  pub seen : place < new.seen
  pub after : new ≡ record old {
    seen = new.seen;
    tickets = old.tickets ++ new.seen ∷ [];
    places = old.places ++ place ∷ [];
  }

-- Every other reply is an answer in the state after some prefix of the history, no shorter than what its session had
-- seen before. The session has then seen this prefix.
pub record IsAnswered (base : State) (history : List Record) (old : Session) (c : Call) (answer : Reply)
    (new : Session) : Type 0 where
  pub unrecorded : has_record c answer ≡ false
  pub beginning : ℕ
  pub unseen : old.seen ≤ beginning
  pub state : State
  pub run : Steps base (take beginning history) state
  pub answered : Answer state old.space c answer
  pub seen : beginning ≤ new.seen
  pub after : new ≡ record old {
    space = space_after old.space c answer;
    seen = new.seen;
    tickets = old.tickets ++ new.seen ∷ [];
  }

-- a session was given a ticket whose reply saw this many records
abbrev pub has_ticket : Session → ℕ → Bool
has_ticket session seen = list_any (eqb seen) session.tickets

-- the operation of redeeming a ticket whose reply saw this many records
abbrev pub redemption : Session → ℕ → Operation
redemption session seen = if has_ticket session seen then redeemed seen else redeemed_for_another seen

-- this many records, or more before, are then acknowledged to the session, and it has seen them
abbrev pub IsAcknowledgedUpTo : Session → ℕ → Session → Type 0
IsAcknowledgedUpTo old seen new =
    (seen ≤ new.seen) × (new ≡ record old { seen = new.seen; acknowledged = max old.acknowledged seen })

-- a call that destroys the space of its task
abbrev pub is_destruction : Call → Bool
is_destruction (Plain call.SpaceDestroy) = true
is_destruction c = false

-- a record by which the space of this number was destroyed
abbrev pub Destroys : ℕ → Record → Type 0
Destroys space entry = (is_destruction entry.call ≡ true) × (entry.space ≡ space)

-- The session's space was destroyed by a record that the session has then seen. Its task is attached to no space.
pub record IsDetached (history : List Record) (old new : Session) : Type 0 where
  pub place : ℕ
  pub entry : Record
  pub there : slice_get history place ≡ Some entry
  pub destroys : Destroys old.space entry
  pub seen : place < new.seen
  pub after : new ≡ record old { space = NO_SPACE; seen = new.seen }

-- what an operation makes of a session; no reply is redeemed that saw more than the session has then seen
abbrev pub Leads : State → List Record → Session → Operation → Session → Type 0
Leads base history old (called c answer) new =
    HasPlace history old c answer new ⊎ IsAnswered base history old c answer new
Leads base history old (redeemed seen) new = (has_ticket old seen ≡ true) × IsAcknowledgedUpTo old seen new
Leads base history old (redeemed_for_another seen) new = IsAcknowledgedUpTo old seen new
Leads base history old looked new = new ≡ record old { seen = new.seen }
Leads base history old detached new = IsDetached history old new

-- A session after one more operation: it forgets nothing that it saw, and sees no more than there is.
pub record After (base : State) (history : List Record) (old : Session) (operation : Operation)
    (new : Session) : Type 0 where
  pub leads : Leads base history old operation new
  pub more : old.seen ≤ new.seen
  pub within : new.seen ≤ length history

-- and after several, one after another
abbrev pub AfterAll : State → List Record → Session → List Operation → Session → Type 0
AfterAll base history old [] new = new ≡ old
AfterAll base history old (first ∷ operations) new =
    (mid : Session) × After base history old first mid × AfterAll base history mid operations new

-- A new session is attached to the first space, nothing is acknowledged to it, and it has seen a prefix of the history.
pub record IsNew (history : List Record) (session : Session) : Type 0 where
  pub space : session.space ≡ FIRST_SPACE
  pub within : session.seen ≤ length history
  pub acknowledged : session.acknowledged ≡ 0
  pub tickets : session.tickets ≡ []
  pub places : session.places ≡ []

-- A session is legal in a history that runs from this base if these operations lead to it from a new session.
pub record Legal (base : State) (history : List Record) (operations : List Operation) (session : Session) : Type 0 where
  pub start : Session
  pub new : IsNew history start
  pub after : AfterAll base history start operations session

-- several sessions, each with its operations
abbrev pub Sessions : Type 0
Sessions = List (List Operation × Session)

abbrev pub AllLegal : State → List Record → Sessions → Type 0
AllLegal base history [] = Unit {0}
AllLegal base history ((operations, session) ∷ sessions) =
    Legal base history operations session × AllLegal base history sessions

abbrev pub places_of : List Session → List ℕ
places_of sessions = flat_map (λ session. session.places) sessions

-- No place belongs to two of these sessions.
abbrev pub AreApart : List Session → Type 0
AreApart sessions = AllPairs (λ place other. place ≢ other) (places_of sessions)

-- A legal history: its records are steps from the base, each session is legal, and no place belongs to two.
pub record IsLegalHistory (base : State) (history : List Record) (sessions : Sessions) : Type 0 where
  pub end : State
  pub run : Steps base history end
  pub legal : AllLegal base history sessions
  pub apart : AreApart (map (λ session. session.1) sessions)

-- These are all the sessions that there were: there are as many records as they have places together.
abbrev pub AreAll : List Record → List Session → Type 0
AreAll history sessions = length (places_of sessions) ≡ length history

-- Two sessions that meet have then both seen the longer prefix, and no place belongs to both.
pub record Meet (one other one_after other_after : Session) : Type 0 where
  pub one_sees : one_after ≡ record one { seen = max one.seen other.seen }
  pub other_sees : other_after ≡ record other { seen = max one.seen other.seen }
  pub apart : AreApart (one ∷ other ∷ [])
