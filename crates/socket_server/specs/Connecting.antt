-- A connection among others: how what its task asks for changes its session.
use Rattle.std.specs.Prelude.{◌≡◌, ℕ, Bool, Option, Some, is_some, option_map, if◌then◌else◌, refl}
use Rattle.std.specs.Coded.{Coded, code_by, coded×, coded_ℕ, coded_option}
use Rattle.calls.specs.declared.request.Request.{Request}
use Rattle.calls.specs.declared.request.Request.TheVariants as request
use Rattle.frame_service.specs.Confining.{attach_to, made_of, shown, shown_for}
use Rattle.frame_service.specs.contracts.confining.Shown as shown_row
use Rattle.frame_service.specs.declared.confining.Shown.{Shown}
use Rattle.frame_service.specs.declared.confining.Shown.TheVariants.{ToConfine}
use Rattle.ipc_model.specs.calls.Step.{succeeded}
use Rattle.ipc_model.specs.declared.reply.Reply.{Reply}
use Rattle.ipc_model.specs.history.History.{looked, redemption}
use Rattle.ipc_model.specs.state.State.{State}
use Rattle.keepers.specs.Destroying.{MadeSince}
use Rattle.keepers.specs.Tokens.{SessionValue, Did, session_code}
use Rattle.system.specs.Halves.{TicketValue}
use Rattle.system.specs.TicketCode.{ticket_code}

-- The caller of a connection: its session, which exists between calls; and if it is confined to the space that the
-- session's task is attached to, how many records the session had seen then.
pub record ConnectedValue : Type 0 where
  pub session : Option SessionValue
  pub since : Option ℕ

abbrev pub connected_code : Coded ConnectedValue
connected_code =
    code_by (Option SessionValue × Option ℕ) (coded× (coded_option session_code) (coded_option coded_ℕ))
    (λ c. (c.session, c.since)) (λ p. record { session = p.0; since = p.1 }) (λ _. refl)

abbrev pub is_confined : ConnectedValue → Bool
is_confined c = is_some c.since

-- how many records its session has seen
abbrev pub seen_by : ConnectedValue → Option ℕ
seen_by c = option_map (λ (s : SessionValue). s.task.seen) c.session

-- A call that was made for what was asked: the ticket that keeps its reply, and how the connection shows that.
pub record AskedValue : Type 0 where
  pub ticket : TicketValue
  pub shown : Shown

abbrev pub asked_code : Coded AskedValue
asked_code =
    code_by (TicketValue × Shown) (coded× ticket_code shown_row.the_row.coded) (λ a. (a.ticket, a.shown))
    (λ p. record { ticket = p.0; shown = p.1 }) (λ _. refl)

abbrev pub answer_of : AskedValue → Reply
answer_of asked = shown asked.shown asked.ticket.answer

-- what became of a session, which exists before and after
abbrev pub Becomes : (SessionValue → SessionValue → Type 0) → Option SessionValue → Option SessionValue → Type 0
Becomes P (Some old) (Some new) = P old new
Becomes P old new = ⊥

-- What becomes of a connection where a call was made: the one that was asked for, but for an attach of a confined one;
-- or, to confine it, an attach to its own space, and where that is done it is confined, since all that it then has seen.
-- Each call of a confined one is made in the very space that it was confined to, or in none (`MadeSince`). The two of a
-- mach_msg are asked for one by one.
abbrev pub MakesOne : State → ConnectedValue → Request → AskedValue → ConnectedValue → Type 0
MakesOne base old (request.One c) asked new =
    Becomes (λ one other. MadeSince base old.since one (made_of (is_confined old) one.task.space c) asked.ticket other)
    old.session new.session
    × (asked.shown ≡ shown_for (is_confined old) c) × (new.since ≡ old.since)
MakesOne base old request.Confine asked new =
    Becomes (λ one other. MadeSince base old.since one (attach_to one.task.space) asked.ticket other)
    old.session new.session
    × (asked.shown ≡ ToConfine)
    × (new.since ≡ (if succeeded asked.ticket.answer then seen_by new else old.since))
MakesOne base old asks asked new = ⊥

-- where its session learned what others did;
abbrev pub LooksOne : State → ConnectedValue → ConnectedValue → Type 0
LooksOne base old new =
    Becomes (λ one other. Did base one looked other) old.session new.session × (new.since ≡ old.since)

-- where a call wasn't made, since there was no memory or no room for its record, or its client had gone, which leaves the
-- session where it was;
abbrev pub LacksOne : State → ConnectedValue → Request → ConnectedValue → Type 0
LacksOne base old asks new = LooksOne base old new

-- and where its ticket was redeemed.
abbrev pub AcknowledgesOne : State → ConnectedValue → AskedValue → ConnectedValue → Type 0
AcknowledgesOne base old asked new =
    Becomes (λ one other. Did base one (redemption one.task asked.ticket.seen) other) old.session new.session
    × (new.since ≡ old.since)
