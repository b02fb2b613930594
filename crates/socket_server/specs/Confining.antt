-- A connection that is confined to the space that it is attached to.
use Rattle.std.specs.Prelude.{◌≡◌, ◌⊎◌, ℕ, true, List, Option, Some, MatchBool, option_map}
use Rattle.calls.specs.declared.request.Request.TheVariants as request
use Rattle.codes.specs.declared.name.TheConstants.{NO_SPACE}
use Rattle.frame_service.specs.Asking.{Act, Acted}
use Rattle.frame_service.specs.declared.asking.PendingFrame.{PendingFrame}
use Rattle.ipc_model.specs.calls.Step.{succeeded}
use Rattle.ipc_model.specs.state.State.{State}
use Rattle.keepers.specs.Tokens.{SessionValue}
use Rattle.socket_server.specs.Connecting.{AcknowledgesOne, AskedValue, ConnectedValue, LacksOne, LooksOne, MakesOne, answer_of, is_confined, seen_by}

-- the space that its session's task is attached to
abbrev pub space_of : ConnectedValue → Option ℕ
space_of c = option_map (λ (s : SessionValue). s.task.space) c.session

-- It is confined, and in this space or, where that has gone, in none.
pub record StaysIn (space : Option ℕ) (new : ConnectedValue) : Type 0 where
  pub confined : is_confined new ≡ true
  pub space_is : (space_of new ≡ space) ⊎ (space_of new ≡ Some NO_SPACE)

-- Whatever frames are taken in hand and answered, and whenever it learns what others did: a connection that is confined
-- stays confined, and its session is in the space in which it was before, or in none. Each call that it makes is one of
-- its session in that very space, or in none (`MakesOne`).
abbrev pub ConfinedConnectionsStay : Type 0
ConfinedConnectionsStay =
    (base : State) (old : ConnectedValue) (queue : List (PendingFrame AskedValue)) (acts : List (Act AskedValue))
    (left : List (PendingFrame AskedValue)) (new : ConnectedValue) → is_confined old ≡ true
    → Acted answer_of (MakesOne base) (LacksOne base) (AcknowledgesOne base) (λ old asked fault after. after ≡ old)
    (LooksOne base) old queue acts left new
    → StaysIn (space_of old) new

-- Number 23 that is answered 0 confines its connection, to the space that it was attached to, since all that its session
-- then has seen; another answer doesn't.
abbrev pub AnswerSaysConfined : Type 0
AnswerSaysConfined =
    (base : State) (old : ConnectedValue) (asked : AskedValue) (new : ConnectedValue)
    → MakesOne base old request.Confine asked new
    → MatchBool (succeeded (answer_of asked)) (StaysIn (space_of old) new × (new.since ≡ seen_by new))
    (new.since ≡ old.since)
