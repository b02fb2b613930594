-- A single connection that is confined to the space that it is attached to.
use Rattle.std.specs.Prelude.{◌≡◌, true, MatchBool}
use Rattle.calls.specs.declared.request.Request.TheVariants as request
use Rattle.disk.specs.Moments.{View}
use Rattle.ipc_model.specs.calls.Step.{succeeded}
use Rattle.ipc_model.specs.declared.reply.Reply.{Reply}
use Rattle.frame_service.specs.Serving.{Answers, Exchanges}
use Rattle.server.specs.Keeping.{AloneValue, AnswersAsked, RestsKept}

-- it is confined, and in the same space
pub record StaysIn {D : Type 0} (old new : AloneValue D) : Type 0 where
  pub confined : new.confined ≡ true
  pub space : new.space ≡ old.space

-- Whatever frames are answered, with the time after each: a caller that is confined stays confined, and attached to the
-- space that it was attached to. Each call that it makes is made in the space of that moment (`AnswersKept`).
abbrev pub ConfinedConnectionsStay : {D : Type 0} → Type 0 → (D → View) → Type 0
ConfinedConnectionsStay {D} honest view =
    (old : AloneValue D) (exchanges : Exchanges) (new : AloneValue D) → old.confined ≡ true
    → Answers (AnswersAsked honest view) (RestsKept honest view) old exchanges new → StaysIn old new

-- Number 23 that is answered 0 confines its connection, to the space that it was attached to; another answer leaves it
-- as it was.
abbrev pub AnswerSaysConfined : {D : Type 0} → Type 0 → (D → View) → Type 0
AnswerSaysConfined {D} honest view =
    (old : AloneValue D) (answer : Reply) (new : AloneValue D)
    → AnswersAsked honest view old request.Confine answer new
    → MatchBool (succeeded answer) (StaysIn old new) (new ≡ old)
